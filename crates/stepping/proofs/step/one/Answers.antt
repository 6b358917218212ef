use Rattle.stepping.specs.Fetching.{instr_arm, call_arm, stuck_arm, illegal-stuck, unresolved-stuck, ready_jump, ready_call}
use Rattle.stepping.proofs.step.one.Goals as goal

pub jump-requires : goal.jump-requires
jump-requires c = let a = c.args in (c.requires.0, ready_jump a.b.now a.t.now a.s.now a.g.now a.x a.d a.k a.z a.i c.requires.1 _ c.in-Jump.is)

pub call-requires : goal.call-requires
call-requires c = let a = c.args in ((ready_call a.b.now a.t.now a.s.now a.g.now a.x a.d a.k a.z a.i c.requires.1 _ c.in-Calling.is).1, c.requires.0.size)

pub returns-in-Simple : goal.returns-in-Simple
returns-in-Simple c = let a = c.args in instr_arm a.b.now a.t.now a.s.now a.g.now a.cells.now a.x a.d a.k a.used a.z a.i _ _ _ _ _ _ c.in-Simple.is c.simple.ensures

pub returns-in-Jump : goal.returns-in-Jump
returns-in-Jump c = let a = c.args in instr_arm a.b.now a.t.now a.s.now a.g.now a.cells.now a.x a.d a.k a.used a.z a.i _ _ _ _ _ _ c.in-Jump.is c.jump.ensures

pub returns-in-OnLocal : goal.returns-in-OnLocal
returns-in-OnLocal c = let a = c.args in instr_arm a.b.now a.t.now a.s.now a.g.now a.cells.now a.x a.d a.k a.used a.z a.i _ _ _ _ _ _ c.in-OnLocal.is c.on_local.ensures

pub returns-in-OnStack : goal.returns-in-OnStack
returns-in-OnStack c = let a = c.args in instr_arm a.b.now a.t.now a.s.now a.g.now a.cells.now a.x a.d a.k a.used a.z a.i _ _ _ _ _ _ c.in-OnStack.is c.on_stack.ensures

pub returns-in-Leaving : goal.returns-in-Leaving
returns-in-Leaving c = let a = c.args in instr_arm a.b.now a.t.now a.s.now a.g.now a.cells.now a.x a.d a.k a.used a.z a.i _ _ _ _ _ _ c.in-Leaving.is c.leave.ensures

pub returns-in-New : goal.returns-in-New
returns-in-New c = let a = c.args in instr_arm a.b.now a.t.now a.s.now a.g.now a.cells.now a.x a.d a.k a.used a.z a.i _ _ _ _ _ _ c.in-New.is c.make.ensures

pub returns-in-Calling : goal.returns-in-Calling
returns-in-Calling c = let a = c.args in call_arm a.b.now a.t.now a.s.now a.g.now a.cells.now a.x a.d a.k a.used a.z a.i _ _ _ _ _ _ c.in-Calling.is (ready_call a.b.now a.t.now a.s.now a.g.now a.x a.d a.k a.z a.i c.requires.1 _ c.in-Calling.is).0 c.call.ensures

pub returns-in-Illegal : goal.returns-in-Illegal
returns-in-Illegal c = let a = c.args in stuck_arm a.b.now a.t.now a.s.now a.g.now a.cells.now a.x a.d a.k a.used a.z a.i _ c.in-Illegal.is (illegal-stuck a.b.now a.t.now a.s.now a.g.now a.cells.now a.x a.d a.k a.used a.z)

pub returns-in-Unresolved : goal.returns-in-Unresolved
returns-in-Unresolved c = let a = c.args in stuck_arm a.b.now a.t.now a.s.now a.g.now a.cells.now a.x a.d a.k a.used a.z a.i _ c.in-Unresolved.is (unresolved-stuck a.b.now a.t.now a.s.now a.g.now a.cells.now a.x a.d a.k a.used a.z)
