use Rattle.std.proofs.Common.{refl, arith}
use Rattle.verifier.specs.Preparing.{prepared}
use Rattle.verifier.proofs.callees.known.Goals as goal

pub peek-w-requires : goal.peek-w-requires
peek-w-requires c = record { inside = let a = c.requires.0.inside in omega arith; locals = c.requires.0.locals; depth = c.requires.0.depth }

pub made_by-made-requires : goal.made_by-made-requires
made_by-made-requires c = (c.requires.6, c.requires.7)

pub params_of-args-requires : goal.params_of-args-requires
params_of-args-requires c = c.requires.2

pub overflow_add-result : goal.overflow_add-result
overflow_add-result c = omega (arith, c.requires.4)

pub overflow_cast-result : goal.overflow_cast-result
overflow_cast-result c = omega (arith, c.requires.4)

pub returns : goal.returns
returns c = prepared _ _ _ _ _ _ _ c.callee_of-m.result c.entry_of-k.result c.count_of.result c.peek-w.result.word c.requires.0 c.requires.1 c.callee_of-m.ensures c.entry_of-k.ensures.0 c.back_of-back.ensures c.requires.4 c.requires.5 c.back_of-gives.ensures c.count_of.ensures.0 c.peek-w.ensures c.made_by-made.ensures refl c.params_of-args.ensures
