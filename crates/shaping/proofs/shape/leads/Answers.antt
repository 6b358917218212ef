use Rattle.shaping.specs.Marks.{lines_at}
use Rattle.shaping.specs.TraitLaws.{by_traits, by_told}
use Rattle.rules.specs.Instruction.{Traits, targets}
use Rattle.rules.specs.InstructionWords.{instr_of}
use Rattle.rules.specs.declared.instruction.Instr as code
use Rattle.std.proofs.Common.{ap, sym, ◌∙◌}
use Rattle.rules.specs.Shape.{all_starts}
use Rattle.shaping.specs.TraitLaws.{plain-traits, stack-traits, leave-traits, call-traits, local_targets, leads_none}
use Rattle.shaping.proofs.shape.leads.Goals as goal

pub returns-in-Simple : goal.returns-in-Simple
returns-in-Simple c = by_traits (λ (T : Traits). all_starts (lines_at c.args.s.now c.args.t.now c.args.x) T.targets) _ _ _ _ c.in-Simple.is (plain-traits c.in-Simple.field-0) (leads_none _)

pub returns-in-OnLocal : goal.returns-in-OnLocal
returns-in-OnLocal c = by_told (λ (i : code.Instr). all_starts (lines_at c.args.s.now c.args.t.now c.args.x) (targets (instr_of i))) _ _ _ c.in-OnLocal.is (ap (all_starts (lines_at c.args.s.now c.args.t.now c.args.x)) (local_targets c.in-OnLocal.field-0) ∙ sym (leads_none _))

pub returns-in-OnStack : goal.returns-in-OnStack
returns-in-OnStack c = by_traits (λ (T : Traits). all_starts (lines_at c.args.s.now c.args.t.now c.args.x) T.targets) _ _ _ _ c.in-OnStack.is (stack-traits c.in-OnStack.field-0) (leads_none _)

pub returns-in-Leaving : goal.returns-in-Leaving
returns-in-Leaving c = by_traits (λ (T : Traits). all_starts (lines_at c.args.s.now c.args.t.now c.args.x) T.targets) _ _ _ _ c.in-Leaving.is (leave-traits c.in-Leaving.field-0) (leads_none _)

pub returns-in-New : goal.returns-in-New
returns-in-New c = rw c.in-New.is (leads_none _)

pub returns-in-Calling : goal.returns-in-Calling
returns-in-Calling c = by_traits (λ (T : Traits). all_starts (lines_at c.args.s.now c.args.t.now c.args.x) T.targets) _ _ _ _ c.in-Calling.is (call-traits c.in-Calling.field-0) (leads_none _)

pub returns-in-Illegal : goal.returns-in-Illegal
returns-in-Illegal c = rw c.in-Illegal.is (leads_none _)

pub returns-in-Unresolved : goal.returns-in-Unresolved
returns-in-Unresolved c = rw c.in-Unresolved.is (leads_none _)
