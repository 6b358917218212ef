use Rattle.shaping.specs.TraitLaws.{by_traits, by_told}
use Rattle.rules.specs.Instruction.{Traits, resolved}
use Rattle.rules.specs.InstructionWords.{instr_of}
use Rattle.rules.specs.declared.instruction.Instr as code
use Rattle.std.proofs.Common.{refl}
use Rattle.shaping.specs.TraitLaws.{plain-traits, stack-traits, leave-traits, call-traits, branch-resolved, local_resolved}
use Rattle.shaping.proofs.shape.is_resolved.Goals as goal

pub returns-in-Simple : goal.returns-in-Simple
returns-in-Simple c = by_traits (λ (T : Traits). T.resolved) _ _ _ _ c.in-Simple.is (plain-traits c.in-Simple.field-0) refl

pub returns-in-Jump : goal.returns-in-Jump
returns-in-Jump c = by_told (λ (i : code.Instr). resolved (instr_of i)) _ _ _ c.in-Jump.is (branch-resolved c.in-Jump.field-0)

pub returns-in-OnLocal : goal.returns-in-OnLocal
returns-in-OnLocal c = by_told (λ (i : code.Instr). resolved (instr_of i)) _ _ _ c.in-OnLocal.is (local_resolved c.in-OnLocal.field-0)

pub returns-in-OnStack : goal.returns-in-OnStack
returns-in-OnStack c = by_traits (λ (T : Traits). T.resolved) _ _ _ _ c.in-OnStack.is (stack-traits c.in-OnStack.field-0) refl

pub returns-in-Leaving : goal.returns-in-Leaving
returns-in-Leaving c = by_traits (λ (T : Traits). T.resolved) _ _ _ _ c.in-Leaving.is (leave-traits c.in-Leaving.field-0) refl

pub returns-in-Calling : goal.returns-in-Calling
returns-in-Calling c = by_traits (λ (T : Traits). T.resolved) _ _ _ _ c.in-Calling.is (call-traits c.in-Calling.field-0) refl
