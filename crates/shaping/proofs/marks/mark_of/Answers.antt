use Rattle.shaping.specs.TraitLaws.{by_traits, by_told}
use Rattle.rules.specs.Instruction.{Traits, is_some, is_new}
use Rattle.rules.specs.InstructionWords.{instr_of}
use Rattle.rules.specs.declared.instruction.Instr as code
use Rattle.std.proofs.Common.{refl, ap, ℕ, Bool, cond}
use Rattle.shaping.specs.TraitLaws.{plain-traits, stack-traits, leave-traits, call-traits, branch-new, local_new}
use Rattle.shaping.proofs.marks.mark_of.Goals as goal

pub returns-in-Simple : goal.returns-in-Simple
returns-in-Simple c = by_traits (λ (T : Traits). cond {A = ℕ} (is_some T.makes) 2 1) _ _ _ _ c.in-Simple.is (plain-traits c.in-Simple.field-0) refl

pub returns-in-Jump : goal.returns-in-Jump
returns-in-Jump c = by_told (λ (i : code.Instr). cond {A = ℕ} (is_new (instr_of i)) 2 1) _ _ _ c.in-Jump.is (ap (λ (b : Bool). cond {A = ℕ} b 2 1) (branch-new c.in-Jump.field-0))

pub returns-in-OnLocal : goal.returns-in-OnLocal
returns-in-OnLocal c = by_told (λ (i : code.Instr). cond {A = ℕ} (is_new (instr_of i)) 2 1) _ _ _ c.in-OnLocal.is (ap (λ (b : Bool). cond {A = ℕ} b 2 1) (local_new c.in-OnLocal.field-0))

pub returns-in-OnStack : goal.returns-in-OnStack
returns-in-OnStack c = by_traits (λ (T : Traits). cond {A = ℕ} (is_some T.makes) 2 1) _ _ _ _ c.in-OnStack.is (stack-traits c.in-OnStack.field-0) refl

pub returns-in-Leaving : goal.returns-in-Leaving
returns-in-Leaving c = by_traits (λ (T : Traits). cond {A = ℕ} (is_some T.makes) 2 1) _ _ _ _ c.in-Leaving.is (leave-traits c.in-Leaving.field-0) refl

pub returns-in-Calling : goal.returns-in-Calling
returns-in-Calling c = by_traits (λ (T : Traits). cond {A = ℕ} (is_some T.makes) 2 1) _ _ _ _ c.in-Calling.is (call-traits c.in-Calling.field-0) refl
