use Rattle.shaping.specs.TraitLaws.{by_traits}
use Rattle.rules.specs.Instruction.{Traits, all_below}
use Rattle.std.proofs.Common.{refl, cond, false}
use Rattle.shaping.specs.TraitLaws.{plain-traits, stack-traits, leave-traits, call-traits, branch_form}
use Rattle.shaping.proofs.marks.form_ok.Goals as goal

pub returns-in-Simple : goal.returns-in-Simple
returns-in-Simple c = by_traits (λ (T : Traits). cond T.legal (all_below c.args.n T.locals) false) _ _ _ _ c.in-Simple.is (plain-traits c.in-Simple.field-0) refl

pub returns-in-Jump : goal.returns-in-Jump
returns-in-Jump c = rw (c.in-Jump.is, branch_form _ _)

pub returns-in-OnStack : goal.returns-in-OnStack
returns-in-OnStack c = by_traits (λ (T : Traits). cond T.legal (all_below c.args.n T.locals) false) _ _ _ _ c.in-OnStack.is (stack-traits c.in-OnStack.field-0) refl

pub returns-in-Leaving : goal.returns-in-Leaving
returns-in-Leaving c = by_traits (λ (T : Traits). cond T.legal (all_below c.args.n T.locals) false) _ _ _ _ c.in-Leaving.is (leave-traits c.in-Leaving.field-0) refl

pub returns-in-Calling : goal.returns-in-Calling
returns-in-Calling c = by_traits (λ (T : Traits). cond T.legal (all_below c.args.n T.locals) false) _ _ _ _ c.in-Calling.is (call-traits c.in-Calling.field-0) refl
