use Rattle.std.proofs.Common.{sym, ◌∙◌}
use Rattle.rules.specs.GroupLaws.{int_via}
use Rattle.kit.specs.Bools.{not_so}
use Rattle.verifier.proofs.quick.two_ints.Goals as goal

pub returns-then-h-lt2 : goal.returns-then-h-lt2
returns-then-h-lt2 c = λ e. absurd (not_so e)

pub returns-then-is_int : goal.returns-then-is_int
returns-then-is_int c = λ e. record { depth = c.if-h-lt2.false; first = sym (int_via _ _ _ c.is_int.ensures c.peek-a.ensures) ∙ c.if-is_int.true; second = sym (int_via _ _ _ c.is_int-then-is_int.ensures c.peek-b.ensures) ∙ e }

pub returns : goal.returns
returns c = λ e. absurd (not_so e)
