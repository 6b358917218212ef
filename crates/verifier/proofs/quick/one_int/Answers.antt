use Rattle.std.proofs.Common.{sym, ◌∙◌}
use Rattle.rules.specs.GroupLaws.{int_via}
use Rattle.kit.specs.Bools.{not_so}
use Rattle.verifier.proofs.quick.one_int.Goals as goal

pub returns-then-h-lt1 : goal.returns-then-h-lt1
returns-then-h-lt1 c = λ e. absurd (not_so e)

pub returns : goal.returns
returns c = λ e. record { depth = c.if-h-lt1.false; first = sym (int_via _ _ _ c.is_int.ensures c.peek-a.ensures) ∙ e }
