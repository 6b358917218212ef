use Rattle.std.proofs.Common.{◌≡◌, false, sym, ◌∙◌}
use Rattle.rules.specs.Known.{hides}
use Rattle.rules.specs.SlotLaws.{veil_no}
use Rattle.rules.proofs.dispatch.hidden.Goals as goal

pub returns : goal.returns
returns c = λ l. let e : hides c.args.i ≡ false = sym c.hides.ensures ∙ c.if-hides.false in rw e (veil_no _ l ∙ sym (veil_no _ l))
