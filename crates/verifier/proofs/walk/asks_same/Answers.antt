use Rattle.std.proofs.Common.{sym, ◌∙◌, arith, rules, ap}
use Rattle.kit.specs.Bools.{not_so}
use Rattle.verifier.specs.Quick.{steady}
use Rattle.verifier.proofs.walk.asks_same.Goals as goal

pub returns-then-loose : goal.returns-then-loose
returns-then-loose c = λ e z. absurd (not_so (sym z ∙ c.if-loose.true))

pub byte-requires : goal.byte-requires
byte-requires c = search (rules, arith)

pub keeps_locals-requires : goal.keeps_locals-requires
keeps_locals-requires c = search (rules, arith)

pub returns : goal.returns
returns c = λ e z. ap steady (sym c.byte.ensures.0) ∙ sym c.keeps_locals.ensures ∙ e
