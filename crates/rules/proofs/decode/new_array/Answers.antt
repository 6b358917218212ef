use Rattle.std.proofs.Common.{refl}
use Rattle.rules.specs.Resolve.{array_of}
use Rattle.rules.specs.DecodeLaws.{type_yes, type_no, array_some, array_none}
use Rattle.rules.proofs.decode.new_array.Goals as goal

pub returns-then-w-ne2 : goal.returns-then-w-ne2
returns-then-w-ne2 c = type_no _ _ (λ r. array_of r) c.if-w-ne2.true refl

pub returns-then-k-lt7 : goal.returns-then-k-lt7
returns-then-k-lt7 c = type_yes _ _ (λ r. array_of r) c.if-w-ne2.false (array_some _ _ c.if-k-lt7.true c.array_of.ensures)

pub returns : goal.returns
returns c = type_yes _ _ (λ r. array_of r) c.if-w-ne2.false (array_none _ c.if-k-lt7.false)
