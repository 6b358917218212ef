use Rattle.std.proofs.Common.{refl}
use Rattle.rules.specs.Resolve.{new_of}
use Rattle.rules.specs.DecodeLaws.{type_yes, type_no, new-class, new_none}
use Rattle.rules.proofs.decode.new_object.Goals as goal

pub returns-then-w-ne2 : goal.returns-then-w-ne2
returns-then-w-ne2 c = type_no _ _ (λ r. new_of r) c.if-w-ne2.true refl

pub returns-then-k-eq0 : goal.returns-then-k-eq0
returns-then-k-eq0 c = type_yes _ _ (λ r. new_of r) c.if-w-ne2.false (new-class _ c.if-k-eq0.true)

pub returns : goal.returns
returns c = type_yes _ _ (λ r. new_of r) c.if-w-ne2.false (new_none _ c.if-k-eq0.false)
