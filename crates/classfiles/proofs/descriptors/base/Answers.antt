use Rattle.classfiles.specs.Past.{forms}
use Rattle.classfiles.specs.Shapes.{base_shape, named_via, semicolon_past}
use Rattle.kit.specs.Pick.{picks}
use Rattle.classfiles.proofs.descriptors.base.Goals as goal

pub returns-then-is_at : goal.returns-then-is_at
unfolding base_shape
returns-then-is_at c = search (forms, picks) depth 12

pub named-requires : goal.named-requires
unfolding base_shape
named-requires c = semicolon_past _ _ _ c.semicolon-z.ensures

pub returns-then-is_at-2 : goal.returns-then-is_at-2
unfolding base_shape
returns-then-is_at-2 c = search (named_via, forms, picks) depth 12

pub returns : goal.returns
unfolding base_shape
returns c = search (forms, picks) depth 12
