use Rattle.shaping.specs.ShapeWhole.{begun_codes, begun_tables, begun_params, begun_marks}
use Rattle.std.proofs.Common.{refl}
use Rattle.shaping.proofs.shape.begun.Goals as goal

pub returns-then-x-ne1 : goal.returns-then-x-ne1
returns-then-x-ne1 c = begun_codes _ _ _ c.requires.0 _ refl c.if-x-ne1.true

pub returns-then-x-gt1 : goal.returns-then-x-gt1
returns-then-x-gt1 c = begun_tables _ _ _ c.requires.0 c.if-x-ne1.false _ refl c.if-x-gt1.true

pub returns-then-x-parameters : goal.returns-then-x-parameters
returns-then-x-parameters c = begun_params _ _ _ c.requires.0 c.if-x-ne1.false c.if-x-gt1.false _ c.parameters.ensures _ refl c.if-x-parameters.true

pub returns : goal.returns
returns c = begun_marks _ _ _ c.requires.0 c.if-x-ne1.false c.if-x-gt1.false _ c.parameters.ensures _ _ c.if-x-parameters.false c.requires.1 c.mark.ensures
