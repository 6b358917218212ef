use Rattle.shaping.specs.ShapeWhole.{shaped_first, shaped_second}
use Rattle.shaping.proofs.shape.shape_of.Goals as goal

pub returns-in_err-begun : goal.returns-in_err-begun
returns-in_err-begun c = shaped_first _ _ _ c.requires.0 _ _ _ c.in_err-begun.ensures c.from_residual.ensures.1

pub returns : goal.returns
returns c = shaped_second _ _ _ c.requires.0 _ _ c.in_ok-begun.ensures c.ended.ensures
