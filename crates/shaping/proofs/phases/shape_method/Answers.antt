use Rattle.shaping.specs.Phases.{method_shaped}
use Rattle.shaping.proofs.phases.shape_method.Goals as goal

pub returns : goal.returns
returns c = method_shaped _ _ _ _ _ _ _ _ c.code_site-x.ensures c.shape_of.ensures
