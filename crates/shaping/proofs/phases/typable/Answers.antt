use Rattle.shaping.specs.Passing.{restore_asked, typable}
use Rattle.shaping.proofs.phases.typable.Goals as goal

pub restore-requires : goal.restore-requires
restore-requires c = restore_asked _ _ _ _ _ _ c.site-x.ensures.0 c.requires.3 c.requires.0.long

pub returns : goal.returns
returns c = typable _ _ _ _ _ _ c.site-x.ensures.0 c.requires.3 _ c.site-x.ensures.1 c.restore.ensures
