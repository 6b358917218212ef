use Rattle.shaping.specs.FillLaws.{fill_asked, fill_after}
use Rattle.shaping.proofs.marks.restore.Goals as goal

pub fill-requires : goal.fill-requires
fill-requires c = fill_asked _ _ _ _ c.requires.0 c.requires.1 c.requires.2 c.requires.3 c.clear_marks.ensures

pub returns : goal.returns
returns c = fill_after _ _ _ _ _ c.clear_marks.ensures c.fill.ensures
