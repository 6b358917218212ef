use Rattle.shaping.specs.ScanLaws.{scan_ready, mark_after}
use Rattle.shaping.proofs.marks.mark.Goals as goal

pub scan-requires : goal.scan-requires
scan-requires c = scan_ready _ _ _ _ c.requires.0 c.requires.1 c.requires.2 c.clear_marks.ensures

pub returns : goal.returns
returns c = mark_after _ _ _ _ _ _ c.clear_marks.ensures c.scan.ensures
