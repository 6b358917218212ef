use Rattle.texts.specs.Reading.{part}
use Rattle.shaping.specs.ScanLaws.{scan_less}
use Rattle.shaping.specs.FillLaws.{fill_start, fill_end, fill_room, fill_listed, fill_turn}
use Rattle.shaping.proofs.marks.fill.Goals as goal

pub slice_bounds-code-count : goal.slice_bounds-code-count
unfolding part
slice_bounds-code-count c = c.requires.0.bounded.from

pub slice_bounds-code-end : goal.slice_bounds-code-end
unfolding part
slice_bounds-code-end c = c.requires.0.bounded.to

pub loop-o-init : goal.loop-o-init
unfolding part
loop-o-init c = fill_start _ _ _ c.requires.0 c.requires.1 c.requires.3 c.requires.4

pub bounds-t-o : goal.bounds-t-o
bounds-t-o c = fill_room _ _ _ c.requires.0 c.requires.1 _ _ c.loop-o.invariant c.loop-o-test.true c.requires.2

pub loop-o-smaller : goal.loop-o-smaller
unfolding part
loop-o-smaller c = scan_less _ _ _ c.loop-o-test.true (fill_listed _ _ _ c.requires.0 c.requires.1 _ _ c.loop-o.invariant _ c.loop-o-test.true c.size_at-o.ensures.0)

pub loop-o-preserved : goal.loop-o-preserved
unfolding part
loop-o-preserved c = fill_turn _ _ _ c.requires.0 c.requires.1 _ _ c.loop-o.invariant _ c.loop-o-test.true c.size_at-o.ensures.0 _ c.byte.ensures.0 c.byte.ensures.1 _ c.opcode_mark.ensures c.requires.2

pub returns : goal.returns
returns c = fill_end _ _ _ c.requires.0 c.requires.1 _ _ c.loop-o.invariant c.loop-o-test.false c.requires.2
