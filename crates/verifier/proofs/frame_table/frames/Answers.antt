use Rattle.std.proofs.Common.{arith}
use Rattle.texts.specs.Reading.{part}
use Rattle.verifier.specs.FrameTableLaws.{frames_none, frames_one}
use Rattle.verifier.proofs.frame_table.frames.Goals as goal

pub returns-then-x-ne1 : goal.returns-then-x-ne1
returns-then-x-ne1 c = frames_none _ _ _ c.requires.0 _ c.if-x-ne1.true c.listed.ensures

pub slice_bounds-f-count : goal.slice_bounds-f-count
slice_bounds-f-count c = omega (arith, c.requires.0.marked.here.bounded.frames_from, c.requires.0.marked.here.bounded.frames_to)

pub slice_bounds-f-start : goal.slice_bounds-f-start
slice_bounds-f-start c = omega (arith, c.requires.0.marked.here.bounded.frames_from, c.requires.0.marked.here.bounded.frames_to)

pub slice_bounds-f-end : goal.slice_bounds-f-end
slice_bounds-f-end c = omega (arith, c.requires.0.marked.here.bounded.frames_from, c.requires.0.marked.here.bounded.frames_to)

pub table-requires : goal.table-requires
table-requires c = c.requires

pub returns : goal.returns
unfolding part
returns c = frames_one _ _ _ c.requires.0 _ _ c.if-x-ne1.false c.table.ensures
