use Rattle.std.proofs.Common.{arith}
use Rattle.verifier.specs.FrameTableLaws.{table-cut, table-many, frames-asked, table_read}
use Rattle.verifier.proofs.frame_table.table.Goals as goal

pub returns-in_err-c : goal.returns-in_err-c
returns-in_err-c c = table-cut _ _ _ c.requires.0 _ _ _ c.from_residual.ensures.1 c.in_err-c.ensures

pub returns-then-c-gt256 : goal.returns-then-c-gt256
returns-then-c-gt256 c = table-many _ _ _ c.requires.0 _ _ _ c.in_ok-c.ensures c.if-c-gt256.true

pub given-m-requires : goal.given-m-requires
given-m-requires c = (c.requires.0.marked.here.bounded.class, c.requires.0.marked.here.bounded.method)

pub start-requires : goal.start-requires
start-requires c = (c.requires.0.marked.here.bounded.class, c.requires.0.marked.here.bounded.method, c.requires.0.marked.here.bounded.locals, omega (arith, c.requires.0.marked.long))

pub over_frames-requires : goal.over_frames-requires
over_frames-requires c = frames-asked _ _ _ c.requires.0 c.requires.1 c.requires.2 _ c.start.result _ c.start.ensures c.given-m.ensures c.start.auto.t _ c.if-c-gt256.false

pub returns : goal.returns
returns c = table_read _ _ _ c.requires.0 c.requires.1 c.requires.2 _ c.start.result _ c.start.ensures c.given-m.ensures c.start.auto.t _ _ _ c.in_ok-c.ensures c.if-c-gt256.false _ _ c.over_frames.ensures
