use Rattle.std.proofs.Common.{◌∙◌, arith}
use Rattle.verifier.specs.FrameTableLaws.{rows_start, rows_stop, row-asked, rows_next, rows_done, rows_left}
use Rattle.verifier.proofs.frame_table.over_frames.Goals as goal

pub loop-k-init : goal.loop-k-init
loop-k-init c = rows_start _ _ _ _ _ _ _ c.requires.0 c.requires.2

pub frame-requires : goal.frame-requires
frame-requires c = (c.loop-k.invariant.ready, c.loop-k.invariant.locals, c.loop-k.invariant.near)

pub shape_of-t-in_err-r : goal.shape_of-t-in_err-r
shape_of-t-in_err-r c = c.in_err-r.ensures.besides.long ∙ c.loop-k.invariant.long

pub returns-in_err-r : goal.returns-in_err-r
returns-in_err-r c = rows_stop _ _ _ _ _ _ _ _ _ _ _ _ c.loop-k.invariant c.loop-k-test.true _ _ c.in_err-r.ensures _ c.from_residual.ensures.1

pub overflow_add-o : goal.overflow_add-o
overflow_add-o c = omega (arith, (row-asked _ _ _ _ _ _ _ _ _ _ _ _ c.loop-k.invariant c.loop-k-test.true c.in_ok-r.r _ c.in_ok-r.ensures c.requires.1).3)

pub overflow_mul-k : goal.overflow_mul-k
overflow_mul-k c = omega arith

pub overflow_add-k : goal.overflow_add-k
overflow_add-k c = omega arith

pub put_row-requires : goal.put_row-requires
put_row-requires c = (row-asked _ _ _ _ _ _ _ _ _ _ _ _ c.loop-k.invariant c.loop-k-test.true c.in_ok-r.r _ c.in_ok-r.ensures c.requires.1)

pub overflow_add-from : goal.overflow_add-from
overflow_add-from c = omega (arith, (row-asked _ _ _ _ _ _ _ _ _ _ _ _ c.loop-k.invariant c.loop-k-test.true c.in_ok-r.r _ c.in_ok-r.ensures c.requires.1).3)

pub loop-k-preserved : goal.loop-k-preserved
loop-k-preserved c = rows_next _ _ _ _ _ _ _ _ _ _ _ _ c.loop-k.invariant c.loop-k-test.true c.in_ok-r.r _ c.in_ok-r.ensures c.requires.1 _ c.put_row.ensures

pub shape_of-t-then-at-f : goal.shape_of-t-then-at-f
shape_of-t-then-at-f c = c.loop-k.invariant.long

pub returns-then-at-f : goal.returns-then-at-f
returns-then-at-f c = rows_done _ _ _ _ _ _ _ _ _ _ _ _ c.loop-k.invariant _ c.requires.1 c.loop-k-test.false c.if-at-f.true c.listed.ensures

pub shape_of-t : goal.shape_of-t
shape_of-t c = c.loop-k.invariant.long

pub returns : goal.returns
returns c = rows_left _ _ _ _ _ _ _ _ _ _ _ _ c.loop-k.invariant c.loop-k-test.false c.if-at-f.false
