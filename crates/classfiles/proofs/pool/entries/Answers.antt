use Rattle.classfiles.specs.Loops.{many_stop}
use Rattle.classfiles.specs.Past.{past_err}
use Rattle.classfiles.specs.Pool.{entry_at}
use Rattle.classfiles.specs.Table.{entry_val, put_done, put_next}
use Rattle.kit.specs.Words.{length_put}
use Rattle.std.proofs.Common.{arith, ◌∙◌}
use Rattle.classfiles.proofs.pool.entries.Goals as goal

pub returns-in_err-g : goal.returns-in_err-g
returns-in_err-g c = past_err _ _ _ c.from_residual.ensures.1 ∙ many_stop (entry_at c.args.s.now) _ _ _ _ _ c.loop-k.invariant.2 c.loop-k-test.true _ _ c.in_err-g.ensures

pub loop-k-preserved : goal.loop-k-preserved
loop-k-preserved c =
    (rw (c.put_word.ensures, length_put) c.loop-k.invariant.0, (entry_val c.args.s.now _ _ _ c.in_ok-g.ensures).1, put_next c.args.s.now _ _ _ c.loop-k.t _ _ _ _ c.loop-k.invariant.2 c.loop-k-test.true (omega arith) (omega arith) c.in_ok-g.ensures c.put_word.ensures)

pub returns : goal.returns
returns c = put_done c.args.s.now _ _ _ _ _ c.loop-k.invariant.2 c.loop-k-test.false (omega arith)
