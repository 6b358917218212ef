use Rattle.classfiles.specs.Faults.{table_bad, table_ok}
use Rattle.classfiles.specs.Past.{no_value, res_err}
use Rattle.classfiles.specs.Pool.{pool_at}
use Rattle.kit.specs.Pick.{if_ge, if_ne}
use Rattle.std.proofs.Common.{arith, ◌∙◌}
use Rattle.texts.specs.Answers.{reads, t_ok}
use Rattle.texts.specs.Ends.{u2_val}
use Rattle.classfiles.proofs.pool.pool.Goals as goal

pub returns-in_err-n : goal.returns-in_err-n
unfolding pool_at
returns-in_err-n c = (search (reads, c.in_err-n.ensures) depth 12, no_value _ _ _ c.from_residual.ensures.1)

pub returns-then-n-eq0 : goal.returns-then-n-eq0
unfolding pool_at
returns-then-n-eq0 c = (search (reads, c.in_ok-n.ensures) depth 12, tt)

pub returns-then-n-gt1024 : goal.returns-then-n-gt1024
unfolding pool_at
returns-then-n-gt1024 c = (search (reads, c.in_ok-n.ensures) depth 12, tt)

pub all_tags-requires : goal.all_tags-requires
unfolding pool_at
all_tags-requires c =
    (omega arith, (u2_val _ _ _ _ c.in_ok-n.ensures).2, omega arith, omega arith)

pub returns-in_err-z : goal.returns-in_err-z
unfolding pool_at
returns-in_err-z c = (search (reads, c.in_ok-n.ensures, c.in_err-z.ensures) depth 14, no_value _ _ _ c.from_residual-in_err-z.ensures.1)

pub returns-in_err-at : goal.returns-in_err-at
unfolding pool_at
returns-in_err-at c = (
  t_ok _ _ _ _ _ c.in_ok-n.ensures
      (if_ne _ _ _ _ _ c.if-n-eq0.false
      (if_ge _ _ _ _ _ c.if-n-gt1024.false
      (t_ok _ _ _ _ _ c.in_ok-z.ensures
      (res_err _ _ _ c.from_residual-in_err-at.ensures.1 ∙ table_bad c.args.s.now c.all_tags.new.t _ _ (omega arith) _ _ c.in_err-at.ensures)))),
  no_value _ _ _ c.from_residual-in_err-at.ensures.1,
)

pub returns : goal.returns
unfolding pool_at
returns c = (
  t_ok _ _ _ _ _ c.in_ok-n.ensures
      (if_ne _ _ _ _ _ c.if-n-eq0.false
      (if_ge _ _ _ _ _ c.if-n-gt1024.false
      (t_ok _ _ _ _ _ c.in_ok-z.ensures
      (table_ok c.args.s.now c.all_tags.new.t _ _ (omega arith) _ c.in_ok-at.ensures)))),
  omega arith,
)
