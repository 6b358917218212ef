use Rattle.classfiles.specs.Blocks.{open_at}
use Rattle.classfiles.specs.Past.{no_value}
use Rattle.texts.specs.Answers.{reads, t_ok}
use Rattle.classfiles.proofs.bundle.opening.Goals as goal

pub returns-in_err-m : goal.returns-in_err-m
unfolding open_at
returns-in_err-m c = (search (reads, c.in_err-m.ensures) depth 12, no_value _ _ _ c.from_residual.ensures.1)

pub returns : goal.returns
unfolding open_at
returns c = (t_ok _ _ _ _ _ c.in_ok-m.ensures c.pool.ensures.0, c.pool.ensures.1)
