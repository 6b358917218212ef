use Rattle.texts.specs.Reading.{short_at}
use Rattle.texts.specs.Answers.{reads, t_hand}
use Rattle.texts.proofs.items.short.Goals as goal

pub returns-in_err-n : goal.returns-in_err-n
unfolding short_at
returns-in_err-n g c = t_hand _ _ _ _ _ _ _ c.from_residual.ensures.1 c.in_err-n.ensures

pub returns-then-most-n : goal.returns-then-most-n
unfolding short_at
returns-then-most-n g c = search (reads, c.in_ok-n.ensures, c.past_limit.ensures) depth 12

pub returns : goal.returns
unfolding short_at
returns g c = search (reads, c.in_ok-n.ensures) depth 12
