use Rattle.shaping.specs.Asks.{kind_of}
use Rattle.shaping.proofs.asks.kind.Goals as goal

pub returns : goal.returns
unfolding kind_of
returns c = rw c.packed-w.ensures
