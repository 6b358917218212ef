use Rattle.kit.specs.Pick.{picks}
use Rattle.shaping.specs.Asks.{needs_of}
use Rattle.shaping.proofs.asks.needs.Goals as goal

pub returns-then-k-lt5 : goal.returns-then-k-lt5
unfolding needs_of
returns-then-k-lt5 c = search picks

pub returns-then-k-eq5 : goal.returns-then-k-eq5
unfolding needs_of
returns-then-k-eq5 c = search picks

pub returns : goal.returns
unfolding needs_of
returns c = search picks
