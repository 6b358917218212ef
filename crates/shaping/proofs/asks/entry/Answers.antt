use Rattle.kit.specs.Pick.{picks}
use Rattle.shaping.specs.Asks.{entry_of}
use Rattle.shaping.proofs.asks.entry.Goals as goal

pub returns-then-k-eq9 : goal.returns-then-k-eq9
unfolding entry_of
returns-then-k-eq9 c = search picks

pub returns : goal.returns
unfolding entry_of
returns c = search picks
