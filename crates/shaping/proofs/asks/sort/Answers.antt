use Rattle.kit.specs.Pick.{picks}
use Rattle.shaping.specs.Asks.{sort_of}
use Rattle.shaping.proofs.asks.sort.Goals as goal

pub returns-then-w-lt4 : goal.returns-then-w-lt4
unfolding sort_of
returns-then-w-lt4 c = search picks

pub returns-then-w-ne4 : goal.returns-then-w-ne4
unfolding sort_of
returns-then-w-ne4 c = search picks

pub returns-then-w-eq1 : goal.returns-then-w-eq1
unfolding sort_of
returns-then-w-eq1 c = search picks

pub returns-then-w-eq1-2 : goal.returns-then-w-eq1-2
unfolding sort_of
returns-then-w-eq1-2 c = search picks

pub returns : goal.returns
unfolding sort_of
returns c = search picks
