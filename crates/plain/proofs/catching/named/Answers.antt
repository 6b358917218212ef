use Rattle.kit.specs.Pick.{calls}
use Rattle.plain.specs.Catching.{named_in}
use Rattle.plain.proofs.catching.named.Goals as goal

pub returns-then-k-ge16 : goal.returns-then-k-ge16
unfolding named_in
returns-then-k-ge16 c = search calls depth 12

pub returns-then-i-ge1024 : goal.returns-then-i-ge1024
unfolding named_in
returns-then-i-ge1024 c = search calls depth 12

pub returns : goal.returns
unfolding named_in
returns c = search calls depth 12
