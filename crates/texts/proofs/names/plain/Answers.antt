use Rattle.kit.specs.Pick.{picks}
use Rattle.texts.specs.Names.{plain}
use Rattle.texts.proofs.names.plain.Goals as goal

pub returns-then-b-eq46 : goal.returns-then-b-eq46
unfolding plain
returns-then-b-eq46 c = search picks depth 16

pub returns-then-b-eq59 : goal.returns-then-b-eq59
unfolding plain
returns-then-b-eq59 c = search picks depth 16

pub returns-then-b-eq91 : goal.returns-then-b-eq91
unfolding plain
returns-then-b-eq91 c = search picks depth 16

pub returns-then-b-eq47 : goal.returns-then-b-eq47
unfolding plain
returns-then-b-eq47 c = search picks depth 16

pub returns-then-b-eq60 : goal.returns-then-b-eq60
unfolding plain
returns-then-b-eq60 c = search picks depth 16

pub returns-then-b-eq62 : goal.returns-then-b-eq62
unfolding plain
returns-then-b-eq62 c = search picks depth 16

pub returns : goal.returns
unfolding plain
returns c = search picks depth 16
