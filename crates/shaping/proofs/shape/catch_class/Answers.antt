use Rattle.kit.specs.Pick.{calls}
use Rattle.rules.specs.Handlers.{catch_in, class_in}
use Rattle.shaping.proofs.shape.catch_class.Goals as goal

pub returns-then-c-eq0 : goal.returns-then-c-eq0
unfolding catch_in class_in
returns-then-c-eq0 c = search calls

pub returns-then-w-eq2 : goal.returns-then-w-eq2
unfolding catch_in class_in
returns-then-w-eq2 c = rw (← c.named_word-w.ensures) (search calls)

pub returns : goal.returns
unfolding catch_in class_in
returns c = rw (← c.named_word-w.ensures) (search calls)
