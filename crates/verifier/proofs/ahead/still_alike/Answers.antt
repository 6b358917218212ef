use Rattle.verifier.specs.Ahead.{level_quiet, level_alike}
use Rattle.verifier.proofs.ahead.still_alike.Goals as goal

pub returns-then-o-quiet : goal.returns-then-o-quiet
returns-then-o-quiet c = level_quiet _ _ _ _ c.requires.0 c.if-o-quiet.true

pub alike_from-requires : goal.alike_from-requires
alike_from-requires c = (c.requires.1, c.requires.2)

pub returns : goal.returns
returns c = level_alike _ _ _ _ _ c.alike_from.ensures c.if-o-quiet.false
