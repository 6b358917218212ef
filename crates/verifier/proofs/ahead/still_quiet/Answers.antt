use Rattle.verifier.proofs.ahead.still_quiet.Goals as goal

pub returns-then-o-quiet : goal.returns-then-o-quiet
returns-then-o-quiet c = c.requires.0

pub quiet_from-requires : goal.quiet_from-requires
quiet_from-requires c = (c.requires.1, c.requires.2)

pub returns : goal.returns
returns c = c.quiet_from.ensures
