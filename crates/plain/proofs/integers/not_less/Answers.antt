use Rattle.plain.proofs.integers.not_less.Goals as goal

pub returns : goal.returns
returns c = cc
