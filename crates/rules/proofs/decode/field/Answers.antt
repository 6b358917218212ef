use Rattle.rules.proofs.decode.field.Goals as goal

pub returns : goal.returns
returns c = cc
