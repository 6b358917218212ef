use Rattle.reader.specs.Chains.{unique_as}
use Rattle.reader.proofs.link.is_unique.Goals as goal

pub returns : goal.returns
returns c = unique_as c.args.s.now c.args.t.now c.args.n c.args.c _ _ (rw (← c.block.ensures) c.name_in.ensures) c.number.ensures.0
