use Rattle.running.specs.Popping.{part_long, pops_window}
use Rattle.running.proofs.popping.pop_at.Goals as goal

pub pop-requires : goal.pop-requires
pop-requires c = (c.requires.0, part_long _ _ c.requires.1 c.requires.4, part_long _ _ c.requires.2 c.requires.4, c.requires.6)

pub returns : goal.returns
returns c = pops_window _ _ _ c.args.s.now c.args.g.now c.args.d _ _ _ c.pop.ensures
