use Rattle.machine.specs.Turns.{standing_shaped}
use Rattle.machine.proofs.turns.run_on.Goals as goal

pub site_of-x-requires : goal.site_of-x-requires
site_of-x-requires c = let y = (standing_shaped c.args.b.now c.args.n c.args.t.now c.args.s.now c.args.g.now c.args.d c.args.k c.requires.0) in (y.0, y.1)

pub run_from-requires : goal.run_from-requires
run_from-requires c = (c.requires.0, c.requires.1, c.requires.2, c.site_of-x.ensures)
