use Rattle.machine.specs.Onward.{onward_ahead, onward_by}
use Rattle.machine.proofs.turns.onward.Goals as goal

pub forward-q-requires : goal.forward-q-requires
forward-q-requires c = onward_ahead c.args.b.now c.args.n c.args.t.now c.args.s.now c.args.g.now c.args.cells.now c.args.d c.args.k c.args.x c.requires.2 c.requires.0 c.requires.1

pub returns : goal.returns
returns c = onward_by c.args.b.now c.args.n c.args.t.now c.args.s.now c.args.g.now c.args.cells.now c.args.d c.args.k c.args.x c.requires.2 c.args.used c.args.left _ _ _ c.forward-q.result c.forward-q.ensures
