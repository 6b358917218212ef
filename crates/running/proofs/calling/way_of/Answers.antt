use Rattle.running.specs.Sending.{ready_virtual, ready-init, ready-static, virtual_route, init_route, static_route, paid_arm, owner_arm}
use Rattle.running.proofs.calling.way_of.Goals as goal

pub into_virtual-requires : goal.into_virtual-requires
into_virtual-requires c = (ready_virtual _ _ _ _ _ _ _ _ _ c.requires.0 c.in-Virtual.is, paid_arm c.args.b.now _ _ _ _ _ _ _ _ _ _ c.in-Virtual.is c.requires.2)

pub into_constructor-requires : goal.into_constructor-requires
into_constructor-requires c = (ready-init _ _ _ _ _ _ _ _ _ c.requires.0 c.in-Special.is, owner_arm c.args.b.now c.args.t.now c.args.s.now c.args.g.now c.args.x c.args.d c.args.k _ _ c.in-Special.is c.requires.1, paid_arm c.args.b.now _ _ _ _ _ _ _ _ _ _ c.in-Special.is c.requires.2)

pub into_static-requires : goal.into_static-requires
into_static-requires c = (ready-static _ _ _ _ _ _ _ _ _ c.requires.0 c.in-Static.is, paid_arm c.args.b.now _ _ _ _ _ _ _ _ _ _ c.in-Static.is c.requires.2)

pub returns-in-Virtual : goal.returns-in-Virtual
returns-in-Virtual c = virtual_route c.args.b.now c.args.t.now c.args.s.now c.args.g.now c.args.x c.args.d c.args.k c.args.cells.now c.into_virtual.result c.args.i _ c.in-Virtual.is c.into_virtual.ensures

pub returns-in-Special : goal.returns-in-Special
returns-in-Special c = init_route c.args.b.now c.args.t.now c.args.s.now c.args.g.now c.args.x c.args.d c.args.k c.args.cells.now c.into_constructor.result c.args.i _ c.in-Special.is c.into_constructor.ensures

pub returns-in-Static : goal.returns-in-Static
returns-in-Static c = static_route c.args.b.now c.args.t.now c.args.s.now c.args.g.now c.args.x c.args.d c.args.k c.args.cells.now c.into_static.result c.args.i _ c.in-Static.is c.into_static.ensures
