use Rattle.machine.specs.Filling.{sought_small, asked_print, chosen_by}
use Rattle.std.proofs.Common.{arith}
use Rattle.machine.proofs.dispatch.chosen.Goals as goal

pub member_name-x-requires : goal.member_name-x-requires
member_name-x-requires c = (omega (arith, c.requires.owner, c.requires.tables.most), c.requires.long, omega (arith, c.requires.row, c.requires.tables.limited.methods _ c.requires.owner))

pub member_descriptor-y-requires : goal.member_descriptor-y-requires
member_descriptor-y-requires c = (omega (arith, c.requires.owner, c.requires.tables.most), c.requires.long, omega (arith, c.requires.row, c.requires.tables.limited.methods _ c.requires.owner))

pub print_at-p-requires : goal.print_at-p-requires
print_at-p-requires c = (omega (arith, c.requires.owner, c.requires.tables.most), omega (arith, c.requires.row, c.requires.tables.limited.methods _ c.requires.owner))

pub seek_by-requires : goal.seek_by-requires
seek_by-requires c = (c.requires.tables.most, c.requires.long, c.requires.tables.parents, c.requires.printed, asked_print _ _ _ c.requires.tables c.args.c c.args.o c.args.i _ _ _ c.requires c.print_at-p.ensures c.member_name-x.ensures c.member_descriptor-y.ensures)

pub packed-requires : goal.packed-requires
packed-requires c = sought_small _ _ _ c.requires.tables _ _ c.seek_by.result c.seek_by.ensures

pub returns : goal.returns
returns c = (chosen_by _ _ _ c.requires.tables c.args.c c.args.o c.args.i _ _ c.seek_by.result _ c.requires.owner c.requires.row c.member_name-x.ensures c.member_descriptor-y.ensures c.seek_by.ensures c.packed.ensures.0, c.packed.ensures.1)
