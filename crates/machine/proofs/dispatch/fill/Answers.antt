use Rattle.machine.specs.Filling.{few_rows, printed_readied, tabled_by}
use Rattle.machine.proofs.dispatch.fill.Goals as goal

pub print_all-requires : goal.print_all-requires
print_all-requires c = few_rows c.args.s.now c.args.n c.args.t.now c.requires

pub fill_all-requires : goal.fill_all-requires
fill_all-requires c = (printed_readied _ _ c.args.t.now _ c.requires c.print_all.ensures, c.print_all.ensures.printed)

pub returns : goal.returns
returns c = tabled_by _ _ c.args.t.now c.print_all.new.t _ c.print_all.ensures c.fill_all.ensures.0 c.fill_all.ensures.1
