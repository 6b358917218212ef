use Rattle.reader.specs.Prints.{texts_print}
use Rattle.reader.proofs.printing.member_print.Goals as goal

pub returns : goal.returns
returns c = texts_print c.args.s.now _ c.args.method c.args.j _ _ _ c.member_name-x.ensures c.member_descriptor-y.ensures c.print.ensures
