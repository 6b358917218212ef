use Rattle.reader.specs.Whole.{whole_stop, whole_few, whole_ready, whole_members}
use Rattle.reader.proofs.whole.linked.Goals as goal

pub returns-in_err-classes : goal.returns-in_err-classes
returns-in_err-classes c = whole_stop c.args.s.now c.args.n c.args.t.now c.classes.new.t c.requires.0 _ c.in_err-classes.ensures _ c.from_residual.ensures.1

pub print_all-requires : goal.print_all-requires
print_all-requires c = whole_few c.args.s.now c.args.n c.args.t.now c.classes.new.t c.requires.0 _ c.in_ok-classes.ensures c.requires.1 c.classes.auto.t c.requires.2

pub members-requires : goal.members-requires
members-requires c = let f = whole_few c.args.s.now c.args.n c.args.t.now c.classes.new.t c.requires.0 _ c.in_ok-classes.ensures c.requires.1 c.classes.auto.t c.requires.2 in whole_ready c.args.s.now c.args.n c.args.t.now c.classes.new.t c.requires.0 _ c.in_ok-classes.ensures f.2 c.print_all.new.t c.print_all.ensures f.1

pub returns : goal.returns
returns c = let f = whole_few c.args.s.now c.args.n c.args.t.now c.classes.new.t c.requires.0 _ c.in_ok-classes.ensures c.requires.1 c.classes.auto.t c.requires.2 in whole_members c.args.s.now c.args.n c.args.t.now c.classes.new.t c.requires.0 _ c.in_ok-classes.ensures f.2 c.print_all.new.t c.print_all.ensures c.members.new.t c.members.result c.members.ensures
