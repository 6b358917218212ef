use Rattle.reader.specs.Numbers.{other_as}
use Rattle.reader.proofs.link.other_name.Goals as goal

pub returns : goal.returns
returns c = other_as c.args.s.now c.args.t.now c.args.x.now c.args.c _ _ (rw (← c.block.ensures) c.name_in.ensures) c.same_text.ensures
