use Rattle.classfiles.specs.Table.{part_none, part_rest, part_whole}
use Rattle.classfiles.proofs.pool.cut.Goals as goal

pub returns-then-s-from : goal.returns-then-s-from
returns-then-s-from c = part_none _ _ _ c.if-s-from.true

pub returns-then-rest-n : goal.returns-then-rest-n
returns-then-rest-n c = part_rest _ _ _ c.if-rest-n.true

pub returns : goal.returns
returns c = part_whole _ _ _
