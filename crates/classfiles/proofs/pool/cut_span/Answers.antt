use Rattle.classfiles.specs.Table.{cut_none, cut_short, cut-whole}
use Rattle.classfiles.proofs.pool.cut_span.Goals as goal

pub returns-then-s-from : goal.returns-then-s-from
returns-then-s-from c = cut_none _ _ _ c.if-s-from.true

pub returns-then-s-from-2 : goal.returns-then-s-from-2
returns-then-s-from-2 c = cut_short _ _ _ c.if-s-from.false c.if-s-from-2.true

pub returns : goal.returns
returns c = cut-whole _ _ _ c.if-s-from.false c.if-s-from-2.false
