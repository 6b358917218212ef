use Rattle.std.proofs.Common.{eq-eqb, ne_eqb}
use Rattle.shaping.specs.Asks.{name_fault}
use Rattle.shaping.proofs.shape.name_fault.Goals as goal

pub returns-then-sort-k : goal.returns-then-sort-k
unfolding name_fault
returns-then-sort-k c = rw (← c.byte-a.ensures.0, ← c.byte-b.ensures.0, ← c.entry.ensures, ← c.named_word-w.ensures, ← c.sort.ensures, eq-eqb _ _ c.if-sort-k.true)

pub returns : goal.returns
unfolding name_fault
returns c = rw (← c.byte-a.ensures.0, ← c.byte-b.ensures.0, ← c.entry.ensures, ← c.named_word-w.ensures, ← c.sort.ensures, ne_eqb _ _ c.if-sort-k.false)
