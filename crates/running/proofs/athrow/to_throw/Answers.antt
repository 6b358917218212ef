use Rattle.std.proofs.Common.{ap, not}
use Rattle.running.specs.Athrow.{thrown_none, thrown_unfit, thrown_null, thrown_object}
use Rattle.running.proofs.athrow.to_throw.Goals as goal

pub returns-then-k-lt1 : goal.returns-then-k-lt1
returns-then-k-lt1 c = thrown_none _ _ _ _ _ _ _ c.if-k-lt1.true

pub returns-then-not-refers_to : goal.returns-then-not-refers_to
returns-then-not-refers_to c = thrown_unfit _ _ _ _ _ _ _ c.if-k-lt1.false c.requires.5 _ c.refers_to.ensures (ap not c.if-not-refers_to.true)

pub returns-then-q-eq0 : goal.returns-then-q-eq0
returns-then-q-eq0 c = thrown_null _ _ _ _ _ _ _ c.if-k-lt1.false c.requires.5 _ c.refers_to.ensures (ap not c.if-not-refers_to.false) _ c.to_cell-q.ensures c.if-q-eq0.true

pub returns : goal.returns
returns c = thrown_object _ _ _ _ _ _ _ c.if-k-lt1.false c.requires.5 _ c.refers_to.ensures (ap not c.if-not-refers_to.false) _ c.to_cell-q.ensures _ c.if-q-eq0.false c.base_at.ensures
