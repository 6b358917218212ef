use Rattle.std.proofs.Common.{ap, not, arith}
use Rattle.running.specs.Standing.{few_operands}
use Rattle.running.specs.Calling.{operand-asked, front-asked}
use Rattle.running.specs.Receiving.{built_none, built_made, built_some, built_ready}
use Rattle.running.proofs.calling.make_ready.Goals as goal

pub returns-then-k-eq0 : goal.returns-then-k-eq0
returns-then-k-eq0 c = built_none _ _ _ _ _ _ _ _ c.requires.0 _ c.requires.1 c.if-k-eq0.true

pub operand-v-requires : goal.operand-v-requires
operand-v-requires c = operand-asked _ _ _ _ _ _ _ c.requires.0.at _ (omega (arith, few_operands _ _ _ _ _ _ _ c.requires.0.at.standing, c.if-k-eq0.false))

pub is_unmade-requires : goal.is_unmade-requires
is_unmade-requires c = front-asked _ _ _ _ _ _ _ c.requires.0.at

pub returns-then-not-is_unmade : goal.returns-then-not-is_unmade
returns-then-not-is_unmade c = built_made _ _ _ _ _ _ _ _ c.requires.0 _ c.requires.1 c.if-k-eq0.false _ c.operand-v.ensures _ c.is_unmade.ensures (ap not c.if-not-is_unmade.true)

pub overflow_sub-v : goal.overflow_sub-v
overflow_sub-v c = built_some _ _ _ _ _ _ _ _ c.requires.0 _ c.requires.1 c.if-k-eq0.false _ c.operand-v.ensures _ c.is_unmade.ensures (ap not c.if-not-is_unmade.false)

pub returns : goal.returns
returns c = built_ready _ _ _ _ _ _ _ _ c.requires.0 _ c.requires.1 c.if-k-eq0.false _ c.operand-v.ensures _ c.is_unmade.ensures (ap not c.if-not-is_unmade.false) _ c.mark_ready.ensures
