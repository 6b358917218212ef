use Rattle.std.proofs.Common.{ap, not, arith}
use Rattle.running.specs.Popping.{pops_few, pops_none, pops_unfit, pops_fit}
use Rattle.running.proofs.popping.pop.Goals as goal

pub returns-then-have-n : goal.returns-then-have-n
returns-then-have-n c = pops_none _ _ _ _ _ _ _ _ c.param_count-n.ensures.0 (pops_few _ _ _ _ _ _ _ _ c.param_count-n.ensures.0 c.if-have-n.true)

pub fit-requires : goal.fit-requires
fit-requires c = (omega arith, c.requires.1, c.requires.2, c.requires.3, c.param_count-n.ensures.0)

pub returns-then-not-fit : goal.returns-then-not-fit
returns-then-not-fit c = pops_unfit _ _ _ _ _ _ _ _ c.param_count-n.ensures.0 _ (omega arith) c.fit.ensures (ap not c.if-not-fit.true)

pub returns : goal.returns
returns c = pops_fit _ _ _ _ _ _ _ _ c.param_count-n.ensures.0 _ (omega arith) c.fit.ensures (ap not c.if-not-fit.false)
