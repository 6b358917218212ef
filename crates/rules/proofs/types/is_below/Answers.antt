use Rattle.std.proofs.Common.{◌-◌, sym, ◌∙◌, arith}
use Rattle.rules.specs.Ancestry.{below_start, up_hit, up_step, up_end}
use Rattle.rules.specs.SlotLaws.{whole, turned_one}
use Rattle.rules.proofs.types.is_below.Goals as goal

pub loop-init : goal.loop-init
loop-init c = (omega arith, rw whole (below_start _ _ _ _ _))

pub returns-then-at-d : goal.returns-then-at-d
returns-then-at-d c = sym (up_hit _ _ _ _ c.if-at-d.true) ∙ c.loop.invariant.1

pub loop-preserved : goal.loop-preserved
loop-preserved c = (omega arith, rw turned_one (cc (up_step _ _ _ (c.args.kin.count - c.loop.counter) (omega arith) c.if-at-d.false)))

pub returns : goal.returns
returns c = sym (up_end _ _ _ (c.args.kin.count - c.loop.counter) (omega arith)) ∙ c.loop.invariant.1
