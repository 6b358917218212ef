use Rattle.std.proofs.Common.{refl, sym, ap, subst, ◌∙◌, arith, length}
use Rattle.texts.specs.Reading.{part}
use Rattle.rules.specs.declared.slots.Held.{Held}
use Rattle.verifier.specs.Lineup.{code_short}
use Rattle.verifier.specs.Quick.{Open}
use Rattle.verifier.specs.Walks.{next_far}
use Rattle.verifier.specs.Legs.{stretching_start, stretching_on, level_on, stretched_stuck, stretched_off, stretched_met, stretched_out}
use Rattle.verifier.proofs.walk.by_opcodes.Goals as goal

pub loop-o-init : goal.loop-o-init
loop-o-init c = (refl, stretching_start _ _ _ _ _ _ _ c.requires.0, c.requires.3.level)

pub overflow_cast-o : goal.overflow_cast-o
unfolding part
overflow_cast-o c = omega (arith, code_short c.args.s.now c.args.x c.requires.0.walking.bounded, ap length c.requires.1)

pub quick-requires : goal.quick-requires
quick-requires c = (subst (λ (z : Held). Open c.args.s.now c.loop-o.t c.args.x c.args.kin c.args.f z c.loop-o.o) (sym c.placed-g.ensures) c.loop-o.invariant.1.ready, c.requires.1)

pub returns-in_default : goal.returns-in_default
returns-in_default c = rw c.stopped.ensures (stretched_stuck _ _ _ _ _ _ _ _ _ _ c.loop-o.invariant.1 _ c.requires.1 c.loop-o-test.true _ _ c.placed-g.ensures c.in_default.ensures)

pub returns-in_default-went : goal.returns-in_default-went
returns-in_default-went c = rw c.stopped-in_default-went.ensures (stretched_off _ _ _ _ _ _ _ _ _ _ c.loop-o.invariant.1 _ c.requires.1 c.loop-o-test.true _ _ c.placed-g.ensures c.quick.auto.t _ c.next-o.ensures (rw c.in_default-went.is at c.in-Some.ensures))

pub returns-then-not-same : goal.returns-then-not-same
returns-then-not-same c = rw c.stopped-then-not-same.ensures (stretched_met _ _ _ _ _ _ _ _ _ _ c.loop-o.invariant.1 _ c.requires.1 c.loop-o-test.true _ _ c.placed-g.ensures c.quick.auto.t _ c.next-o.ensures _ (rw c.in-On.is at c.in-Some.ensures))

pub returns-then-till-o : goal.returns-then-till-o
returns-then-till-o c = rw c.stopped-then-till-o.ensures (stretched_met _ _ _ _ _ _ _ _ _ _ c.loop-o.invariant.1 _ c.requires.1 c.loop-o-test.true _ _ c.placed-g.ensures c.quick.auto.t _ c.next-o.ensures _ (rw c.in-On.is at c.in-Some.ensures))

pub loop-o-smaller : goal.loop-o-smaller
loop-o-smaller c = omega (arith, next_far c.args.code.now c.loop-o.o c.loop-o-test.true, c.next-o.ensures)

pub loop-o-preserved : goal.loop-o-preserved
loop-o-preserved c = (c.quick.auto.t ∙ c.loop-o.invariant.0, stretching_on _ _ _ _ _ _ _ _ _ _ c.loop-o.invariant.1 _ c.requires.1 c.loop-o-test.true _ _ c.placed-g.ensures c.quick.auto.t _ c.next-o.ensures _ (rw c.in-On.is at c.in-Some.ensures) _ _ c.requires.3 c.loop-o.invariant.2 (c.asks_same-same.ensures c.if-not-same.false) c.if-till-o.false, level_on _ _ _ _ _ _ _ c.loop-o.invariant.2 c.loop-o-test.true c.next-o.ensures c.if-till-o.false)

pub returns : goal.returns
returns c = rw c.stopped-2.ensures (stretched_out _ _ _ _ _ _ _ _ _ _ c.loop-o.invariant.1 _ c.requires.1 c.requires.2 c.loop-o-test.false)
