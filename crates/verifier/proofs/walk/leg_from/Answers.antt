use Rattle.std.proofs.Common.{◌∙◌, arith, rules}
use Rattle.kit.specs.Bools.{not_so}
use Rattle.verifier.specs.Lineup.{walking_roomy, line_refused, outside_front}
use Rattle.verifier.specs.Arrivals.{arrived, arrived_walking}
use Rattle.verifier.specs.Ahead.{unmet_kept}
use Rattle.verifier.specs.Legs.{leg_arrived, leg_refused, leg_stretched, leg_stuck, leg_site, stuck-ready}
use Rattle.verifier.proofs.walk.leg_from.Goals as goal

pub arrive-requires : goal.arrive-requires
arrive-requires c = (walking_roomy _ _ _ _ _ _ c.requires.0, c.requires.0.depth, c.requires.0.laid, c.requires.0.locals, omega (arith, c.requires.0.rows, c.requires.0.at), c.requires.3.clear)

pub shape_of-t-in-Err : goal.shape_of-t-in-Err
shape_of-t-in-Err c = c.arrive.auto.t

pub returns-in-Err : goal.returns-in-Err
returns-in-Err c = leg_refused c.args.s.now c.args.t.now c.arrive.new.t c.args.x c.args.kin c.args.f c.args.live c.args.h c.args.o c.requires.0 _ c.requires.1 c.requires.2 c.in-Err.refusal (line_refused c.args.s.now c.args.t.now c.arrive.new.t c.args.x c.args.kin c.args.f c.args.live c.args.h c.args.o c.requires.0 c.in-Err.ensures.keeps.1 c.in-Err.refusal c.in-Err.ensures.says)

pub calm-requires : goal.calm-requires
calm-requires c = ((arrived_walking c.args.s.now c.args.t.now c.arrive.new.t c.args.x c.args.kin c.args.f c.args.live c.args.h c.args.o c.requires.0 c.in-Ok.g c.in-Ok.ensures.says c.in-Ok.ensures.leaves c.in-Ok.ensures.keeps.0 c.in-Ok.ensures.keeps.1 c.arrive.auto.t), c.requires.3.quiet)

pub anew-requires : goal.anew-requires
anew-requires c = search (rules, arith)

pub decoded-requires : goal.decoded-requires
decoded-requires c = rw c.anew.ensures ((arrived_walking c.args.s.now c.args.t.now c.arrive.new.t c.args.x c.args.kin c.args.f c.args.live c.args.h c.args.o c.requires.0 c.in-Ok.g c.in-Ok.ensures.says c.in-Ok.ensures.leaves c.in-Ok.ensures.keeps.0 c.in-Ok.ensures.keeps.1 c.arrive.auto.t), (arrived c.args.s.now c.args.t.now c.arrive.new.t c.args.x c.args.kin c.args.f c.args.live c.args.h c.args.o c.requires.0 c.in-Ok.g c.in-Ok.ensures.says c.in-Ok.ensures.leaves c.in-Ok.ensures.keeps.0 c.in-Ok.ensures.keeps.1), (λ z. absurd (not_so z)), c.requires.1, c.requires.2)

pub shape_of-t-then-not-calm : goal.shape_of-t-then-not-calm
shape_of-t-then-not-calm c = c.decoded.auto.t ∙ c.arrive.auto.t

pub returns-then-not-calm : goal.returns-then-not-calm
returns-then-not-calm c = leg_arrived c.args.s.now c.args.t.now c.arrive.new.t c.args.x c.args.kin c.args.f c.args.live c.args.h c.args.o c.requires.0 c.in-Ok.g c.in-Ok.ensures.says c.in-Ok.ensures.leaves c.in-Ok.ensures.keeps.0 c.in-Ok.ensures.keeps.1 _ c.requires.1 c.requires.2 _ _ (leg_site _ _ _ _ _ c.anew.ensures _ _ _ _ _ c.decoded.ensures)

pub by_opcodes-k-requires : goal.by_opcodes-k-requires
by_opcodes-k-requires c = (record { walking = (arrived_walking c.args.s.now c.args.t.now c.arrive.new.t c.args.x c.args.kin c.args.f c.args.live c.args.h c.args.o c.requires.0 c.in-Ok.g c.in-Ok.ensures.says c.in-Ok.ensures.leaves c.in-Ok.ensures.keeps.0 c.in-Ok.ensures.keeps.1 c.arrive.auto.t); entered = (arrived c.args.s.now c.args.t.now c.arrive.new.t c.args.x c.args.kin c.args.f c.args.live c.args.h c.args.o c.requires.0 c.in-Ok.g c.in-Ok.ensures.says c.in-Ok.ensures.leaves c.in-Ok.ensures.keeps.0 c.in-Ok.ensures.keeps.1); handled = c.calm.ensures c.if-not-calm.false }, c.requires.1, c.requires.2, unmet_kept _ _ _ _ _ _ _ _ _ _ (arrived_walking c.args.s.now c.args.t.now c.arrive.new.t c.args.x c.args.kin c.args.f c.args.live c.args.h c.args.o c.requires.0 c.in-Ok.g c.in-Ok.ensures.says c.in-Ok.ensures.leaves c.in-Ok.ensures.keeps.0 c.in-Ok.ensures.keeps.1 c.arrive.auto.t) (outside_front c.args.t.now c.arrive.new.t c.args.h.at c.requires.0.at c.in-Ok.ensures.keeps.1) c.requires.3.unmet)

pub placed-q-requires : goal.placed-q-requires
placed-q-requires c = search (rules, arith)

pub anew-requires-then-k : goal.anew-requires-then-k
anew-requires-then-k c = search (rules, arith)

pub decoded-requires-then-k : goal.decoded-requires-then-k
decoded-requires-then-k c = rw c.anew-then-k.ensures (stuck-ready _ _ _ _ _ _ _ _ _ c.by_opcodes-k.ensures c.if-k.true _ c.placed-q.ensures _ c.requires.1)

pub shape_of-t-then-k : goal.shape_of-t-then-k
shape_of-t-then-k c = c.decoded-then-k.auto.t ∙ c.by_opcodes-k.auto.t ∙ c.arrive.auto.t

pub returns-then-k : goal.returns-then-k
returns-then-k c = leg_arrived c.args.s.now c.args.t.now c.arrive.new.t c.args.x c.args.kin c.args.f c.args.live c.args.h c.args.o c.requires.0 c.in-Ok.g c.in-Ok.ensures.says c.in-Ok.ensures.leaves c.in-Ok.ensures.keeps.0 c.in-Ok.ensures.keeps.1 _ c.requires.1 c.requires.2 _ _ (leg_stuck _ _ _ _ _ _ _ _ _ c.by_opcodes-k.ensures c.if-k.true _ c.placed-q.ensures _ _ (leg_site _ _ _ _ _ c.anew-then-k.ensures _ _ _ _ _ c.decoded-then-k.ensures))

pub shape_of-t : goal.shape_of-t
shape_of-t c = c.by_opcodes-k.auto.t ∙ c.arrive.auto.t

pub returns : goal.returns
returns c = leg_arrived c.args.s.now c.args.t.now c.arrive.new.t c.args.x c.args.kin c.args.f c.args.live c.args.h c.args.o c.requires.0 c.in-Ok.g c.in-Ok.ensures.says c.in-Ok.ensures.leaves c.in-Ok.ensures.keeps.0 c.in-Ok.ensures.keeps.1 _ c.requires.1 c.requires.2 _ _ (leg_stretched _ _ _ _ _ _ _ _ _ c.by_opcodes-k.ensures c.if-k.false _ c.placed-q.ensures)
