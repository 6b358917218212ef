use Rattle.rules.specs.Known.{facts_of}
use Rattle.rules.specs.KnownLaws.{init_not, init-made, init_own, init-super}
use Rattle.rules.proofs.calls.init_fits.Goals as goal

pub returns-then-w-lt-UNINIT : goal.returns-then-w-lt-UNINIT
returns-then-w-lt-UNINIT c = init_not _ (facts_of c.args.t.now c.args.k) _ _ c.if-w-lt-UNINIT.true

pub returns-then-w-eq-UNINIT : goal.returns-then-w-eq-UNINIT
returns-then-w-eq-UNINIT c = init-made _ (facts_of c.args.t.now c.args.k) _ _ c.if-w-eq-UNINIT.true

pub returns-then-k-c : goal.returns-then-k-c
returns-then-k-c c = init_own _ (facts_of c.args.t.now c.args.k) _ _ c.if-w-lt-UNINIT.false c.if-w-eq-UNINIT.false c.if-k-c.true

pub returns : goal.returns
returns c = init-super _ (facts_of c.args.t.now c.args.k) _ _ c.if-w-lt-UNINIT.false c.if-w-eq-UNINIT.false _ c.if-k-c.false c.parent.ensures
