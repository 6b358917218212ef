use Rattle.std.proofs.Common.{ap, not}
use Rattle.running.specs.Calling.{front-asked}
use Rattle.running.specs.Virtual.{receive_unfit, receive_null, receive_array, receiver_range, receive_nowhere, receive_enterable, receive_into}
use Rattle.running.specs.Routes.{routes_off, routes_on}
use Rattle.running.proofs.calling.receive.Goals as goal

pub refers_to-requires : goal.refers_to-requires
refers_to-requires c = front-asked _ _ _ _ _ _ _ c.requires.call.at

pub returns-then-not-refers_to : goal.returns-then-not-refers_to
returns-then-not-refers_to c = routes_off _ _ _ _ _ _ _ _ _ _ (receive_unfit _ _ _ _ _ _ _ _ _ _ c.requires _ _ _ c.refers_to.ensures (ap not c.if-not-refers_to.true))

pub returns-then-v-eq0 : goal.returns-then-v-eq0
returns-then-v-eq0 c = routes_off _ _ _ _ _ _ _ _ _ _ (receive_null _ _ _ _ _ _ _ _ _ _ c.requires _ _ _ c.refers_to.ensures (ap not c.if-not-refers_to.false) c.if-v-eq0.true)

pub returns-then-u-ne0 : goal.returns-then-u-ne0
returns-then-u-ne0 c = routes_off _ _ _ _ _ _ _ _ _ _ (receive_array _ _ _ _ _ _ _ _ _ _ c.requires _ _ _ c.refers_to.ensures (ap not c.if-not-refers_to.false) c.if-v-eq0.false _ _ c.type_at-u.ensures.0 c.type_at-u.ensures.1 c.if-u-ne0.true)

pub spot-w-requires : goal.spot-w-requires
spot-w-requires c = ((receiver_range _ _ _ _ _ _ _ _ _ _ c.requires _ _ _ c.refers_to.ensures (ap not c.if-not-refers_to.false) c.if-v-eq0.false _ _ c.type_at-u.ensures.0 c.type_at-u.ensures.1 c.if-u-ne0.false).0, c.requires.call.of.low)

pub returns-then-w-eq0 : goal.returns-then-w-eq0
returns-then-w-eq0 c = routes_off _ _ _ _ _ _ _ _ _ _ (receive_nowhere _ _ _ _ _ _ _ _ _ _ c.requires _ _ _ c.refers_to.ensures (ap not c.if-not-refers_to.false) c.if-v-eq0.false _ _ c.type_at-u.ensures.0 c.type_at-u.ensures.1 c.if-u-ne0.false _ c.spot-w.ensures c.if-w-eq0.true)

pub returns : goal.returns
returns c = routes_on _ _ _ _ _ _ _ _ _ _ (receive_enterable _ _ _ _ _ _ _ _ _ _ c.requires _ _ _ c.refers_to.ensures (ap not c.if-not-refers_to.false) c.if-v-eq0.false _ _ c.type_at-u.ensures.0 c.type_at-u.ensures.1 c.if-u-ne0.false _ c.spot-w.ensures c.if-w-eq0.false) (receive_into _ _ _ _ _ _ _ _ _ _ c.requires _ _ _ c.refers_to.ensures (ap not c.if-not-refers_to.false) c.if-v-eq0.false _ _ c.type_at-u.ensures.0 c.type_at-u.ensures.1 c.if-u-ne0.false _ c.spot-w.ensures c.if-w-eq0.false)
