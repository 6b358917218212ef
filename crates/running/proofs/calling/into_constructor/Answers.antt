use Rattle.std.proofs.Common.{refl, ap, not, arith}
use Rattle.running.specs.Calling.{operand-asked, front-asked, few_left}
use Rattle.running.specs.Receiving.{own_none, own_made, own_enterable, own_into}
use Rattle.running.specs.Routes.{routes_off, routes_on}
use Rattle.running.proofs.calling.into_constructor.Goals as goal

pub returns-then-p-eq0 : goal.returns-then-p-eq0
returns-then-p-eq0 c = routes_off _ _ _ _ _ _ _ _ _ _ (own_none _ _ _ _ _ _ _ _ c.requires.0 c.requires.1 _ _ c.requires.2.pops refl c.if-p-eq0.true)

pub operand-v-requires : goal.operand-v-requires
operand-v-requires c = operand-asked _ _ _ _ _ _ _ c.requires.0.at _ (omega (arith, few_left _ _ _ _ _ _ _ c.requires.0.at _ _ _ c.requires.2.pops refl, c.if-p-eq0.false))

pub is_unmade-requires : goal.is_unmade-requires
is_unmade-requires c = front-asked _ _ _ _ _ _ _ c.requires.0.at

pub returns-then-not-is_unmade : goal.returns-then-not-is_unmade
returns-then-not-is_unmade c = routes_off _ _ _ _ _ _ _ _ _ _ (own_made _ _ _ _ _ _ _ _ c.requires.0 c.requires.1 _ _ c.requires.2.pops refl c.if-p-eq0.false _ c.operand-v.ensures _ c.is_unmade.ensures (ap not c.if-not-is_unmade.true))

pub overflow_add-result : goal.overflow_add-result
overflow_add-result c = omega (arith, few_left _ _ _ _ _ _ _ c.requires.0.at _ _ _ c.requires.2.pops refl)

pub returns : goal.returns
returns c = routes_on _ _ _ _ _ _ _ _ _ _ (own_enterable _ _ _ _ _ _ _ _ c.requires.0 c.requires.1 _ _ c.requires.2.pops refl c.if-p-eq0.false _ c.operand-v.ensures _ c.is_unmade.ensures (ap not c.if-not-is_unmade.false)) (own_into _ _ _ _ _ _ _ _ c.requires.0 c.requires.1 _ _ c.requires.2.pops refl c.if-p-eq0.false _ c.operand-v.ensures _ c.is_unmade.ensures (ap not c.if-not-is_unmade.false))
