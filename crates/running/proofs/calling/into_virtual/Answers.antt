use Rattle.std.proofs.Common.{refl, ◌∙◌, ap, ℕ, length, arith}
use Rattle.reader.specs.TypeCodes.{results_in}
use Rattle.rules.specs.Sites.{front}
use Rattle.running.specs.Calling.{entry_small, operand-asked, few_left}
use Rattle.running.specs.Virtual.{virtual_none, virtual_full, virtual_received, virtual_on}
use Rattle.running.specs.Routes.{routes_off, routes_as}
use Rattle.running.proofs.calling.into_virtual.Goals as goal

pub returns-then-p-eq0 : goal.returns-then-p-eq0
returns-then-p-eq0 c = routes_off _ _ _ _ _ _ _ _ _ _ (virtual_none _ _ _ _ _ _ _ _ c.requires.0 _ _ c.requires.1.pops refl c.if-p-eq0.true)

pub entry-requires : goal.entry-requires
entry-requires c = c.requires.0.of.low

pub result_count-c-requires : goal.result_count-c-requires
result_count-c-requires c = rw c.entry.ensures (entry_small _ _ _ c.requires.0.at.standing.ready _ _ c.requires.0.of)

pub returns-then-x-c : goal.returns-then-x-c
returns-then-x-c c = routes_off _ _ _ _ _ _ _ _ _ _ (virtual_full _ _ _ _ _ _ _ _ c.requires.0 _ _ c.requires.1.pops refl c.if-p-eq0.false _ (c.result_count-c.ensures.0 ∙ ap (λ (e : ℕ). length (results_in (front c.args.t.now) e)) c.entry.ensures) c.if-x-c.true)

pub operand-v-requires : goal.operand-v-requires
operand-v-requires c = operand-asked _ _ _ _ _ _ _ c.requires.0.at _ (omega (arith, few_left _ _ _ _ _ _ _ c.requires.0.at _ _ _ c.requires.1.pops refl, c.if-p-eq0.false))

pub overflow_add-p : goal.overflow_add-p
overflow_add-p c = omega (arith, few_left _ _ _ _ _ _ _ c.requires.0.at _ _ _ c.requires.1.pops refl)

pub receive-requires : goal.receive-requires
receive-requires c = virtual_received _ _ _ _ _ _ _ _ c.requires.0 _ _ c.requires.1.pops refl c.if-p-eq0.false _ (c.result_count-c.ensures.0 ∙ ap (λ (e : ℕ). length (results_in (front c.args.t.now) e)) c.entry.ensures) c.if-x-c.false

pub returns : goal.returns
returns c = routes_as _ _ _ _ _ _ _ _ _ _ (λ t' s' g' r. virtual_on _ _ _ _ _ _ _ _ c.requires.0 _ _ c.requires.1.pops refl c.if-p-eq0.false _ (c.result_count-c.ensures.0 ∙ ap (λ (e : ℕ). length (results_in (front c.args.t.now) e)) c.entry.ensures) c.if-x-c.false t' s' g' r _ c.operand-v.ensures) _ c.receive.ensures
