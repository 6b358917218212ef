use Rattle.std.proofs.Common.{refl, ◌∙◌, ap, ℕ, length, arith}
use Rattle.reader.specs.TypeCodes.{results_in}
use Rattle.rules.specs.Sites.{front}
use Rattle.running.specs.Calling.{static_of, static_entry, static_full, few_left}
use Rattle.running.specs.Routes.{routes_off}
use Rattle.running.specs.Sending.{static_goes}
use Rattle.running.proofs.calling.into_static.Goals as goal

pub entry-requires : goal.entry-requires
entry-requires c = (static_of _ _ _ _ _ _ _ _ c.requires.0).low

pub result_count-v-requires : goal.result_count-v-requires
result_count-v-requires c = rw c.entry.ensures (static_entry _ _ _ _ _ _ _ _ c.requires.0)

pub overflow_add-v : goal.overflow_add-v
overflow_add-v c = omega (arith, c.result_count-v.ensures.1, few_left _ _ _ _ _ _ _ c.requires.0.at _ _ _ c.requires.1.pops refl)

pub returns-then-x-v : goal.returns-then-x-v
returns-then-x-v c = routes_off _ _ _ _ _ _ _ _ _ _ (static_full _ _ _ _ _ _ _ _ c.requires.0 _ _ c.requires.1.pops _ (c.result_count-v.ensures.0 ∙ ap (λ (e : ℕ). length (results_in (front c.args.t.now) e)) c.entry.ensures) refl c.if-x-v.true)

pub returns : goal.returns
returns c = static_goes c.args.b.now c.args.t.now c.args.s.now c.args.g.now c.args.x c.args.d c.args.k c.args.m c.requires.0 c.args.cells.now c.args.p c.requires.1 _ _ c.entry.ensures c.result_count-v.ensures.0 c.if-x-v.false
