use Rattle.shaping.specs.ShapeLaws.{catch_below, catch_unknown}
use Rattle.rules.specs.Handlers.{catch_in}
use Rattle.std.proofs.Common.{ap, ◌∙◌, ℕ, ◌+◌}
use Rattle.shaping.proofs.shape.catch_ok.Goals as goal

pub returns-then-c-x : goal.returns-then-c-x
returns-then-c-x c = catch_below _ _ _ c.requires.0 c.args.q c.catch_class-c.result (c.catch_class-c.ensures ∙ ap (λ (i : ℕ). catch_in c.args.t.now c.args.x.class (11 + c.args.x.classes) i) c.u2_at.ensures.0) _ c.if-c-x.true c.is_below.ensures

pub returns : goal.returns
returns c = catch_unknown _ _ _ c.requires.0 c.args.q c.catch_class-c.result (c.catch_class-c.ensures ∙ ap (λ (i : ℕ). catch_in c.args.t.now c.args.x.class (11 + c.args.x.classes) i) c.u2_at.ensures.0) c.if-c-x.false
