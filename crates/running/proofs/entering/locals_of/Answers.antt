use Rattle.std.proofs.Common.{ℕ, ◌+◌, ap, ◌∙◌}
use Rattle.texts.specs.Reading.{u2_at}
use Rattle.running.proofs.entering.locals_of.Goals as goal

pub returns : goal.returns
returns c = (c.u2_at.ensures.0 ∙ ap (λ (q : ℕ). u2_at c.args.b.now (q + 2)) c.method_word-q.ensures.0, c.u2_at.ensures.1)
