use Rattle.std.proofs.Common.{◌∙◌, ap, ℕ, ◌+◌}
use Rattle.texts.specs.Reading.{u2_at}
use Rattle.reader.proofs.link.super_index.Goals as goal

pub returns : goal.returns
returns c = c.u2_at.ensures.0 ∙ ap (λ (k : ℕ). u2_at c.args.s.now (k + 2)) c.word-p.ensures
