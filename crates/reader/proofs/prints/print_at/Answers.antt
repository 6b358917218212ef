use Rattle.std.proofs.Common.{ℕ, ◌+◌, ap, ◌∙◌}
use Rattle.kit.specs.Words.{word}
use Rattle.reader.proofs.prints.print_at.Goals as goal

pub returns : goal.returns
returns c = c.word.ensures ∙ ap (λ (k : ℕ). word c.args.t.now (k + c.args.j)) c.first_word-w.ensures.0
