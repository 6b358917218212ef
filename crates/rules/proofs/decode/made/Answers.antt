use Rattle.std.proofs.Common.{subst, ◌∙◌, sym, ap, ℕ, ◌+◌, ◌/◌}
use Rattle.rules.specs.ResolvedWords.{resolved_in, Flagged}
use Rattle.texts.specs.Reading.{u4_at}
use Rattle.rules.specs.Instruction.{iconst}
use Rattle.rules.specs.Resolve.{as_number}
use Rattle.rules.specs.ResolvedWords.{resolved_of}
use Rattle.rules.specs.Opcodes.{rows, row_in, row_of}
use Rattle.rules.specs.Decoding.{made}
use Rattle.rules.proofs.decode.made.Goals as goal

pub returns-then-x-eq18 : goal.returns-then-x-eq18
unfolding made row_of row_in rows
returns-then-x-eq18 c = record { is = λ P f. rw c.if-x-eq18.true (c.number_of.ensures ∙ ap (λ (w : ℕ). as_number iconst (resolved_of c.args.s.now w)) c.named_word.ensures) }

pub returns : goal.returns
unfolding made row_of row_in rows
returns c = record { is = λ P f. c.naming.ensures.is P _ (u4_at c.args.s.now (c.named_word-2.result / 8 + 1)) ((ap (λ (i : ℕ). resolved_in c.args.s.now c.args.t.now c.args.c i) (sym c.both.ensures.0) ∙ ap (resolved_of c.args.s.now) (sym c.named_word-2.ensures))) (subst (Flagged P) (sym c.named_word-2.ensures) (f c.both.result)) }
