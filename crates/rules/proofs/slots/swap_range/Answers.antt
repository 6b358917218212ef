use Rattle.std.proofs.Common.{ℕ, ap, ◌∙◌, arith}
use Rattle.rules.specs.Slots.{swap1}
use Rattle.rules.specs.SlotLaws.{swapped_more}
use Rattle.rules.specs.Rule.{key_of}
use Rattle.rules.specs.TypeWords.{type_of}
use Rattle.rules.proofs.slots.swap_range.Goals as goal

pub loop-i-preserved : goal.loop-i-preserved
loop-i-preserved c = (c.put_word.auto.s ∙ c.loop-i.invariant.0, omega arith, rw c.put_word.ensures (swapped_more _ _ _ _ _ _ _ c.loop-i.invariant.2 (omega arith) (omega arith) (c.swapped-b.ensures ∙ ap (λ (v : ℕ). swap1 (key_of (type_of c.args.key.word)) (type_of c.args.w.word) (type_of v)) c.word.ensures)))
