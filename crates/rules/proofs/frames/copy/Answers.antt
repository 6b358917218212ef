use Rattle.std.proofs.Common.{◌∙◌, arith}
use Rattle.rules.specs.Loads.{copied_more}
use Rattle.rules.proofs.frames.copy.Goals as goal

pub loop-i-preserved : goal.loop-i-preserved
loop-i-preserved c = (c.put_word.auto.s ∙ c.loop-i.invariant.0, omega arith, copied_more _ _ _ _ _ _ _ c.loop-i.invariant.2 (omega arith) (omega arith) c.word-w.ensures (omega arith) c.put_word.ensures)
