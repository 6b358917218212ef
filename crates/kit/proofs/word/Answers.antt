use mathlib.Core.Path.{sym}
use native.Mathlib.Omega.{arith}
use Rattle.kit.specs.Words.{word_in, word_out}
use Rattle.kit.proofs.word.Goals as goal

pub returns-then-k-s : goal.returns-then-k-s
returns-then-k-s c = let a = c.args in omega (arith, word_in a.s.now a.k c.if-k-s.true)

pub returns : goal.returns
returns c = sym (word_out _ _ (omega arith))
