use mathlib.Core.Path.{sym}
use native.Mathlib.Omega.{arith}
use lib.ListN.{length-set}
use Rattle.kit.specs.Words.{put_in, put_out}
use Rattle.kit.proofs.put_word.Goals as goal

pub returns-then-s-k : goal.returns-then-s-k
returns-then-s-k c = sym (put_out _ _ _ (omega arith))

pub bounds-s-a-2 : goal.bounds-s-a-2
bounds-s-a-2 c = simp length-set (omega arith)

pub bounds-s-a-3 : goal.bounds-s-a-3
bounds-s-a-3 c = simp length-set (omega arith)

pub bounds-s-a-4 : goal.bounds-s-a-4
bounds-s-a-4 c = simp length-set (omega arith)

pub returns : goal.returns
returns c = sym (put_in _ _ _ (omega arith))
