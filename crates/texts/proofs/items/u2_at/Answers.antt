use native.Mathlib.Omega.{arith}
use Rattle.texts.specs.Ends.{past2}
use Rattle.texts.specs.Reading.{u2_at}
use Rattle.texts.proofs.items.u2_at.Goals as goal

pub returns-then-q-s : goal.returns-then-q-s
unfolding u2_at
returns-then-q-s c = (omega arith, omega arith)

pub returns : goal.returns
unfolding u2_at
returns c = (past2 c.args.s.now c.args.q c.if-q-s.false, omega arith)
