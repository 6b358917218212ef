use mathlib.Core.Path.{sym}
use native.Mathlib.Omega.{arith}
use lib.ListN.{get_or-eq_default}
use Rattle.kit.proofs.byte.Goals as goal

pub returns : goal.returns
returns c = (sym (get_or-eq_default c.args.s.now 0 (omega arith)), omega arith)
