use Rattle.kit.specs.Scan.{first_not}
use Prim.Native.Nat.{◌≤◌, ◌-◌}
use mathlib.Core.Path.{◌≡◌}
use lib.ListN.{length}
use Rattle.texts.specs.Names.{plain_at}
use Rattle.texts.proofs.names.unqualified.Given as goal

abbrev pub invariant-loop-i : goal.invariant-loop-i
invariant-loop-i l = (l.i ≤ length l.t) × (first_not (plain_at l.t) (length l.t - l.i) l.i ≡ first_not (plain_at l.t) (length l.t) 0)
