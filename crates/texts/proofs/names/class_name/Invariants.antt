use Rattle.kit.specs.Scan.{first_not}
use Prim.Native.Nat.{◌≤◌, ◌-◌}
use mathlib.Core.Path.{◌≡◌}
use lib.ListN.{length}
use Rattle.texts.specs.Names.{class_byte}
use Rattle.texts.proofs.names.class_name.Given as goal

abbrev pub invariant-loop-i : goal.invariant-loop-i
invariant-loop-i l = (l.i ≤ length l.t) × (first_not (class_byte l.t) (length l.t - l.i) l.i ≡ first_not (class_byte l.t) (length l.t) 0)
