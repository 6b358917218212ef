use Rattle.std.specs.Prelude.{◌≡◌, ◌-◌, length}
use Rattle.kit.specs.Scan.{first_not}
use Rattle.classfiles.specs.Descriptors.{in_name}
use Rattle.classfiles.proofs.descriptors.semicolon.Given as goal

abbrev pub invariant-loop-i : goal.invariant-loop-i
invariant-loop-i l = first_not (in_name l.t) (length l.t - l.i) l.i ≡ first_not (in_name l.t) (length l.t - l.q) l.q
