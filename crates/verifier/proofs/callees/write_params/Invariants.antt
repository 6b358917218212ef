use Rattle.verifier.specs.Callees.{Beside, Listed}
use Rattle.reader.specs.TypeCodes.{params_in}
use Rattle.classfiles.specs.Descriptors.{dint}
use Rattle.std.proofs.Common.{◌≡◌, ◌≤◌, length}
use Rattle.verifier.proofs.callees.write_params.Given as goal

abbrev pub invariant-loop-i : goal.invariant-loop-i
invariant-loop-i l = (length l.t ≡ length l.initial.t) × (l.i ≤ l.n) × Beside 65256 l.initial.t l.t × Listed 65256 l.i (params_in l.initial.t l.k) dint l.t
