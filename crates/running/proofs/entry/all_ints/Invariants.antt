use Rattle.plain.specs.Run.{all_ints}
use Rattle.reader.specs.TypeCodes.{params_in}
use Rattle.std.proofs.Common.{◌≡◌, drop}
use Rattle.running.proofs.entry.all_ints.Given as goal

abbrev pub invariant-loop-i : goal.invariant-loop-i
invariant-loop-i l = all_ints (drop l.i (params_in l.t l.k)) ≡ all_ints (params_in l.t l.k)
