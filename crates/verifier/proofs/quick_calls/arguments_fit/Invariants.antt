use Rattle.std.proofs.Common.{◌-◌}
use Rattle.reader.specs.TypeCodes.{params_in}
use Rattle.rules.specs.Ancestry.{lineage}
use Rattle.rules.specs.Slots.{operands_of}
use Rattle.verifier.specs.QuickCalls.{Fitted}
use Rattle.verifier.proofs.quick_calls.arguments_fit.Given as goal

abbrev pub invariant-loop-i : goal.invariant-loop-i
invariant-loop-i l = Fitted (lineage l.t l.kin.at l.kin.count) (operands_of l.t l.h) (params_in l.t l.k) l.i (l.n - l.i)
