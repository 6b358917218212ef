use Rattle.reader.specs.TypeCodes.{ParamsRead, number_by}
use Rattle.reader.specs.BuiltIns.{first_class}
use Rattle.std.proofs.Common.{◌+◌, ◌-◌, length}
use Rattle.reader.proofs.types.params.Given as goal

abbrev pub invariant-loop-i : goal.invariant-loop-i
invariant-loop-i l = ParamsRead (first_class + l.n) (number_by l.s l.n l.initial.t) l.x l.w l.at (length l.x - l._i) l.count l.known l.initial.t l.t
