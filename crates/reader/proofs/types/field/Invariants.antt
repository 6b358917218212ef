use Rattle.std.proofs.Common.{◌≤◌, ◌-◌, ◌≡◌}
use Rattle.classfiles.specs.Descriptors.{type_at}
use Rattle.classfiles.specs.Shapes.{seen}
use Rattle.reader.specs.TypeCodes.{nested}
use Rattle.reader.specs.Program.{number_in, class_names}
use Rattle.classfiles.specs.Blocks.{classes_in}
use Rattle.reader.proofs.types.field.Given as goal

abbrev pub invariant-loop-d : goal.invariant-loop-d
invariant-loop-d l = (seen (nested l.d) (type_at (number_in (class_names (classes_in l.s l.t l.n))) l.x 0 (7 - l.d) l.at) ≡ type_at (number_in (class_names (classes_in l.s l.t l.n))) l.x 0 7 l.q) × (l.d ≤ 7)
