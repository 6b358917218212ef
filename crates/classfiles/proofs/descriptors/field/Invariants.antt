use Rattle.std.specs.Prelude.{◌≡◌, ◌-◌}
use Rattle.classfiles.specs.Shapes.{type_shape}
use Rattle.classfiles.proofs.descriptors.field.Given as goal

abbrev pub invariant-loop-i : goal.invariant-loop-i
invariant-loop-i l = type_shape l.t l.p (7 - l._i) l.at ≡ type_shape l.t l.p 7 l.q
