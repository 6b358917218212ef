use Rattle.std.specs.Prelude.{◌≡◌, ◌-◌, length}
use Rattle.classfiles.specs.Shapes.{params_shape}
use Rattle.classfiles.proofs.descriptors.params.Given as goal

abbrev pub invariant-loop-count : goal.invariant-loop-count
invariant-loop-count l = params_shape l.t l.p (length l.t - l.count) l.count l.at ≡ params_shape l.t l.p (length l.t) 0 l.q
