use Rattle.std.proofs.Common.{ℕ, Bool, ◌≡◌, ◌<◌, ◌-◌}
use Rattle.kit.specs.Scan.{first_not}
use Rattle.reader.proofs.scan.first_not.Given as goal

abbrev pub invariant-loop-i : goal.invariant-loop-i
invariant-loop-i g l =
    (f : ℕ → Bool) → ((i : ℕ) (b : Bool) → i < l.n → goal.F-post g l.test i b → b ≡ f i) → first_not f (l.n - l.i) l.i ≡ first_not f l.n 0
