use Rattle.std.proofs.Common.{◌≡◌, ◌-◌, length}
use Rattle.stretching.specs.Stretch.{Fit, Stretched}
use Rattle.stretching.proofs.stretch.stretch.Given as goal

abbrev pub invariant-loop-spent : goal.invariant-loop-spent
invariant-loop-spent l =
    Stretched l.b l.t l.code l.y l.fn.from l.initial.w l.initial.g l.initial.cells l.w l.g l.cells (record { at = l.at; operands = l.operands; used = l.used; left = l.fn.from.left - l.spent })
    × Fit l.code l.cells l.w l.g l.y l.operands × (length l.cells ≡ length l.initial.cells) × (length l.w ≡ length l.initial.w) × (length l.g ≡ length l.initial.g) × (l.end ≡ length l.code)
