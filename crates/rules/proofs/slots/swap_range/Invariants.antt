use Rattle.std.proofs.Common.{◌≡◌, ◌≤◌, length}
use Rattle.rules.specs.Slots.{Swapped}
use Rattle.rules.specs.Rule.{key_of}
use Rattle.rules.specs.TypeWords.{type_of}
use Rattle.rules.proofs.slots.swap_range.Given as goal

abbrev pub invariant-loop-i : goal.invariant-loop-i
invariant-loop-i l = (length l.t ≡ length l.initial.t) × (l.i ≤ l.m) × Swapped (key_of (type_of l.key.word)) (type_of l.w.word) l.initial.t l.t l.x l.i
