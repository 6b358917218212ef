use Rattle.std.proofs.Common.{◌≡◌, ◌+◌, ◌-◌, ◌≤◌}
use Rattle.rules.specs.Slots.{stack_at}
use Rattle.rules.specs.States.{no_copy}
use Rattle.rules.specs.Rule.{key_of}
use Rattle.rules.specs.TypeWords.{type_of}
use Rattle.rules.proofs.slots.no_copy.Given as goal

abbrev pub invariant-loop-i : goal.invariant-loop-i
invariant-loop-i l = (l.i ≤ l.h.depth) × (no_copy (key_of (type_of l.key.word)) (stack_at l.t (l.h.at + 32) (l.h.depth - l.i)) ≡ no_copy (key_of (type_of l.key.word)) (stack_at l.t (l.h.at + 32) l.h.depth))
