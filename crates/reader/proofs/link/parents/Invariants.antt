use Rattle.reader.specs.Linked.{parents_at, parents_word, files_in}
use Rattle.std.proofs.Common.{ℕ, ◌+◌, ◌<◌, ◌≤◌, ◌≡◌, length, take}
use Rattle.kit.specs.Words.{word}
use Rattle.reader.specs.Program.{class, program_of}
use Rattle.reader.proofs.link.parents.Given as goal

abbrev pub invariant-loop-c : goal.invariant-loop-c
invariant-loop-c l = (l.c ≤ 11 + l.n) × (length l.t ≡ length l.initial.t) × (take parents_at l.t ≡ take parents_at l.initial.t) × ((j : ℕ) → j < l.c → word l.t (parents_word + j) ≡ (class (program_of (files_in l.s l.n l.initial.t)) j).parent)
