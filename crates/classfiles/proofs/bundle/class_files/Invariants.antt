use Rattle.std.specs.Prelude.{◌≡◌, ◌≤◌, ◌-◌, length}
use Rattle.texts.specs.Reading.{pre}
use Rattle.classfiles.specs.Bundle.{class_files_at}
use Rattle.classfiles.specs.Blocks.{classes_in}
use Rattle.classfiles.proofs.bundle.class_files.Given as goal

abbrev pub invariant-loop-k : goal.invariant-loop-k
invariant-loop-k l = (length l.t ≡ length l.initial.t) × (l.q ≤ length l.s) × (pre (classes_in l.s l.t l.k) (class_files_at l.s (16 - l.k) l.q) ≡ class_files_at l.s 16 0)
