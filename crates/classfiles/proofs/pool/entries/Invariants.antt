use Rattle.std.specs.Prelude.{◌≡◌, ◌≤◌, ◌-◌, length, take}
use Rattle.kit.specs.Words.{words}
use Rattle.texts.specs.Reading.{pre, many}
use Rattle.classfiles.specs.Pool.{entry_at}
use Rattle.classfiles.proofs.pool.entries.Given as goal

abbrev pub invariant-loop-k : goal.invariant-loop-k
invariant-loop-k l = (length l.t ≡ length l.initial.t) × (l.q ≤ length l.s) × (pre (take l.k (words l.t)) (many (entry_at l.s) (l.n - l.k) l.q) ≡ pre (take 1 (words l.initial.t)) (many (entry_at l.s) (l.n - 1) l.from))
