use Rattle.std.specs.Prelude.{◌≡◌, ◌≤◌, ◌-◌, ◌*◌, length, take}
use Rattle.texts.specs.Reading.{pre, many}
use Rattle.classfiles.specs.Table.{pool_in}
use Rattle.classfiles.specs.Members.{member_at}
use Rattle.classfiles.specs.Blocks.{rows_in}
use Rattle.classfiles.proofs.bundle.rows.Given as goal

abbrev pub invariant-loop-i : goal.invariant-loop-i
invariant-loop-i l = (length l.b ≡ length l.initial.b) × (l.q ≤ length l.s) × (take (4 * l.w) l.b ≡ take (4 * l.w) l.initial.b) × (pre (rows_in l.s (pool_in l.s (take (4 * l.k) l.initial.b)) l.b l.w l.i) (many (member_at l.s (pool_in l.s (take (4 * l.k) l.initial.b)) l.method) (l.n - l.i) l.q) ≡ many (member_at l.s (pool_in l.s (take (4 * l.k) l.initial.b)) l.method) l.n l.from)
