use Rattle.std.proofs.Common.{◌+◌, ◌-◌, ◌*◌, ◌≤◌, ◌≡◌, length}
use Rattle.reader.specs.Program.{program_of, layout_to, layout}
use Rattle.reader.specs.Linked.{files_in}
use Rattle.reader.proofs.access.layout_size.Given as goal

abbrev pub invariant-loop-i : goal.invariant-loop-i
invariant-loop-i l = (l.total + length (layout_to (program_of (files_in l.s l.n l.t)) (11 + l.n - l._i) l.c) ≡ length (layout (program_of (files_in l.s l.n l.t)) l.from)) × (l.total + 32 * (11 + l.n - l._i) ≤ 32 * (11 + l.n))
