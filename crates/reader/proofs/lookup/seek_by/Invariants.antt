use Rattle.reader.specs.Lookup.{sigs_of}
use Rattle.reader.specs.Program.{signature, program_of, seek, lookup}
use Rattle.reader.specs.Linked.{files_in}
use Rattle.std.proofs.Common.{◌≡◌, ◌+◌, ◌-◌}
use Rattle.reader.proofs.lookup.seek_by.Given as goal

abbrev pub invariant-loop-i : goal.invariant-loop-i
invariant-loop-i l = seek (program_of (files_in l.s l.n l.t)) (sigs_of l.method) (signature l.x l.y) (11 + l.n - l._i) l.c ≡ lookup (program_of (files_in l.s l.n l.t)) (sigs_of l.method) (signature l.x l.y) l.from
