use Rattle.reader.specs.MemberPass.{SectionTo}
use Rattle.std.proofs.Common.{◌≤◌}
use Rattle.reader.proofs.linking.section.Given as goal

abbrev pub invariant-loop-j : goal.invariant-loop-j
invariant-loop-j l = (l.j ≤ l.k) × SectionTo l.s l.n l.c l.method l.j l.initial.t l.t
