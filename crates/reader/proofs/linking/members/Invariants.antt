use Rattle.reader.specs.MemberPass.{MembersTo}
use Rattle.std.proofs.Common.{◌≤◌}
use Rattle.reader.proofs.linking.members.Given as goal

abbrev pub invariant-loop-c : goal.invariant-loop-c
invariant-loop-c l = (l.c ≤ l.n) × MembersTo l.s l.n l.c l.initial.t l.t
