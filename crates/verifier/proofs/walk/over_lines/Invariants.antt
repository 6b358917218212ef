use Rattle.std.proofs.Common.{◌≡◌, length, ◌-◌, ◌≤◌}
use Rattle.verifier.specs.Ahead.{Beyond, Quiet}
use Rattle.verifier.specs.Walks.{Midway, place}
use Rattle.verifier.proofs.walk.over_lines.Given as goal

abbrev pub invariant-loop-o : goal.invariant-loop-o
invariant-loop-o l =
    (length l.t ≡ length l.initial.t) × (l.depth ≤ 32) × Midway l.s l.initial.t l.t l.x l.f l.h l.o l.live (place l.h l.depth l.flag) × Beyond l.t l.f l.row l.o × Quiet l.s l.x l.o l.quiet

abbrev pub decreases-loop-o : goal.decreases-loop-o
decreases-loop-o l = l.end - l.o
