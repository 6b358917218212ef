use Rattle.rules.specs.FrameRows.{frames_at, frames_of}
use Rattle.rules.specs.Walk.{frame_at}
use Rattle.std.proofs.Common.{◌+◌, ◌-◌, ◌*◌, ◌≤◌, ◌≡◌}
use Rattle.rules.proofs.frames.find.Given as goal

abbrev pub invariant-loop-low : goal.invariant-loop-low
invariant-loop-low l = (l.low ≤ l.high) × (l.high ≤ l.f.count) × (frame_at (frames_at l.t l.f.locals (l.f.at + 68 * l.low) (l.high - l.low)) l.o ≡ frame_at (frames_of l.t l.f) l.o)

abbrev pub decreases-loop-low : goal.decreases-loop-low
decreases-loop-low l = l.high - l.low
