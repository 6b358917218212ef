use Rattle.std.proofs.Common.{◌≤◌, ◌≡◌, length}
use Rattle.classfiles.specs.Limits.{max_heap}
use Rattle.shaping.specs.Phases.{program_now}
use Rattle.plain.specs.Run.{run}
use Rattle.running.specs.Standing.{machine_of}
use Rattle.machine.specs.Turns.{SiteOf, Going}
use Rattle.machine.proofs.turns.run_from.Given as goal

abbrev pub invariant-loop-left : goal.invariant-loop-left
invariant-loop-left l =
    Going l.b l.n (run (program_now l.b l.n l.initial.t) l.budget 0 (machine_of l.initial.cells l.from l.initial.t l.initial.s l.initial.g l.d l.initial.call)) l.budget l.left l.used l.t l.s l.g l.cells l.depth l.call
    × (length l.cells ≤ max_heap) × SiteOf l.b l.n l.t l.call l.site × (length l.t ≡ length l.initial.t) × (length l.cells ≡ length l.initial.cells) × (length l.s ≡ length l.initial.s) × (length l.g ≡ length l.initial.g)

abbrev pub decreases-loop-left : goal.decreases-loop-left
decreases-loop-left l = l.left
