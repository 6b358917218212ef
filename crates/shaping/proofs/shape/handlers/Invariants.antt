use Rattle.std.specs.Prelude.{◌≡◌, ◌+◌, ◌-◌, ◌*◌}
use Rattle.kit.specs.Claims.{verdict}
use Rattle.classfiles.specs.Attributes.{handlers_from}
use Rattle.rules.specs.Shape.{table_claims}
use Rattle.rules.specs.Sites.{front, program_at, method_at}
use Rattle.shaping.specs.Marks.{lines_at}
use Rattle.shaping.proofs.shape.handlers.Given as goal

abbrev pub invariant-loop-k : goal.invariant-loop-k
invariant-loop-k l =
    verdict (table_claims (program_at l.s (front l.t) l.x) (method_at l.s (front l.t) l.x) (lines_at l.s l.t l.x) (handlers_from l.s (l.x.entries - l.k) (l.x.table + 8 * l.k)))
    ≡ verdict (table_claims (program_at l.s (front l.t) l.x) (method_at l.s (front l.t) l.x) (lines_at l.s l.t l.x) (handlers_from l.s l.x.entries l.x.table))
