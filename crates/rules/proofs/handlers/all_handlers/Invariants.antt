use Rattle.std.proofs.Common.{is_some, ◌≡◌, ◌+◌, ◌-◌, ◌*◌, ◌≤◌}
use Rattle.kit.specs.Claims.{verdict}
use Rattle.classfiles.specs.Attributes.{handlers_from}
use Rattle.reader.specs.BuiltIns.{first_class}
use Rattle.rules.specs.Handlers.{catch_in, handlers_by}
use Rattle.rules.specs.Ancestry.{lineage}
use Rattle.rules.specs.Slots.{locals_of, veil, hidden_key}
use Rattle.rules.specs.FrameRows.{frames_of}
use Rattle.rules.proofs.handlers.all_handlers.Given as goal

abbrev pub invariant-loop-i : goal.invariant-loop-i
invariant-loop-i l =
    (l.i ≤ l.x.entries)
    × (verdict (handlers_by (lineage l.t l.kin.at l.kin.count) (catch_in l.t l.x.class (first_class + l.x.classes)) (frames_of l.t l.f) l.o l.h.flag (veil (is_some l.hidden) (hidden_key l.hidden) (locals_of l.t l.h)) (handlers_from l.s (l.x.entries - l.i) (l.x.table + 8 * l.i)))
    ≡ verdict (handlers_by (lineage l.t l.kin.at l.kin.count) (catch_in l.t l.x.class (first_class + l.x.classes)) (frames_of l.t l.f) l.o l.h.flag (veil (is_some l.hidden) (hidden_key l.hidden) (locals_of l.t l.h)) (handlers_from l.s l.x.entries l.x.table)))
