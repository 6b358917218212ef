use Rattle.std.proofs.Common.{◌≡◌, ◌≤◌}
use Rattle.classfiles.specs.Attributes.{handlers_from}
use Rattle.rules.specs.Ancestry.{lineage}
use Rattle.plain.specs.Catching.{caught_in, catcher_by, from_entry}
use Rattle.plain.proofs.catching.catcher.Given as goal

abbrev pub invariant-loop-i : goal.invariant-loop-i
invariant-loop-i l =
    let L = lineage l.t l.kin.at l.kin.count in
    let f = caught_in l.t l.x.class l.x.classes in
    (l.i ≤ l.x.entries) × (from_entry L f l.o l.c l.s l.x.at l.x.entries l.i ≡ catcher_by L f l.o l.c (handlers_from l.s l.x.entries l.x.at))
