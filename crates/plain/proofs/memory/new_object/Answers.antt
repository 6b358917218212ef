use Rattle.std.proofs.Common.{refl, le-ltb, lt-ltb}
use Rattle.plain.specs.HeapForms.{new_as}
use Rattle.plain.specs.HeapTurns.{likewise, guard_so, guard_not, make_low}
use Rattle.plain.proofs.memory.new_object.Goals as goal

pub returns-then-c : goal.returns-then-c
returns-then-c c = likewise _ _ _ _ _ _ _ _ _ _ _ (new_as _ _ _ _ _ _) (guard_not _ _ _ _ _ _ _ (le-ltb _ _ c.if-c.true))

pub returns : goal.returns
returns c = likewise _ _ _ _ _ _ _ _ _ _ _ (new_as _ _ _ _ _ _) (guard_so _ _ _ _ _ _ _ _ _ _ _ (lt-ltb _ _ c.if-c.false) (make_low _ _ _ _ _ _ _ _ _ _ _ _ _ _ _ _ refl refl refl c.make.ensures))
