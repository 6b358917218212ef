use Rattle.std.proofs.Common.{arith}
use Rattle.verifier.specs.Ahead.{scouted}
use Rattle.verifier.proofs.ahead.scout.Goals as goal

pub frame_at-requires : goal.frame_at-requires
frame_at-requires c = c.requires.1

pub past-beyond-requires : goal.past-beyond-requires
past-beyond-requires c = omega (arith, c.requires.2.within, c.requires.5)

pub still_quiet-hushed-requires : goal.still_quiet-hushed-requires
still_quiet-hushed-requires c = (c.requires.3, omega (arith, c.requires.0.table), c.requires.0.entries)

pub still_alike-level-requires : goal.still_alike-level-requires
still_alike-level-requires c = (c.still_quiet-hushed.ensures, omega (arith, c.requires.0.table), c.requires.0.entries)

pub frame_at-requires-2 : goal.frame_at-requires-2
frame_at-requires-2 c = c.requires.1

pub returns : goal.returns
returns c = scouted _ _ _ _ _ _ _ _ c.requires.1 c.requires.2 c.frame_at.ensures c.requires.4 _ _ _ _ _ _ c.past-beyond.ensures c.still_quiet-hushed.ensures c.still_alike-level.ensures c.frame_at-2.ensures (omega (arith, c.min-till.ensures)) (omega (arith, c.min-till.ensures))
