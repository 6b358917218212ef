use Rattle.std.proofs.Common.{refl, le-leb, ap, not}
use borrow.Author.Tests.{lt-leb}
use Rattle.plain.specs.Turns.{untrue, holds_so}
use Rattle.plain.specs.HeapTurns.{handed, likewise, guard_so, guard_not, write_any}
use Rattle.plain.specs.HeapForms.{putfield_as, fits_as}
use Rattle.plain.proofs.memory.putfield.Goals as goal

pub returns-then-c-lt2 : goal.returns-then-c-lt2
returns-then-c-lt2 c = likewise _ _ _ _ _ _ _ _ _ _ _ (putfield_as _ _ _ _ _ _ _ _) (guard_not _ _ _ _ _ _ _ (lt-leb _ _ c.if-c-lt2.true))

pub returns-then-not-value_fits : goal.returns-then-not-value_fits
returns-then-not-value_fits c = likewise _ _ _ _ _ _ _ _ _ _ _ (putfield_as _ _ _ _ _ _ _ _) (guard_so _ _ _ _ _ _ _ _ _ _ _ (le-leb _ _ c.if-c-lt2.false) (guard_not _ _ _ _ _ _ _ (untrue _ _ (ap not c.if-not-value_fits.true) (fits_as _ _ _ _ _ _ c.value_fits.ensures c.described.ensures))))

pub returns-in_err-reach : goal.returns-in_err-reach
returns-in_err-reach c = likewise _ _ _ _ _ _ _ _ _ _ _ (putfield_as _ _ _ _ _ _ _ _) (guard_so _ _ _ _ _ _ _ _ _ _ _ (le-leb _ _ c.if-c-lt2.false) (guard_so _ _ _ _ _ _ _ _ _ _ _ (holds_so _ _ (ap not c.if-not-value_fits.false) (fits_as _ _ _ _ _ _ c.value_fits.ensures c.described.ensures)) (handed _ _ _ _ _ _ _ _ c.from_residual.ensures.1 (c.in_err-reach.ensures.0.by _ _ _))))

pub returns : goal.returns
returns c = likewise _ _ _ _ _ _ _ _ _ _ _ (putfield_as _ _ _ _ _ _ _ _) (guard_so _ _ _ _ _ _ _ _ _ _ _ (le-leb _ _ c.if-c-lt2.false) (guard_so _ _ _ _ _ _ _ _ _ _ _ (holds_so _ _ (ap not c.if-not-value_fits.false) (fits_as _ _ _ _ _ _ c.value_fits.ensures c.described.ensures)) (c.in_ok-reach.ensures.0.by _ _ _ _ _ _ _ (write_any _ _ _ _ _ _ _ _ c.to_cell.result _ _ _ _ _ c.write.ensures c.to_cell.ensures refl c.to_cell-2.ensures))))
