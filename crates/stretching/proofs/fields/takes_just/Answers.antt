use Rattle.std.proofs.Common.{ap, not, refl}
use Rattle.kit.specs.Bools.{not_so}
use Rattle.stretching.specs.Fields.{other_type}
use Rattle.plain.specs.Turns.{holds_so}
use Rattle.stretching.proofs.fields.takes_just.Goals as goal

pub returns-then-not-has_just : goal.returns-then-not-has_just
returns-then-not-has_just c = λ e. absurd (not_so e)

pub returns : goal.returns
returns c = λ z. let h = c.has_just.ensures (holds_so _ _ (ap not c.if-not-has_just.false) refl) in (h.0, h.1, other_type _ _ _ _ c.described.ensures (c.fits_just.ensures z))
