use Rattle.std.proofs.Common.{ap, not}
use Rattle.kit.specs.Bools.{not_so}
use Rattle.stretching.specs.Fields.{just_fits}
use Rattle.stretching.proofs.fields.is_just.Goals as goal

pub returns-then-not-ready_at : goal.returns-then-not-ready_at
returns-then-not-ready_at c = λ e. absurd (not_so e)

pub returns-then-depth_at-of : goal.returns-then-depth_at-of
returns-then-depth_at-of c = λ e. absurd (not_so e)

pub returns : goal.returns
returns c = λ z. just_fits _ _ _ _ _ _ _ (ap not c.if-not-ready_at.false) c.ready_at.ensures c.if-depth_at-of.false c.depth_at.ensures c.base_at.ensures z
