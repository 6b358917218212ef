use Rattle.texts.specs.Reading.{part}
use Rattle.shaping.specs.ShapeLaws.{refer_start, refer_done, refer_no, refer_stop, refer_turn}
use Rattle.std.proofs.Common.{refl}
use Rattle.texts.specs.Faults.{never_none}
use Rattle.shaping.specs.ScanLaws.{scan_less}
use Rattle.shaping.proofs.shape.references.Goals as goal

pub slice_bounds-code-count : goal.slice_bounds-code-count
unfolding part
slice_bounds-code-count c = c.requires.here.bounded.from

pub slice_bounds-code-end : goal.slice_bounds-code-end
unfolding part
slice_bounds-code-end c = c.requires.here.bounded.to

pub loop-o-init : goal.loop-o-init
unfolding part
loop-o-init c = refer_start _ _ _ c.requires

pub fault_at-requires : goal.fault_at-requires
unfolding part
fault_at-requires c = (c.requires, c.loop-o-test.true)

pub returns-in-Some : goal.returns-in-Some
unfolding part
returns-in-Some c = refer_no _ _ _ c.requires _ _ c.loop-o.invariant c.loop-o-test.true c.size_at-n.ensures.0 _ c.in-Some.ensures _ refl (never_none c.in-Some.refusal)

pub returns-then-n-eq0 : goal.returns-then-n-eq0
unfolding part
returns-then-n-eq0 c = refer_stop _ _ _ c.requires _ _ c.loop-o.invariant c.loop-o-test.true c.size_at-n.ensures.0 _ c.in_default.ensures refl c.if-n-eq0.true

pub loop-o-smaller : goal.loop-o-smaller
unfolding part
loop-o-smaller c = scan_less _ _ _ c.loop-o-test.true c.if-n-eq0.false

pub loop-o-preserved : goal.loop-o-preserved
unfolding part
loop-o-preserved c = refer_turn _ _ _ c.requires _ _ c.loop-o.invariant c.loop-o-test.true c.size_at-n.ensures.0 _ c.in_default.ensures refl c.if-n-eq0.false

pub returns : goal.returns
unfolding part
returns c = refer_done _ _ _ c.requires _ c.loop-o-test.false c.loop-o.invariant
