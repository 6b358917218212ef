use Rattle.texts.specs.Reading.{part}
use Rattle.shaping.specs.ScanLaws.{scan_start, scan_end, scan_unlisted, scan_cut, scan_bad, scan_turn, scan_less, scan_room}
use Rattle.shaping.proofs.marks.scan.Goals as goal

pub slice_bounds-code-count : goal.slice_bounds-code-count
unfolding part
slice_bounds-code-count c = c.requires.0.bounded.from

pub slice_bounds-code-end : goal.slice_bounds-code-end
unfolding part
slice_bounds-code-end c = c.requires.0.bounded.to

pub loop-o-init : goal.loop-o-init
unfolding part
loop-o-init c = scan_start _ _ _ c.requires.0 c.requires.1 c.requires.3

pub shape_of-t-then-n-eq0 : goal.shape_of-t-then-n-eq0
unfolding part
shape_of-t-then-n-eq0 c = c.loop-o.invariant.long

pub returns-then-n-eq0 : goal.returns-then-n-eq0
unfolding part
returns-then-n-eq0 c = scan_unlisted _ _ _ c.requires.0 c.requires.1 _ _ _ c.loop-o.invariant c.loop-o-test.true c.size_at-n.ensures.0 c.if-n-eq0.true

pub shape_of-t-then-code-o : goal.shape_of-t-then-code-o
unfolding part
shape_of-t-then-code-o c = c.loop-o.invariant.long

pub returns-then-code-o : goal.returns-then-code-o
unfolding part
returns-then-code-o c = scan_cut _ _ _ c.requires.0 c.requires.1 _ _ _ c.loop-o.invariant c.loop-o-test.true c.size_at-n.ensures.0 c.if-n-eq0.false c.if-code-o.true

pub mark_at-requires : goal.mark_at-requires
unfolding part
mark_at-requires c = c.loop-o-test.true

pub shape_of-t-in_default : goal.shape_of-t-in_default
unfolding part
shape_of-t-in_default c = c.loop-o.invariant.long

pub returns-in_default : goal.returns-in_default
unfolding part
returns-in_default c = scan_bad _ _ _ c.requires.0 c.requires.1 _ _ _ c.loop-o.invariant c.loop-o-test.true c.size_at-n.ensures.0 c.if-n-eq0.false c.if-code-o.false c.in_default.ensures

pub bounds-t-o : goal.bounds-t-o
unfolding part
bounds-t-o c = scan_room _ _ _ _ _ c.requires.0 c.loop-o.invariant c.loop-o-test.true c.requires.2

pub loop-o-smaller : goal.loop-o-smaller
unfolding part
loop-o-smaller c = scan_less _ _ _ c.loop-o-test.true c.if-n-eq0.false

pub loop-o-preserved : goal.loop-o-preserved
unfolding part
loop-o-preserved c = scan_turn _ _ _ c.requires.0 c.requires.1 _ _ _ c.loop-o.invariant c.loop-o-test.true c.size_at-n.ensures.0 c.if-n-eq0.false c.if-code-o.false _ c.in-Some.ensures (scan_room _ _ _ _ _ c.requires.0 c.loop-o.invariant c.loop-o-test.true c.requires.2)

pub shape_of-t : goal.shape_of-t
unfolding part
shape_of-t c = c.loop-o.invariant.long

pub returns : goal.returns
unfolding part
returns c = scan_end _ _ _ c.requires.0 c.requires.1 _ _ c.loop-o-test.false c.loop-o.invariant
