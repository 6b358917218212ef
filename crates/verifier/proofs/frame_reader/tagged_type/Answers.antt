use Rattle.verifier.specs.FrameReadLaws.{tagged-top, tagged-int, tagged-null, tagged_this, tagged_that, tagged-class, tagged-new, tagged_none}
use Rattle.verifier.proofs.frame_reader.tagged_type.Goals as goal

pub returns-then-tag-eq0 : goal.returns-then-tag-eq0
returns-then-tag-eq0 c = tagged-top _ _ _ c.requires _ _ _ _ _ c.if-tag-eq0.true c.top.ensures

pub returns-then-tag-eq1 : goal.returns-then-tag-eq1
returns-then-tag-eq1 c = tagged-int _ _ _ c.requires _ _ _ _ _ c.if-tag-eq1.true c.int.ensures

pub returns-then-tag-eq5 : goal.returns-then-tag-eq5
returns-then-tag-eq5 c = tagged-null _ _ _ c.requires _ _ _ _ _ c.if-tag-eq5.true c.null.ensures

pub returns-then-x : goal.returns-then-x
returns-then-x c = tagged_this _ _ _ c.requires _ _ _ _ _ c.if-tag-eq6.true c.if-x.true c.uninit_this.ensures

pub returns-then-tag-eq6 : goal.returns-then-tag-eq6
returns-then-tag-eq6 c = tagged_that _ _ _ c.requires _ _ _ _ c.if-tag-eq6.true c.if-x.false

pub returns-then-tag-eq7 : goal.returns-then-tag-eq7
returns-then-tag-eq7 c = tagged-class _ _ _ c.requires _ _ _ _ c.if-tag-eq7.true _ c.class_type.ensures

pub returns-then-tag-eq8 : goal.returns-then-tag-eq8
returns-then-tag-eq8 c = tagged-new _ _ _ c.requires _ _ _ _ c.if-tag-eq8.true _ c.new_type.ensures

pub returns : goal.returns
returns c = tagged_none _ _ _ c.requires _ _ _ _ c.if-tag-eq0.false c.if-tag-eq1.false c.if-tag-eq5.false c.if-tag-eq6.false c.if-tag-eq7.false c.if-tag-eq8.false
