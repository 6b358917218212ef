use Rattle.verifier.specs.FrameFormLaws.{long_one, long_chop, long_same, long_append, long_full}
use Rattle.verifier.proofs.frame_forms.long_form.Goals as goal

pub returns-then-tag-eq247 : goal.returns-then-tag-eq247
returns-then-tag-eq247 c = long_one c.args.s.now c.args.t.now c.args.x c.args.f.now c.args.k c.args.tag c.args.d c.args.n c.args.q _ _ c.if-tag-eq247.true c.one_operand.ensures

pub returns-then-tag-lt251 : goal.returns-then-tag-lt251
returns-then-tag-lt251 c = long_chop c.args.s.now c.args.t.now c.args.x c.args.f.now c.args.k c.args.tag c.args.d c.args.n c.args.q c.if-tag-eq247.false _ c.if-tag-lt251.true c.chop.ensures

pub returns-then-tag-eq251 : goal.returns-then-tag-eq251
returns-then-tag-eq251 c = long_same c.args.s.now c.args.t.now c.args.x c.args.f.now c.args.k c.args.tag c.args.d c.args.n c.args.q c.if-tag-eq247.false c.if-tag-lt251.false _ c.if-tag-eq251.true c.sketched.ensures c.requires.1

pub returns-then-tag-lt255 : goal.returns-then-tag-lt255
returns-then-tag-lt255 c = long_append c.args.s.now c.args.t.now c.args.x c.args.f.now c.args.k c.args.tag c.args.d c.args.n c.args.q c.if-tag-eq247.false c.if-tag-lt251.false c.if-tag-eq251.false _ _ c.if-tag-lt255.true c.append.ensures

pub returns : goal.returns
returns c = long_full c.args.s.now c.args.t.now c.args.x c.args.f.now c.args.k c.args.tag c.args.d c.args.n c.args.q c.if-tag-eq247.false c.if-tag-lt251.false c.if-tag-eq251.false _ _ c.if-tag-lt255.false c.full.ensures
