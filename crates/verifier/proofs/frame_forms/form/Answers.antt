use Rattle.verifier.specs.FrameFormLaws.{form_same, form_one, form_none, form_cut, form_delta}
use Rattle.verifier.proofs.frame_forms.form.Goals as goal

pub returns-then-tag-lt64 : goal.returns-then-tag-lt64
returns-then-tag-lt64 c = form_same c.args.s.now c.args.t.now c.args.x c.args.f.now c.args.k c.args.tag c.args.n c.args.q _ c.if-tag-lt64.true c.sketched.ensures c.requires.1

pub returns-then-tag-lt128 : goal.returns-then-tag-lt128
returns-then-tag-lt128 c = form_one c.args.s.now c.args.t.now c.args.x c.args.f.now c.args.k c.args.tag c.args.n c.args.q c.if-tag-lt64.false _ _ c.if-tag-lt128.true c.one_operand.ensures

pub returns-then-tag-lt247 : goal.returns-then-tag-lt247
returns-then-tag-lt247 c = form_none c.args.s.now c.args.t.now c.args.x c.args.f.now c.args.k c.args.tag c.args.n c.args.q c.if-tag-lt64.false c.if-tag-lt128.false c.if-tag-lt247.true

pub returns-in_err-d : goal.returns-in_err-d
returns-in_err-d c = form_cut c.args.s.now c.args.t.now c.args.x c.args.f.now c.args.k c.args.tag c.args.n c.args.q c.if-tag-lt64.false c.if-tag-lt128.false c.if-tag-lt247.false _ _ c.from_residual.ensures.1 c.in_err-d.ensures

pub returns : goal.returns
returns c = form_delta c.args.s.now c.args.t.now c.args.x c.args.f.now c.args.k c.args.tag c.args.n c.args.q c.if-tag-lt64.false c.if-tag-lt128.false c.if-tag-lt247.false _ _ c.in_ok-d.ensures _ _ c.long_form.ensures
