use Rattle.classfiles.specs.Loops.{many_stop}
use Rattle.classfiles.specs.MemberEnds.{member_end}
use Rattle.classfiles.specs.Past.{past_err}
use Rattle.classfiles.specs.Sections.{member_bad, member_is, rows_below, rows_done, rows_more, rows_start}
use Rattle.std.proofs.Common.{arith, refl, ◌∙◌}
use Rattle.classfiles.proofs.bundle.rows.Goals as goal

pub loop-i-init : goal.loop-i-init
loop-i-init c = (refl, omega arith, refl, rows_start _ _ _ _ _ _ _)

pub returns-in_err-g : goal.returns-in_err-g
returns-in_err-g c =
    (past_err _ _ _ c.from_residual.ensures.1 ∙ many_stop _ _ _ _ _ _ c.loop-i.invariant.3 c.loop-i-test.true _ _ (member_bad c.args.s.now c.args.b.now c.loop-i.b c.args.k c.args.w c.args.method c.loop-i.q c.requires.2 c.loop-i.invariant.2 _ _ c.in_err-g.ensures), c.loop-i.invariant.2)

pub loop-i-preserved : goal.loop-i-preserved
loop-i-preserved c =
    let e = member_is c.args.s.now c.args.b.now c.loop-i.b c.args.k c.args.w c.args.method c.loop-i.q c.requires.2 c.loop-i.invariant.2 _ _ c.in_ok-g.ensures in
    (c.put_row.auto.b ∙ c.loop-i.invariant.0, member_end _ _ _ _ _ _ e, rows_below _ _ c.args.w c.loop-i.i _ _ c.put_row.ensures ∙ c.loop-i.invariant.2, rows_more _ _ _ _ _ _ _ _ _ c.loop-i.invariant.3 _ _ c.loop-i-test.true e _ c.put_row.ensures)

pub returns : goal.returns
returns c = (rows_done _ _ _ _ _ _ _ _ _ c.loop-i.invariant.3 c.loop-i-test.false (omega arith), c.loop-i.invariant.2)
