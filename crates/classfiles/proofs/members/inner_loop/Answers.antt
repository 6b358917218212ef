use Rattle.classfiles.specs.Contents.{another_seen}
use Rattle.classfiles.specs.Loops.{sum_bad, sum_more, sum_none}
use Rattle.classfiles.specs.Members.{another, inner_at}
use Rattle.classfiles.specs.Past.{res_err}
use Rattle.classfiles.specs.Table.{pool_in}
use Rattle.std.proofs.Common.{◌∙◌}
use Rattle.texts.specs.Reading.{part}
use Rattle.classfiles.proofs.members.inner_loop.Goals as goal

pub returns-in_err-g : goal.returns-in_err-g
returns-in_err-g c =
    let a = c.args in
    res_err _ _ _ c.from_residual.ensures.1 ∙ sum_bad (inner_at a.s.now (pool_in a.s.now a.tags.now) a.e a.p) another _ _ _ _ _ c.loop-i.invariant c.loop-i-test.true _ _ c.in_err-g.ensures

pub loop-i-preserved : goal.loop-i-preserved
loop-i-preserved c =
    let a = c.args in
    sum_more (inner_at a.s.now (pool_in a.s.now a.tags.now) a.e a.p) another _ _ _ _ _ c.loop-i.invariant c.loop-i-test.true _ _ c.in_ok-g.ensures _ (another_seen (λ p. part c.args.s.now p.from p.len) _ _ _ c.another-sum.ensures)

pub returns : goal.returns
returns c =
    let a = c.args in
    sum_none (inner_at a.s.now (pool_in a.s.now a.tags.now) a.e a.p) another _ _ _ _ _ c.loop-i.invariant c.loop-i-test.false
