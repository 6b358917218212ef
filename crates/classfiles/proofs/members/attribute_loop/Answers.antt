use Rattle.classfiles.specs.Attributes.{body_of}
use Rattle.classfiles.specs.Contents.{another_seen, content_in}
use Rattle.classfiles.specs.Loops.{sum_bad, sum_more, sum_none}
use Rattle.classfiles.specs.Members.{another, attribute_at}
use Rattle.classfiles.specs.Past.{res_err}
use Rattle.classfiles.specs.Table.{pool_in}
use Rattle.std.proofs.Common.{◌∙◌}
use Rattle.classfiles.proofs.members.attribute_loop.Goals as goal

pub returns-in_err-g : goal.returns-in_err-g
returns-in_err-g c =
    let a = c.args in
    res_err _ _ _ c.from_residual.ensures.1 ∙ sum_bad (attribute_at a.s.now (pool_in a.s.now a.tags.now) a.method) another _ _ _ _ _ c.loop-i.invariant c.loop-i-test.true _ _ c.in_err-g.ensures

pub loop-i-preserved : goal.loop-i-preserved
loop-i-preserved c =
    let a = c.args in
    sum_more (attribute_at a.s.now (pool_in a.s.now a.tags.now) a.method) another _ _ _ _ _ c.loop-i.invariant c.loop-i-test.true _ _ c.in_ok-g.ensures _ (another_seen (λ x. body_of c.args.s.now x.start (content_in c.args.s.now x.frames)) _ _ _ c.another-sum.ensures)

pub returns : goal.returns
returns c =
    let a = c.args in
    sum_none (attribute_at a.s.now (pool_in a.s.now a.tags.now) a.method) another _ _ _ _ _ c.loop-i.invariant c.loop-i-test.false
