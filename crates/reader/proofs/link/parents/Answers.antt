use Rattle.std.proofs.Common.{arith, refl, ◌∙◌}
use Rattle.reader.specs.Linked.{files_in, parent_is, parents_done, parents_more, blocks_kept}
use Rattle.reader.specs.Program.{program_of}
use Rattle.reader.proofs.link.parents.Goals as goal

pub loop-c-init : goal.loop-c-init
loop-c-init c = (omega arith, refl, refl, λ j h. absurd (omega arith))

pub loop-c-preserved : goal.loop-c-preserved
loop-c-preserved c =
    (omega arith, c.put_word.auto.s ∙ c.loop-c.invariant.1, blocks_kept c.args.s.now c.args.n c.args.t.now c.loop-c.t c.loop-c.invariant.2 _ _ _ c.put_word.ensures, parents_more (program_of (files_in c.args.s.now c.args.n c.args.t.now)) c.loop-c.t _ _ _ c.loop-c.invariant.3 c.put_word.ensures (parent_is c.args.s.now c.args.n c.args.t.now c.loop-c.t c.loop-c.invariant.2 _ _ c.parent-p.ensures.0) (omega (arith, c.parent-p.ensures.1)) (omega (arith, c.loop-c.invariant.1)))

pub returns : goal.returns
returns c =
    (c.loop-c.invariant.2, parents_done c.args.s.now c.args.n c.args.t.now c.loop-c.t c.loop-c.invariant.2 _ c.loop-c-test.false c.loop-c.invariant.3)
