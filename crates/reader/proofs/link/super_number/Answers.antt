use Rattle.std.proofs.Common.{arith}
use Rattle.classfiles.specs.Blocks.{pool_of}
use Rattle.reader.specs.Chains.{no_super, a_super}
use Rattle.reader.proofs.link.super_number.Goals as goal

pub returns-then-i-eq0 : goal.returns-then-i-eq0
returns-then-i-eq0 c = (λ none. no_super c.args.s.now c.args.t.now c.args.n none c.args.c _ (rw (← c.block-b.ensures) c.super_index-i.ensures) c.if-i-eq0.true, tt)

pub returns : goal.returns
unfolding pool_of
returns c = (λ none. a_super c.args.s.now c.args.t.now c.args.n none c.args.c _ (rw (← c.block-b.ensures) c.super_index-i.ensures) c.if-i-eq0.false _ _ (rw (← c.block-b.ensures, ← c.tags.ensures) c.class_text_of-x.ensures) c.number.ensures.0, omega (arith, c.number.ensures.1))
