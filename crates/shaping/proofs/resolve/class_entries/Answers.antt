use Rattle.shaping.specs.Resolving.{around_same, around_both, tables_same, word_below, count_most, filled_first, filled_past}
use Rattle.std.proofs.Common.{arith, ◌+◌, ◌*◌, refl, sym, ◌∙◌}
use Rattle.shaping.proofs.resolve.class_entries.Goals as goal

pub loop-i-init : goal.loop-i-init
loop-i-init c = (around_same _, filled_first c.args.s.now c.args.n c.args.t.now c.requires.1 c.args.members _ c.requires.7 c.args.c refl, omega arith, omega arith)

pub fill-requires : goal.fill-requires
fill-requires c = let x = tables_same c.args.s.now c.args.n c.args.t.now c.loop-i.t c.requires.1 c.loop-i.invariant.0 c.requires.4 c.requires.5 c.requires.6 in (c.requires.0, c.requires.1, c.requires.2, c.loop-i.invariant.2, omega (arith, c.loop-i-test.true, count_most c.args.n c.args.t.now c.requires.5 c.args.c _ c.requires.2 c.word-e.ensures), omega (arith, c.loop-i-test.true, c.word-e.ensures, word_below c.args.s.now c.args.n c.args.t.now c.loop-i.t c.requires.1 c.loop-i.invariant.0.front (1608 * c.args.c + 1025) (omega (arith, c.requires.1, c.requires.2))), omega (arith, c.loop-i.invariant.0.long, c.requires.3), x.0, x.1, x.2, c.loop-i.invariant.1)

pub loop-i-preserved : goal.loop-i-preserved
loop-i-preserved c = (around_both _ _ _ c.loop-i.invariant.0 c.fill.ensures.0, c.fill.ensures.1, omega arith, omega (arith, c.loop-i-test.true, count_most c.args.n c.args.t.now c.requires.5 c.args.c _ c.requires.2 c.word-e.ensures))

pub returns : goal.returns
returns c = (c.loop-i.invariant.0, filled_past c.args.s.now c.args.n c.loop-i.t c.requires.1 c.args.members _ c.loop-i.invariant.1 c.args.c c.loop-i.i _ refl (c.word-e.ensures ∙ sym (word_below c.args.s.now c.args.n c.args.t.now c.loop-i.t c.requires.1 c.loop-i.invariant.0.front (1608 * c.args.c + 1025) (omega (arith, c.requires.1, c.requires.2)))) c.loop-i-test.false c.loop-i.invariant.3)
