use Rattle.reader.specs.Prints.{words_start, words_next, words_end, print_last}
use Rattle.std.proofs.Common.{arith}
use Rattle.reader.proofs.prints.text_print.Goals as goal

pub loop-i-init : goal.loop-i-init
loop-i-init c = (omega arith, c.requires, words_start c.args.x.now _ c.args.h)

pub loop-i-preserved : goal.loop-i-preserved
loop-i-preserved c = (omega arith, omega arith, words_next c.args.x.now _ c.loop-i.i c.loop-i.v _ c.loop-i.invariant.2 c.loop-i-test.true _ c.word.ensures)

pub returns : goal.returns
returns c = (print_last c.args.x.now c.args.h c.loop-i.v _ _ _ (words_end c.args.x.now _ c.loop-i.i c.loop-i.v _ c.loop-i.invariant.2 c.loop-i-test.false) c.byte.ensures.0 c.byte-2.ensures.0 c.byte-3.ensures.0, omega arith)
