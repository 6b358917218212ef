use Rattle.reader.specs.Prints.{rows_none, rows_more, rows_done}
use Rattle.std.proofs.Common.{arith}
use Rattle.reader.proofs.printing.print_rows.Goals as goal

pub loop-j-init : goal.loop-j-init
loop-j-init c = (omega arith, rows_none c.args.s.now c.args.c c.args.method c.args.t.now)

pub loop-j-preserved : goal.loop-j-preserved
loop-j-preserved c = (omega arith, rows_more c.args.s.now c.args.c c.requires.0 c.args.method c.loop-j.j c.args.t.now c.loop-j.t c.loop-j.invariant.1 c.requires.1 (omega (arith, c.loop-j-test.true, c.member_count-n.ensures.0, c.requires.2)) _ _ c.member_print-p.ensures c.first_word-w.ensures.0 _ c.put_word.ensures)

pub returns : goal.returns
returns c = rows_done c.args.s.now c.args.c c.args.method c.loop-j.j _ c.args.t.now c.loop-j.t c.loop-j.invariant.0 c.loop-j-test.false c.member_count-n.ensures.0 c.loop-j.invariant.1
