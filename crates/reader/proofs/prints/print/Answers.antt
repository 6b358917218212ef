use Rattle.reader.specs.Prints.{print_by}
use Rattle.reader.proofs.prints.print.Goals as goal

pub returns : goal.returns
returns c = print_by c.args.x.now c.args.y.now _ _ c.text_print-h.ensures.0 c.text_print.ensures.0
