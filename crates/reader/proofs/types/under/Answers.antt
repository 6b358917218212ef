use Rattle.std.proofs.Common.{arith}
use Rattle.reader.specs.CodeLaws.{desc_at}
use Rattle.reader.proofs.types.under.Goals as goal

pub returns : goal.returns
returns c = (desc_at c.args.b.val c.args.d c.requires.0, search arith, omega (arith, c.requires.1))
