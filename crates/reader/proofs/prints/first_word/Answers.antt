use Rattle.reader.specs.Prints.{word-method, word-field}
use Rattle.std.proofs.Common.{arith}
use Rattle.reader.proofs.prints.first_word.Goals as goal

pub returns-then-method : goal.returns-then-method
returns-then-method c = (word-method c.args.c c.args.method c.if-method.true, omega (arith, c.requires))

pub returns : goal.returns
returns c = (word-field c.args.c c.args.method c.if-method.false, omega (arith, c.requires))
