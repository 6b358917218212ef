use Rattle.rules.specs.CodeLaws.{code-int, code_other}
use Rattle.std.proofs.Common.{refl, rules}
use Rattle.rules.proofs.codes.described.Goals as goal

pub returns-then-k-eq248 : goal.returns-then-k-eq248
returns-then-k-eq248 c = code-int c.args.k 1 c.if-k-eq248.true refl

pub returns : goal.returns
returns c = code_other c.args.k c.reference.result.word (search rules) c.if-k-eq248.false c.reference.ensures
