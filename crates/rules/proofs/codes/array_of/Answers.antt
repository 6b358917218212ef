use Rattle.rules.specs.CodeLaws.{code_of_class, code_of_array}
use Rattle.std.proofs.Common.{refl, rules}
use Rattle.rules.proofs.codes.array_of.Goals as goal

pub returns-then-k-eq0 : goal.returns-then-k-eq0
returns-then-k-eq0 c = code_of_class c.args.k _ (search rules) c.if-k-eq0.true refl

pub returns : goal.returns
returns c = code_of_array c.args.k _ c.base.result c.if-k-eq0.false c.base.ensures.0 refl
