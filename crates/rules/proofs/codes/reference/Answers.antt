use Rattle.rules.specs.CodeLaws.{code-class, code_array}
use Rattle.std.proofs.Common.{refl}
use Rattle.rules.proofs.codes.reference.Goals as goal

pub returns-then-k-eq0 : goal.returns-then-k-eq0
returns-then-k-eq0 c = code-class c.args.k _ c.if-k-eq0.true refl

pub returns : goal.returns
returns c = code_array c.args.k _ c.base.result c.if-k-eq0.false c.base.ensures.0 refl
