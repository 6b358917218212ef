use Rattle.rules.specs.Forms.{reference_array, reference_class}
use Rattle.std.proofs.Common.{arith, rules}
use Rattle.rules.proofs.types.Ty.as_reference.Goals as goal

pub returns-then-self-eq-ARRAY : goal.returns-then-self-eq-ARRAY
returns-then-self-eq-ARRAY c = reference_array _ (search rules)

pub returns : goal.returns
returns c = reference_class c.args.self.word _ (search rules) (omega arith) (omega arith)
