use Rattle.reader.specs.CodeLaws.{params-length, code_is}
use Rattle.std.proofs.Common.{arith}
use Rattle.reader.proofs.types.param_at.Goals as goal

pub overflow_add-k-3 : goal.overflow_add-k-3
overflow_add-k-3 c = omega (arith, params-length c.args.t.now c.args.k, c.requires.0, c.requires.1)

pub returns : goal.returns
returns c = code_is _ _ _ _ c.requires.1 c.byte.ensures.0 c.byte.ensures.1
