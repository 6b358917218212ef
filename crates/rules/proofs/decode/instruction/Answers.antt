use Rattle.std.proofs.Math.ListN.{get_or-eq_default}
use Rattle.rules.specs.Opcodes.{rows, row_in, row_of}
use Rattle.rules.specs.Decoding.{made}
use Rattle.rules.proofs.decode.instruction.Goals as goal

pub returns-then-code-o : goal.returns-then-code-o
unfolding made row_of row_in rows
returns-then-code-o c = record { is = λ P f. rw (get_or-eq_default c.args.code.now 0 c.if-code-o.true) }
