use Rattle.rules.proofs.OpcodeTable.{rule}
use Rattle.rules.specs.OpcodeTable.{table, no_byte}
use Rattle.std.proofs.Common.{rules}
use Rattle.rules.proofs.opcodes.taken.Goals as goal

pub returns-then-op-lt256 : goal.returns-then-op-lt256
unfolding table
returns-then-op-lt256 c = (rule c.args.op (search rules)).taken

pub returns : goal.returns
returns c = rw (no_byte _ c.if-op-lt256.false)
