use Rattle.std.proofs.Common.{sym, eq-eqb, ne_eqb}
use Rattle.shaping.proofs.marks.opcode_mark.Goals as goal

pub returns-then-op-eq187 : goal.returns-then-op-eq187
returns-then-op-eq187 c = sym (rw (eq-eqb _ 187 c.if-op-eq187.true))

pub returns : goal.returns
returns c = sym (rw (ne_eqb _ 187 c.if-op-eq187.false))
