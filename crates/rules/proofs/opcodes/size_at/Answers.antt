use Rattle.std.proofs.Common.{◌≡◌, ℕ, arith}
use Rattle.rules.specs.OpcodeTable.{length_short}
use Rattle.rules.specs.Opcodes.{size_at, length_of, row_of}
use Rattle.rules.proofs.opcodes.size_at.Goals as goal

pub returns : goal.returns
unfolding size_at
returns c =
    let e : ◌≡◌ {A = ℕ} c.size.result (length_of (row_of c.byte.result)) = c.size.ensures in
    (cc, omega (arith, length_short c.byte.result))
