use Rattle.rules.specs.Forms.{described_int}
use Rattle.std.proofs.Common.{rules}
use Rattle.rules.proofs.types.Ty.described.Goals as goal

pub returns-then-self-eq-INT : goal.returns-then-self-eq-INT
returns-then-self-eq-INT c = described_int _ (search rules)
