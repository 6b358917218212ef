use Rattle.std.proofs.Common.{refl, [], ◌∷◌, rules}
use Rattle.kit.specs.Scan.{first_not}
use Rattle.rules.specs.Opcodes.{rows, row_in, row_of}
use Rattle.rules.specs.Decoding.{made}
use Rattle.rules.specs.DecodeLaws.{among, known, unlisted}
use Rattle.rules.proofs.decode.load.Goals as goal

pub returns-in_default : goal.returns-in_default
unfolding made row_of row_in rows among known first_not
returns-in_default c = record { is = λ P pool. unlisted P pool c.args.x.op _ _ _ (0x32 ∷ 0x2e ∷ 0x2d ∷ 0x2c ∷ 0x2b ∷ 0x2a ∷ 0x1d ∷ 0x1c ∷ 0x1b ∷ 0x1a ∷ 0x19 ∷ 0x15 ∷ []) 0x13 35 refl (search rules) (search rules) (search rules) }
