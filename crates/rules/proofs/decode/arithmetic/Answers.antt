use Rattle.std.proofs.Common.{refl, [], ◌∷◌, rules}
use Rattle.kit.specs.Scan.{first_not}
use Rattle.rules.specs.Opcodes.{rows, row_in, row_of}
use Rattle.rules.specs.Decoding.{made}
use Rattle.rules.specs.DecodeLaws.{among, known, unlisted}
use Rattle.rules.proofs.decode.arithmetic.Goals as goal

pub returns-in_default : goal.returns-in_default
unfolding made row_of row_in rows among known first_not
returns-in_default c = record { is = λ P pool. unlisted P pool c.args.x.op _ _ _ (0x84 ∷ 0x82 ∷ 0x80 ∷ 0x7e ∷ 0x7c ∷ 0x7a ∷ 0x78 ∷ 0x74 ∷ 0x70 ∷ 0x6c ∷ 0x68 ∷ 0x64 ∷ 0x60 ∷ []) 0x60 57 refl (search rules) (search rules) (search rules) }
