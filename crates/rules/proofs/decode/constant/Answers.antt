use Rattle.std.proofs.Common.{refl, [], ◌∷◌, rules}
use Rattle.kit.specs.Scan.{first_not}
use Rattle.rules.specs.Opcodes.{rows, row_in, row_of}
use Rattle.rules.specs.Decoding.{made}
use Rattle.rules.specs.DecodeLaws.{among, known, unlisted}
use Rattle.rules.proofs.decode.constant.Goals as goal

pub returns-in_default : goal.returns-in_default
unfolding made row_of row_in rows among known first_not
returns-in_default c = record { is = λ P pool. unlisted P pool c.args.x.op _ _ _ (0x11 ∷ 0x10 ∷ 0x08 ∷ 0x07 ∷ 0x06 ∷ 0x05 ∷ 0x04 ∷ 0x03 ∷ 0x02 ∷ 0x01 ∷ 0x00 ∷ []) 0x0 18 refl (search rules) (search rules) (search rules) }
