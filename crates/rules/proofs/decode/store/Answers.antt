use Rattle.std.proofs.Common.{refl, [], ◌∷◌, rules}
use Rattle.kit.specs.Scan.{first_not}
use Rattle.rules.specs.Opcodes.{rows, row_in, row_of}
use Rattle.rules.specs.Decoding.{made}
use Rattle.rules.specs.DecodeLaws.{among, known, unlisted}
use Rattle.rules.proofs.decode.store.Goals as goal

pub returns-in_default : goal.returns-in_default
unfolding made row_of row_in rows among known first_not
returns-in_default c = record { is = λ P pool. unlisted P pool c.args.x.op _ _ _ (0x53 ∷ 0x4f ∷ 0x4e ∷ 0x4d ∷ 0x4c ∷ 0x4b ∷ 0x3e ∷ 0x3d ∷ 0x3c ∷ 0x3b ∷ 0x3a ∷ 0x36 ∷ []) 0x36 33 refl (search rules) (search rules) (search rules) }
