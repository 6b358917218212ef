use Rattle.std.proofs.Common.{refl, [], ◌∷◌, rules}
use Rattle.kit.specs.Scan.{first_not}
use Rattle.rules.specs.Opcodes.{rows, row_in, row_of}
use Rattle.rules.specs.Decoding.{made}
use Rattle.rules.specs.DecodeLaws.{among, known, unlisted}
use Rattle.rules.proofs.decode.naming.Goals as goal

pub returns-in_default : goal.returns-in_default
unfolding made row_of row_in rows among known first_not
returns-in_default c = record { is = λ P pool v e f. unlisted P pool c.args.x.op _ _ _ (0xc7 ∷ 0xc6 ∷ 0xc1 ∷ 0xc0 ∷ 0xbf ∷ 0xbe ∷ 0xbd ∷ 0xbc ∷ 0xbb ∷ 0xb8 ∷ 0xb7 ∷ 0xb6 ∷ 0xb5 ∷ 0xb4 ∷ []) 0xb4 76 refl (search rules) (search rules) (search rules) }
