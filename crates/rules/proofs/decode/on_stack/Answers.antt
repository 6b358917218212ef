use Rattle.std.proofs.Common.{rules, refl, [], ◌∷◌}
use Rattle.kit.specs.Scan.{first_not}
use Rattle.rules.specs.Opcodes.{rows, row_in, row_of}
use Rattle.rules.specs.Decoding.{made}
use Rattle.rules.specs.DecodeLaws.{among, known, unlisted}
use Rattle.rules.proofs.decode.on_stack.Goals as goal

pub returns-in_default : goal.returns-in_default
unfolding made row_of row_in rows among known first_not
returns-in_default c = record { is = λ P pool. unlisted P pool c.args.x.op _ _ _ (0x5f ∷ 0x5a ∷ 0x59 ∷ 0x57 ∷ []) 0x57 9 refl (search rules) (search rules) (search rules) }
