use Rattle.std.proofs.Common.{refl, arith}
use Rattle.rules.specs.Opcodes.{rows, row_in, row_of}
use Rattle.rules.specs.Decoding.{made}
use Rattle.stretching.specs.Quick.{ready-sized, quick_elsewhere, quick_arm, made_get}
use Rattle.stretching.proofs.quick.get_field.Goals as goal

pub returns-then-r-ne3 : goal.returns-then-r-ne3
returns-then-r-ne3 c = quick_elsewhere _ _ _ _ _ _ _ _ _ _ _

pub getfield-requires : goal.getfield-requires
getfield-requires c = ready-sized _ _ _ _ _ _ _ _ _ _ c.requires.0 c.place-c.ensures

pub returns : goal.returns
unfolding made row_of row_in rows
returns c = quick_arm _ _ _ _ _ _ _ _ _ _ 3 _ _ _ _ _ _ _ 0xb4 c.requires.1 refl (omega arith) tt (made_get c.args.b.now c.args.t.now c.args.code.now c.args.y c.args.at c.named-r.result c.field.result c.named-r.ensures c.if-r-ne3.false c.field.ensures) c.kin.ensures c.place-c.ensures c.getfield.ensures
