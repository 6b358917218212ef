use Rattle.shaping.specs.Located.{located}
use Rattle.std.proofs.Common.{refl, arith}
use Rattle.shaping.proofs.locate.site_as.Goals as goal

pub method_word-codes-requires : goal.method_word-codes-requires
method_word-codes-requires c = let x = c.requires.0.tables in (omega (arith, x.most, c.requires.1), omega (arith, x.limited.methods c.args.c c.requires.1, c.requires.2), omega arith)

pub parts_of-b-requires : goal.parts_of-b-requires
parts_of-b-requires c = let x = c.requires.0.tables in (omega (arith, x.most, c.requires.1), omega (arith, x.limited.methods c.args.c c.requires.1, c.requires.2))

pub returns : goal.returns
returns c = (located c.args.s.now c.args.t.now _ _ _ _ c.parts_of-b.result _ _ c.requires.0 c.requires.1 c.requires.2 c.parts_of-b.ensures c.method_word-codes.ensures.0 c.is_static-fixed.ensures, refl)
