use Rattle.shaping.specs.Located.{knows_init}
use Rattle.std.proofs.Common.{◌∙◌, arith}
use Rattle.shaping.proofs.locate.site.Goals as goal

pub member_name-requires : goal.member_name-requires
member_name-requires c = let x = c.requires.0.tables in (omega (arith, x.most, c.requires.1), c.requires.3, omega (arith, x.limited.methods c.args.c c.requires.1, c.requires.2))

pub returns : goal.returns
returns c = (c.site_as.ensures.0, knows_init c.args.s.now c.args.t.now _ _ _ _ _ c.requires.0 c.requires.1 c.requires.2 c.site_as.ensures.0 c.member_name.ensures (c.site_as.ensures.1 ∙ c.is_init-constructor.ensures))
