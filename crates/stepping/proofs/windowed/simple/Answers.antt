use Rattle.stepping.specs.Turning.{plain_stays}
use Rattle.stepping.specs.Windowed.{sized, window_size, kin_lands, kin_does}
use Rattle.stepping.proofs.windowed.simple.Goals as goal

pub plain-r-requires : goal.plain-r-requires
plain-r-requires c = (sized _ _ _ _ _ _ _ _ _ c.requires _ _ _ _ (window_size c.args.d) (window_size c.args.d) c.place-c.ensures, c.requires.size)

pub after-requires : goal.after-requires
after-requires c = kin_lands _ _ _ _ _ _ _ _ _ c.requires _ _ c.place-c.ensures _ (plain_stays c.args.i) _ _ (window_size c.args.d) (window_size c.args.d) _ _ _ _ c.plain-r.ensures c.plain-r.auto.w c.plain-r.auto.g c.plain-r.auto.cells _ c.onto.ensures

pub returns : goal.returns
returns c = kin_does _ _ _ _ _ _ _ _ _ c.requires _ _ c.place-c.ensures _ (plain_stays c.args.i) _ _ (window_size c.args.d) (window_size c.args.d) _ _ _ _ c.plain-r.ensures c.plain-r.auto.w c.plain-r.auto.g _ _ _ _ _ c.onto.ensures c.after.ensures
