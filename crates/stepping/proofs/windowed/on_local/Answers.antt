use Rattle.stepping.specs.Turning.{local_stays}
use Rattle.stepping.specs.Windowed.{sized, window_size, goes_lands, goes_does}
use Rattle.stepping.proofs.windowed.on_local.Goals as goal

pub on_local-r-requires : goal.on_local-r-requires
on_local-r-requires c = sized _ _ _ _ _ _ _ _ _ c.requires _ _ _ _ (window_size c.args.d) (window_size c.args.d) c.place-c.ensures

pub after-requires : goal.after-requires
after-requires c = goes_lands _ _ _ _ _ _ _ _ _ c.requires _ _ c.place-c.ensures _ (local_stays c.args.i) _ _ (window_size c.args.d) (window_size c.args.d) _ _ _ c.on_local-r.ensures c.on_local-r.auto.w c.on_local-r.auto.g _ c.onto.ensures

pub returns : goal.returns
returns c = goes_does _ _ _ _ _ _ _ _ _ c.requires _ _ c.place-c.ensures _ (local_stays c.args.i) _ _ (window_size c.args.d) (window_size c.args.d) _ _ _ c.on_local-r.ensures c.on_local-r.auto.w c.on_local-r.auto.g _ _ _ _ _ c.onto.ensures c.after.ensures
