use Rattle.std.proofs.Common.{refl}
use Rattle.stepping.specs.Turning.{stack_stays}
use Rattle.stepping.specs.Windowed.{sized, window_size, kin_lands, kin_does}
use Rattle.stepping.proofs.windowed.on_stack.Goals as goal

pub on_stack-r-requires : goal.on_stack-r-requires
on_stack-r-requires c = sized _ _ _ _ _ _ _ _ _ c.requires _ _ _ _ (window_size c.args.d) (window_size c.args.d) c.place-c.ensures

pub after-requires : goal.after-requires
after-requires c = kin_lands _ _ _ _ _ _ _ _ _ c.requires _ _ c.place-c.ensures _ (stack_stays c.args.i) _ _ (window_size c.args.d) (window_size c.args.d) _ _ _ _ c.on_stack-r.ensures c.on_stack-r.auto.w c.on_stack-r.auto.g refl _ c.onto.ensures

pub returns : goal.returns
returns c = kin_does _ _ _ _ _ _ _ _ _ c.requires _ _ c.place-c.ensures _ (stack_stays c.args.i) _ _ (window_size c.args.d) (window_size c.args.d) _ _ _ _ c.on_stack-r.ensures c.on_stack-r.auto.w c.on_stack-r.auto.g _ _ _ _ _ c.onto.ensures c.after.ensures
