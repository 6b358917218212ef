use Rattle.stepping.specs.Windowed.{sized, window_size, layout-asked, make_lands, make_does}
use Rattle.stepping.proofs.windowed.make.Goals as goal

pub layout_size-size-requires : goal.layout_size-size-requires
layout_size-size-requires c = layout-asked _ _ _ _ _ _ _ _ _ c.requires

pub new_object-r-requires : goal.new_object-r-requires
new_object-r-requires c = (sized _ _ _ _ _ _ _ _ _ c.requires _ _ _ _ (window_size c.args.d) (window_size c.args.d) c.place-c.ensures, c.requires.size)

pub after-requires : goal.after-requires
after-requires c = make_lands _ _ _ _ _ _ _ _ _ c.requires _ _ c.layout_size-size.ensures.0 _ _ c.place-c.ensures _ _ (window_size c.args.d) (window_size c.args.d) _ _ _ _ c.new_object-r.ensures c.new_object-r.auto.w c.new_object-r.auto.g c.new_object-r.auto.cells _ c.onto.ensures

pub returns : goal.returns
returns c = make_does _ _ _ _ _ _ _ _ _ c.requires _ _ c.layout_size-size.ensures.0 _ _ c.place-c.ensures _ _ (window_size c.args.d) (window_size c.args.d) _ _ _ _ c.new_object-r.ensures c.new_object-r.auto.w c.new_object-r.auto.g _ _ _ _ _ c.onto.ensures c.after.ensures
