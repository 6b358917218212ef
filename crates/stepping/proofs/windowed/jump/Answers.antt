use Rattle.stepping.specs.Windowed.{sized, window_size, read_lands, read_does}
use Rattle.stepping.proofs.windowed.jump.Goals as goal

pub branch-r-requires : goal.branch-r-requires
branch-r-requires c = sized _ _ _ _ _ _ _ _ _ c.requires.0 _ _ _ _ (window_size c.args.d) (window_size c.args.d) c.place-c.ensures

pub after-requires : goal.after-requires
after-requires c = read_lands _ _ _ _ _ _ _ _ _ c.requires.0 _

pub returns : goal.returns
returns c = read_does _ _ _ _ _ _ _ _ _ c.requires.0 _ _ c.place-c.ensures _ c.requires.1 _ _ (window_size c.args.d) (window_size c.args.d) _ c.branch-r.ensures _ _ _ _ _ c.onto.ensures c.after.ensures
