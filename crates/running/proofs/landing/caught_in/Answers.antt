use Rattle.running.specs.Throws.{finds}
use Rattle.running.proofs.landing.caught_in.Goals as goal

pub returns : goal.returns
returns c = finds _ _ _ c.requires.0 c.args.k c.requires.1 _ c.site_of-x.ensures c.args.c c.catcher.result c.catcher.ensures
