use Rattle.verifier.specs.MethodWalks.{walking_start, method-walked}
use Rattle.std.proofs.Common.{refl}
use Rattle.verifier.proofs.walk.walk_method.Goals as goal

pub over_lines-requires : goal.over_lines-requires
over_lines-requires c = walking_start _ _ _ _ _ _ c.requires c.start-h.ensures _ c.start-h.auto.t refl refl

pub returns : goal.returns
returns c = method-walked _ _ _ _ _ c.start-h.result c.requires c.start-h.ensures _ _ c.over_lines.ensures
