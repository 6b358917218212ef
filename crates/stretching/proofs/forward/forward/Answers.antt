use Rattle.texts.specs.Reading.{part}
use Rattle.stepping.specs.Windowed.{window_size}
use Rattle.stretching.specs.Forwarding.{ahead_fit, forward_by}
use Rattle.stretching.proofs.forward.forward.Goals as goal

pub stretch-requires : goal.stretch-requires
unfolding part
stretch-requires c = ahead_fit _ _ _ _ _ _ _ _ c.requires _ _ (window_size c.args.d) (window_size c.args.d)

pub returns : goal.returns
unfolding part
returns c = forward_by _ _ _ _ _ _ _ _ c.requires _ _ _ _ (window_size c.args.d) (window_size c.args.d) _ _ _ _ c.stretch.auto.w c.stretch.auto.g c.stretch.ensures
