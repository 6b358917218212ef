use Rattle.kit.specs.Pick.{calls}
use Rattle.classfiles.specs.Attributes.{found_of}
use Rattle.classfiles.proofs.members.frames.Goals as goal

pub returns-then-titled : goal.returns-then-titled
unfolding found_of
returns-then-titled c = search calls depth 8

pub returns : goal.returns
unfolding found_of
returns c = search calls depth 8
