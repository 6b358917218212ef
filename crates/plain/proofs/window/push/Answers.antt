use Rattle.plain.specs.Turns.{turns}
use Rattle.plain.proofs.window.push.Goals as goal

pub returns-then-c : goal.returns-then-c
returns-then-c c = search turns

pub returns : goal.returns
returns c = search turns
