use Rattle.plain.specs.Turns.{turns}
use Rattle.plain.proofs.window.put_local.Goals as goal

pub returns-then-c : goal.returns-then-c
returns-then-c c = search turns

pub returns-then-c-j : goal.returns-then-c-j
returns-then-c-j c = search turns

pub returns : goal.returns
returns c = search turns
