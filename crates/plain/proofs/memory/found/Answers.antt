use Rattle.std.proofs.Common.{arith}
use Rattle.plain.specs.HeapForms.{checks, depth_there}
use Rattle.plain.proofs.memory.found.Goals as goal

pub returns-then-not-is_usable : goal.returns-then-not-is_usable
returns-then-not-is_usable c = (search checks, tt)

pub returns-then-n-eq0 : goal.returns-then-n-eq0
returns-then-n-eq0 c = (search checks, tt)

pub returns-then-depth_at-eq0 : goal.returns-then-depth_at-eq0
returns-then-depth_at-eq0 c = (search checks, tt)

pub returns : goal.returns
returns c = (search checks, (omega (arith, c.if-n-eq0.false, c.to_cell-n.ensures), search (depth_there, c.if-depth_at-eq0.false, c.depth_at.ensures, c.to_cell-n.ensures)))
