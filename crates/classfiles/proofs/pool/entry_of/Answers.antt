use Rattle.classfiles.specs.Table.{entries}
use Rattle.classfiles.proofs.pool.entry_of.Goals as goal

pub returns-then-i-eq0 : goal.returns-then-i-eq0
returns-then-i-eq0 c = search entries depth 4

pub returns-then-i-tags : goal.returns-then-i-tags
returns-then-i-tags c = search entries depth 6

pub returns : goal.returns
returns c = search entries depth 6
