use Rattle.classfiles.specs.Pool.{entry_at, fixed_at}
use Rattle.classfiles.specs.Table.{pos_ne}
use Rattle.texts.specs.Answers.{reads}
use Rattle.classfiles.proofs.pool.entry_at.Goals as goal

pub returns-then-s-q : goal.returns-then-s-q
unfolding entry_at fixed_at
returns-then-s-q c = search reads depth 14

pub returns-then-tag-eq1 : goal.returns-then-tag-eq1
unfolding entry_at fixed_at
returns-then-tag-eq1 c = search reads depth 14

pub returns-in-Some : goal.returns-in-Some
unfolding entry_at fixed_at
returns-in-Some c = rw (← c.byte-tag.ensures.0, ← c.in-Some.ensures.0) (search (reads, pos_ne, c.in-Some.ensures.1) depth 14)

pub returns : goal.returns
unfolding entry_at fixed_at
returns c = rw (← c.byte-tag.ensures.0, ← c.in_default.ensures.0) (search reads depth 12)
