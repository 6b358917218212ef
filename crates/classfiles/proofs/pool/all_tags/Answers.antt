use Rattle.classfiles.specs.Pool.{tags_at}
use Rattle.classfiles.specs.Table.{first_tag}
use Rattle.std.proofs.Common.{arith, ◌∙◌}
use Rattle.classfiles.proofs.pool.all_tags.Goals as goal

pub returns : goal.returns
unfolding tags_at
returns c = c.entries.ensures ∙ rw (first_tag _ _ c.put_word.ensures (omega arith))
