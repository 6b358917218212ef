use Rattle.reader.specs.Chains.{rooted_at}
use Rattle.reader.proofs.link.is_rooted.Goals as goal

pub returns : goal.returns
unfolding rooted_at
returns c = c.reaches.ensures
