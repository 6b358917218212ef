use Rattle.classfiles.specs.Blocks.{pool_of}
use Rattle.reader.proofs.access.entry_in.Goals as goal

pub returns : goal.returns
unfolding pool_of
returns c = rw (← c.block.ensures, ← c.tags.ensures) c.entry_of.ensures
