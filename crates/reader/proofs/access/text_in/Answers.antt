use Rattle.classfiles.specs.Blocks.{pool_of}
use Rattle.reader.proofs.access.text_in.Goals as goal

pub returns : goal.returns
unfolding pool_of
returns c = rw (← c.block.ensures, ← c.tags.ensures) c.text_of.ensures
