use Rattle.classfiles.specs.Blocks.{pool_of}
use Rattle.reader.proofs.signature.text_at.Goals as goal

pub returns : goal.returns
unfolding pool_of
returns c = rw (← c.tags.ensures, ← c.u2_at.ensures.0) c.text_of.ensures
