use Rattle.texts.specs.Reading.{part}
use Rattle.reader.proofs.blocks.tags.Goals as goal

pub returns : goal.returns
unfolding part
returns c = rw (← c.word.ensures) c.cut.ensures
