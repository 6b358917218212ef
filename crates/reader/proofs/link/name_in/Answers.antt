use Rattle.classfiles.specs.Blocks.{pool_of}
use Rattle.reader.specs.Numbers.{name_as}
use Rattle.reader.proofs.link.name_in.Goals as goal

pub returns : goal.returns
unfolding pool_of
returns c = name_as c.args.s.now c.args.b.now _ _ _ c.word-p.ensures c.u2_at.ensures.0 (rw (← c.tags.ensures) c.class_text_of.ensures)
