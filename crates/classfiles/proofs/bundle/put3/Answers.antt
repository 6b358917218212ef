use Rattle.classfiles.specs.Blocks.{put3}
use Rattle.classfiles.proofs.bundle.put3.Goals as goal

pub returns : goal.returns
unfolding put3
returns c = cc (c.put_word.ensures, c.put_word-2.ensures, c.put_word-3.ensures)
