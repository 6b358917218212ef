use Rattle.plain.specs.Calls.{frame_at}
use Rattle.plain.proofs.frames.saved.Goals as goal

pub returns : goal.returns
unfolding frame_at
returns c = rw (c.word.ensures, c.word-2.ensures, c.word-3.ensures, c.word-4.ensures, c.word-5.ensures, c.word-6.ensures)
