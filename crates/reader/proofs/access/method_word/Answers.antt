use Rattle.reader.specs.Access.{tag_block}
use Rattle.std.proofs.Common.{arith}
use Rattle.reader.proofs.access.method_word.Goals as goal

pub returns : goal.returns
returns c = (tag_block _ _ _ _ (omega (arith, c.requires.1, c.requires.2)) c.word.ensures, omega arith)
