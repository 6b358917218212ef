use Rattle.kit.specs.Pick.{calls}
use Rattle.rules.specs.ResolvedWords.{word_of}
use Rattle.rules.proofs.decode.named_word.Goals as goal

pub returns-then-i-lt1024 : goal.returns-then-i-lt1024
unfolding word_of
returns-then-i-lt1024 c = search calls

pub returns-else-i-lt1024 : goal.returns-else-i-lt1024
unfolding word_of
returns-else-i-lt1024 c = search calls

pub returns-else-c-lt16 : goal.returns-else-c-lt16
unfolding word_of
returns-else-c-lt16 c = search calls
