use Rattle.reader.specs.CodeLaws.{keep_one, keep_none}
use Rattle.reader.proofs.types.keep.Goals as goal

pub returns-then-count-lt16 : goal.returns-then-count-lt16
returns-then-count-lt16 c = search keep_one

pub returns : goal.returns
returns c = search keep_none
