use Rattle.reader.specs.CodeLaws.{count_is}
use Rattle.reader.proofs.types.param_count.Goals as goal

pub returns : goal.returns
returns c = search count_is
