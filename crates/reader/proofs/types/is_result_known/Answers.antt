use Rattle.reader.specs.CodeLaws.{no_result_known, result_known}
use Rattle.reader.proofs.types.is_result_known.Goals as goal

pub returns-then-v-eq256 : goal.returns-then-v-eq256
returns-then-v-eq256 c = search no_result_known

pub returns : goal.returns
returns c = search result_known
