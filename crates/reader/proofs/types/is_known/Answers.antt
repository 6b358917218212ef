use Rattle.reader.specs.CodeLaws.{known_int, known_class}
use Rattle.reader.proofs.types.is_known.Goals as goal

pub returns-then-b-eq31 : goal.returns-then-b-eq31
returns-then-b-eq31 c = search known_int

pub returns : goal.returns
returns c = search known_class
