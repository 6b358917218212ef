use Rattle.reader.specs.CodeLaws.{class_base}
use Rattle.texts.specs.Answers.{reads}
use Rattle.kit.specs.Pick.{picks}
use Rattle.std.proofs.Common.{arith}
use Rattle.texts.specs.Reading.{part}
use Rattle.classfiles.specs.Descriptors.{named_at}
use Rattle.reader.proofs.types.named.Goals.{else-z-x-via-then-z-x+else-class_name, else-z-x-via-else-z-x}
use Rattle.reader.proofs.types.named.Goals as goal

pub returns-then-class_name : goal.returns-then-class_name
unfolding named_at part
returns-then-class_name c = (search (reads, picks, class_base) depth 12, omega (arith, c.number.ensures.1, c.requires.0))

pub returns : goal.returns
unfolding named_at part
returns c =
    (elim c.else-z-x.branch [ else-z-x-via-then-z-x+else-class_name w ↦ search (reads, picks) depth 12 | else-z-x-via-else-z-x w ↦ search (reads, picks) depth 12 ], tt)
