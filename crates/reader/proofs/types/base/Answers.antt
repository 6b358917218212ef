use Rattle.reader.specs.CodeLaws.{named-type}
use Rattle.classfiles.specs.Shapes.{semicolon_past}
use Rattle.texts.specs.Answers.{reads}
use Rattle.kit.specs.Pick.{picks}
use Rattle.std.proofs.Common.{arith}
use Rattle.classfiles.specs.Descriptors.{base_at}
use Rattle.reader.specs.TypeCodes.{base_of}
use Rattle.reader.proofs.types.base.Goals as goal

pub returns-then-is_at : goal.returns-then-is_at
unfolding base_at base_of
returns-then-is_at c = (search (reads, picks) depth 12, omega arith)

pub named-requires : goal.named-requires
named-requires c = (c.requires.0, c.requires.1, semicolon_past _ _ _ c.semicolon-z.ensures)

pub returns-then-is_at-2 : goal.returns-then-is_at-2
unfolding base_at
returns-then-is_at-2 c = (search (named-type, reads, picks) depth 12, c.named.ensures.1)

pub returns : goal.returns
unfolding base_at base_of
returns c = (search (reads, picks) depth 12, tt)
