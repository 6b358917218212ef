use Rattle.classfiles.specs.Shapes.{brackets}
use Rattle.kit.specs.Pick.{same}
use Rattle.std.proofs.Common.{arith}
use Rattle.classfiles.proofs.descriptors.field.Goals as goal

pub returns-then-not-is_at : goal.returns-then-not-is_at
returns-then-not-is_at c = search (brackets, same, arith) depth 8

pub loop-i-preserved : goal.loop-i-preserved
loop-i-preserved c = search (brackets, same, arith) depth 8

pub returns : goal.returns
returns c = search (brackets, same, arith) depth 8
