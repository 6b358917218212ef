use Rattle.classfiles.specs.Descriptors.{semicolon}
use Rattle.kit.specs.Pick.{same}
use Rattle.kit.specs.Scan.{scans}
use Rattle.std.proofs.Common.{arith}
use Rattle.classfiles.proofs.descriptors.semicolon.Goals as goal

pub returns-then-not-in_name : goal.returns-then-not-in_name
unfolding semicolon
returns-then-not-in_name c = search (scans, same, arith) depth 8

pub loop-i-preserved : goal.loop-i-preserved
unfolding semicolon
loop-i-preserved c = search (scans, same, arith) depth 8

pub returns : goal.returns
unfolding semicolon
returns c = search (scans, same, arith) depth 8
