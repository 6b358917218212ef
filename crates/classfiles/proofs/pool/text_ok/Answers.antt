use Rattle.classfiles.specs.Table.{text_by}
use Rattle.kit.specs.Scan.{alls}
use Rattle.classfiles.proofs.pool.text_ok.Goals as goal

pub returns-then-not-text_byte : goal.returns-then-not-text_byte
returns-then-not-text_byte c = search (alls, text_by) depth 8

pub loop-i-preserved : goal.loop-i-preserved
loop-i-preserved c = search alls depth 8

pub returns : goal.returns
returns c = search (alls, text_by) depth 8
