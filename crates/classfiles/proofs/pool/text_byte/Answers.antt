use Rattle.texts.specs.Answers.{ltb_via}
use Rattle.classfiles.specs.Table.{text_byte}
use Rattle.kit.specs.Pick.{calls}
use Rattle.classfiles.proofs.pool.text_byte.Goals as goal

pub returns-then-b-eq0 : goal.returns-then-b-eq0
unfolding text_byte
returns-then-b-eq0 c = search calls depth 8

pub returns : goal.returns
unfolding text_byte
returns c = search (calls, ltb_via) depth 8
