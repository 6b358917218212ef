use Rattle.classfiles.specs.Signatures.{result_ok}
use Rattle.kit.specs.Pick.{calls}
use Rattle.classfiles.proofs.members.result_ok.Goals as goal

pub returns-then-is_init : goal.returns-then-is_init
unfolding result_ok
returns-then-is_init c = let h = rw c.text_of.ensures at c.is_init.ensures in search calls depth 8

pub returns : goal.returns
unfolding result_ok
returns c = let h = rw c.text_of.ensures at c.is_init.ensures in search calls depth 8
