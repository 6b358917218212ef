use Rattle.kit.specs.Pick.{calls}
use Rattle.classfiles.proofs.members.name_ok.Goals as goal

pub returns-then-method : goal.returns-then-method
returns-then-method c = let h = rw c.text_of-t.ensures at c.method_name.ensures in search calls depth 6

pub returns : goal.returns
returns c = let h = rw c.text_of-t.ensures at c.unqualified.ensures in search calls depth 6
