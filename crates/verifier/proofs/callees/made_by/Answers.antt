use Rattle.texts.specs.Reading.{part}
use Rattle.verifier.specs.Preparing.{made_none, made_some}
use Rattle.verifier.proofs.callees.made_by.Goals as goal

pub returns-then-w-ne-UNINIT : goal.returns-then-w-ne-UNINIT
returns-then-w-ne-UNINIT c = made_none _ _ _ _ c.if-w-ne-UNINIT.true

pub returns : goal.returns
unfolding part
returns c = made_some _ _ _ _ _ c.instruction-i.result c.if-w-ne-UNINIT.false c.instruction-i.ensures c.new_class.ensures
