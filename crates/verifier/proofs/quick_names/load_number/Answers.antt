use Rattle.verifier.specs.QuickNames.{named_none, loads_number}
use Rattle.verifier.proofs.quick_names.load_number.Goals as goal

pub returns-then-w-ne1 : goal.returns-then-w-ne1
returns-then-w-ne1 c = λ L o. named_none _ L _ _ _ o _

pub returns : goal.returns
returns c = loads_number _ _ _ _ _ _ _ c.if-w-ne1.false c.int.ensures c.push.ensures
