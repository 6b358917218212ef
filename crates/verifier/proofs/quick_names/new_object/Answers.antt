use Rattle.std.proofs.Common.{sym, ◌∙◌}
use Rattle.verifier.specs.QuickNames.{named_none, makes-new}
use Rattle.verifier.proofs.quick_names.new_object.Goals as goal

pub returns-then-w-ne2 : goal.returns-then-w-ne2
returns-then-w-ne2 c = λ L. named_none _ L _ _ _ _ _

pub returns-then-not-no_copy : goal.returns-then-not-no_copy
returns-then-not-no_copy c = λ L. named_none _ L _ _ _ _ _

pub returns-then-is_err : goal.returns-then-is_err
returns-then-is_err c = λ L. named_none _ L _ _ _ _ _

pub returns : goal.returns
returns c = makes-new _ c.replace_locals.new.t _ _ _ c.put-g.result _ _ _ _ c.uninit-key.ensures c.top.ensures (sym c.no_copy.ensures ∙ c.if-not-no_copy.false) _ c.room.ensures c.if-is_err.ensures.value c.replace_locals.ensures.0 c.replace_locals.ensures.1 c.put-g.ensures.0 c.put-g.ensures.1 c.put-g.ensures.2 c.if-w-ne2.false
