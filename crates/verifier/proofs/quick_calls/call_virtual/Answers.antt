use Rattle.std.proofs.Common.{sym, ◌∙◌}
use Rattle.verifier.specs.QuickCalls.{calls_none, calls_virtual}
use Rattle.verifier.proofs.quick_calls.call_virtual.Goals as goal

pub returns-then-w-ne4 : goal.returns-then-w-ne4
returns-then-w-ne4 c = calls_none _ _ _ _ _ _ _ _ _ _

pub returns-then-w-ne0 : goal.returns-then-w-ne0
returns-then-w-ne0 c = calls_none _ _ _ _ _ _ _ _ _ _

pub returns-then-k-ge1024 : goal.returns-then-k-ge1024
returns-then-k-ge1024 c = calls_none _ _ _ _ _ _ _ _ _ _

pub returns-then-h-m : goal.returns-then-h-m
returns-then-h-m c = calls_none _ _ _ _ _ _ _ _ _ _

pub returns-then-not-arguments_fit : goal.returns-then-not-arguments_fit
returns-then-not-arguments_fit c = calls_none _ _ _ _ _ _ _ _ _ _

pub returns-then-not-operand_fits : goal.returns-then-not-operand_fits
returns-then-not-operand_fits c = calls_none _ _ _ _ _ _ _ _ _ _

pub returns : goal.returns
returns c = calls_virtual _ _ _ _ _ _ _ _ _ _ _ c.entry_of-k.ensures.0 c.if-k-ge1024.false c.param_count-m.ensures.0 c.result_at.ensures.0 (c.arguments_fit.ensures c.if-not-arguments_fit.false) c.if-w-ne4.false c.if-w-ne0.false c.if-h-m.false _ c.class.ensures (sym c.operand_fits.ensures ∙ c.if-not-operand_fits.false) c.give_back.ensures
