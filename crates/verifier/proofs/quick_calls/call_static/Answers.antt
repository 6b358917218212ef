use Rattle.verifier.specs.QuickCalls.{calls_none, calls-static}
use Rattle.verifier.proofs.quick_calls.call_static.Goals as goal

pub returns-then-w-ne4 : goal.returns-then-w-ne4
returns-then-w-ne4 c = calls_none _ _ _ _ _ _ _ _ _ _

pub returns-then-w-ne1 : goal.returns-then-w-ne1
returns-then-w-ne1 c = calls_none _ _ _ _ _ _ _ _ _ _

pub returns-then-k-ge1024 : goal.returns-then-k-ge1024
returns-then-k-ge1024 c = calls_none _ _ _ _ _ _ _ _ _ _

pub returns-then-h-m : goal.returns-then-h-m
returns-then-h-m c = calls_none _ _ _ _ _ _ _ _ _ _

pub returns-then-not-arguments_fit : goal.returns-then-not-arguments_fit
returns-then-not-arguments_fit c = calls_none _ _ _ _ _ _ _ _ _ _

pub returns : goal.returns
returns c = calls-static _ _ _ _ _ _ _ _ _ _ _ c.entry_of-k.ensures.0 c.if-k-ge1024.false c.param_count-m.ensures.0 c.result_at.ensures.0 (c.arguments_fit.ensures c.if-not-arguments_fit.false) c.if-w-ne4.false c.if-w-ne1.false c.if-h-m.false c.give_back.ensures
