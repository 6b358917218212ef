use Rattle.std.proofs.Common.{sym, ap, ◌∙◌, arith}
use Rattle.kit.specs.Bools.{not_so}
use Rattle.classfiles.specs.Descriptors.{dint}
use Rattle.rules.specs.Types.{ty_of}
use Rattle.verifier.specs.QuickCalls.{fitted_none, fitted_turn, fitted_all}
use Rattle.verifier.proofs.quick_calls.arguments_fit.Goals as goal

pub loop-i-init : goal.loop-i-init
loop-i-init c = fitted_none _ _ _ _ c.requires.2

pub param_at-requires : goal.param_at-requires
param_at-requires c = (c.requires.1, omega arith)

pub overflow_cast-param_at : goal.overflow_cast-param_at
overflow_cast-param_at c = omega arith

pub returns-then-not-operand_fits : goal.returns-then-not-operand_fits
returns-then-not-operand_fits c = λ z. absurd (not_so z)

pub loop-i-preserved : goal.loop-i-preserved
loop-i-preserved c = fitted_turn _ _ _ _ _ _ dint c.loop-i.invariant (omega arith) (omega arith) (c.described-w.ensures.1 ∙ ap ty_of c.param_at.ensures.0) (sym c.operand_fits.ensures ∙ c.if-not-operand_fits.false)

pub returns : goal.returns
returns c = λ z. fitted_all _ _ _ _ _ _ c.loop-i.invariant (omega arith) (omega arith)
