use Rattle.kit.specs.Claims.{claim_on, claim_off}
use Rattle.rules.specs.FormLaws.{takings, by_takes, need_of}
use Rattle.rules.specs.Walk.{operands_fit}
use Rattle.rules.proofs.forms.ask_takes.Goals as goal

pub returns-in-Zero : goal.returns-in-Zero
unfolding operands_fit
returns-in-Zero c = search takings depth 12

pub returns-in_err-need-in-One : goal.returns-in_err-need-in-One
unfolding operands_fit
returns-in_err-need-in-One c = by_takes _ _ _ _ _ c.in-One.is (claim_off _ _ _ c.from_residual.ensures.1 _ _ _ (need_of _ _ _ _ _ c.in_err-need-in-One.ensures))

pub returns-in_ok-need-in-One : goal.returns-in_ok-need-in-One
unfolding operands_fit
returns-in_ok-need-in-One c = by_takes _ _ _ _ _ c.in-One.is (claim_on _ _ _ _ (need_of _ _ _ _ _ c.in_ok-need-in-One.ensures) c.fit_operand.ensures)

pub returns-in_err-need-in-Two : goal.returns-in_err-need-in-Two
unfolding operands_fit
returns-in_err-need-in-Two c = by_takes _ _ _ _ _ c.in-Two.is (claim_off _ _ _ c.from_residual-in_err-need-in-Two.ensures.1 _ _ _ (need_of _ _ _ _ _ c.in_err-need-in-Two.ensures))

pub returns-in_err-fit_operand-in-Two : goal.returns-in_err-fit_operand-in-Two
unfolding operands_fit
returns-in_err-fit_operand-in-Two c = by_takes _ _ _ _ _ c.in-Two.is (claim_on _ _ _ _ (need_of _ _ _ _ _ c.in_ok-need-in-Two.ensures) (claim_off _ _ _ c.from_residual-in_err-fit_operand-in-Two.ensures.1 _ _ _ c.in_err-fit_operand-in-Two.ensures))

pub returns-in_ok-fit_operand-in-Two : goal.returns-in_ok-fit_operand-in-Two
unfolding operands_fit
returns-in_ok-fit_operand-in-Two c = by_takes _ _ _ _ _ c.in-Two.is (claim_on _ _ _ _ (need_of _ _ _ _ _ c.in_ok-need-in-Two.ensures) (claim_on _ _ _ _ c.in_ok-fit_operand-in-Two.ensures c.fit_operand-in-Two-2.ensures))

pub returns-in_err-need-in-Three : goal.returns-in_err-need-in-Three
unfolding operands_fit
returns-in_err-need-in-Three c = by_takes _ _ _ _ _ c.in-Three.is (claim_off _ _ _ c.from_residual-in_err-need-in-Three.ensures.1 _ _ _ (need_of _ _ _ _ _ c.in_err-need-in-Three.ensures))

pub returns-in_err-fit_operand-in-Three : goal.returns-in_err-fit_operand-in-Three
unfolding operands_fit
returns-in_err-fit_operand-in-Three c = by_takes _ _ _ _ _ c.in-Three.is (claim_on _ _ _ _ (need_of _ _ _ _ _ c.in_ok-need-in-Three.ensures) (claim_off _ _ _ c.from_residual-in_err-fit_operand-in-Three.ensures.1 _ _ _ c.in_err-fit_operand-in-Three.ensures))

pub returns-in_err-fit_operand-in-Three-2 : goal.returns-in_err-fit_operand-in-Three-2
unfolding operands_fit
returns-in_err-fit_operand-in-Three-2 c = by_takes _ _ _ _ _ c.in-Three.is (claim_on _ _ _ _ (need_of _ _ _ _ _ c.in_ok-need-in-Three.ensures) (claim_on _ _ _ _ c.in_ok-fit_operand-in-Three.ensures (claim_off _ _ _ c.from_residual-in_err-fit_operand-in-Three-2.ensures.1 _ _ _ c.in_err-fit_operand-in-Three-2.ensures)))

pub returns-in_ok-fit_operand-in-Three-2 : goal.returns-in_ok-fit_operand-in-Three-2
unfolding operands_fit
returns-in_ok-fit_operand-in-Three-2 c = by_takes _ _ _ _ _ c.in-Three.is (claim_on _ _ _ _ (need_of _ _ _ _ _ c.in_ok-need-in-Three.ensures) (claim_on _ _ _ _ c.in_ok-fit_operand-in-Three.ensures (claim_on _ _ _ _ c.in_ok-fit_operand-in-Three-2.ensures c.fit_operand-in-Three-3.ensures)))
