use Rattle.kit.specs.Claims.{claim_on, claim_off}
use Rattle.rules.proofs.steps.may_leave.Goals as goal

pub returns-in_err-must : goal.returns-in_err-must
returns-in_err-must c = claim_off _ _ _ c.from_residual.ensures.1 _ _ _ c.in_err-must.ensures

pub returns : goal.returns
returns c = claim_on _ _ _ _ c.in_ok-must.ensures c.must-2.ensures
