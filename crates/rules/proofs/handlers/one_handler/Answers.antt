use Rattle.rules.specs.Handlers.{is_covered, is_barred, not_covered, catch_via}
use Rattle.rules.proofs.handlers.one_handler.Goals as goal

pub returns-then-not-covers : goal.returns-then-not-covers
returns-then-not-covers c = not_covered _ _ _ _ _ _ _ _ c.if-not-covers.true c.covers.ensures

pub returns-in_err-must : goal.returns-in_err-must
returns-in_err-must c = is_barred _ _ _ _ _ _ _ _ c.if-not-covers.false c.covers.ensures _ _ _ c.from_residual.ensures.1 c.in_err-must.ensures

pub returns : goal.returns
returns c = is_covered _ _ _ _ _ _ _ _ c.if-not-covers.false c.covers.ensures _ _ _ c.in_ok-must.ensures c.into_handler.ensures (catch_via _ _ _ _ _ _ c.catch_type-w.ensures c.u2_at.ensures.0) c.u2_at-2.ensures.0
