use Rattle.classfiles.specs.Bundle.{super_at}
use Rattle.classfiles.specs.Opening.{super_none, super_ok}
use Rattle.classfiles.specs.Past.{forms}
use Rattle.classfiles.proofs.bundle.super_class.Goals as goal

pub returns-in_err-i : goal.returns-in_err-i
unfolding super_at
returns-in_err-i c = search (forms, c.in_err-i.ensures) depth 12

pub returns-then-i-eq0 : goal.returns-then-i-eq0
unfolding super_at
returns-then-i-eq0 c = super_none _ _ _ _ _ c.in_ok-i.ensures c.if-i-eq0.true

pub returns-in_err-c : goal.returns-in_err-c
unfolding super_at
returns-in_err-c c = search (forms, c.in_ok-i.ensures, c.in_err-c.ensures) depth 12

pub returns : goal.returns
unfolding super_at
returns c = super_ok _ _ _ _ _ c.in_ok-i.ensures _ _ c.in_ok-c.ensures c.if-i-eq0.false
