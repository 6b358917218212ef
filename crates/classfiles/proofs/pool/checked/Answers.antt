use Rattle.texts.specs.Faults.{never_none}
use Rattle.classfiles.specs.Faults.{checked_bad, checked_ok, faults_next, faults_start}
use Rattle.std.proofs.Common.{refl}
use Rattle.classfiles.proofs.pool.checked.Goals as goal

pub loop-k-init : goal.loop-k-init
loop-k-init c = faults_start _ _ 0 _ refl

pub returns-in-Some : goal.returns-in-Some
returns-in-Some c = checked_bad _ _ _ _ refl _ c.loop-k.invariant _ _ (never_none _) c.loop-k-test.true c.in-Some.ensures c.word.ensures

pub loop-k-preserved : goal.loop-k-preserved
loop-k-preserved c = faults_next _ _ 0 _ refl _ c.loop-k.invariant c.loop-k-test.true c.in_default.ensures

pub returns : goal.returns
returns c = checked_ok _ _ _ _ refl _ c.loop-k.invariant c.loop-k-test.false
