use Rattle.stepping.specs.LeaveMoves.{athrow_arm, return_arm, ireturn_arm, areturn_arm}
use Rattle.stepping.proofs.leave.leave.Goals as goal
use Rattle.stepping.proofs.leave.leave.Goals.{in-Areturn, in-Ireturn}

pub returns-in-Athrow : goal.returns-in-Athrow
returns-in-Athrow c = athrow_arm _ _ _ _ _ _ _ _ _ _ _ _ _ c.args.i _ c.in-Athrow.is c.athrow.ensures

pub returns-in-Return : goal.returns-in-Return
returns-in-Return c = return_arm _ _ _ _ _ _ _ _ _ _ _ _ c.args.i _ _ (rw c.ok_or.ensures.value at c.given.ensures) c.in-Return.is c.leave-r.ensures

pub returns : goal.returns
returns c = elim c.match-i.branch [
  | in-Areturn w ↦ areturn_arm _ _ _ _ _ _ _ _ _ _ _ _ c.args.i _ _ (rw c.ok_or-2.ensures.value at c.given-2.ensures) w.in-Areturn.is (rw w.ints-is at c.leave_with-r.ensures)
  | in-Ireturn w ↦ ireturn_arm _ _ _ _ _ _ _ _ _ _ _ _ c.args.i _ _ (rw c.ok_or-2.ensures.value at c.given-2.ensures) w.in-Ireturn.is (rw w.ints-is at c.leave_with-r.ensures)
]
