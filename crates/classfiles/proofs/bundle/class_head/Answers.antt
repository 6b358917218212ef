use Rattle.classfiles.specs.Opening.{headed_bad, names_bad, names_ok, open_end, opening_bad}
use Rattle.std.proofs.Common.{arith}
use Rattle.classfiles.proofs.bundle.class_head.Goals as goal

pub returns-in_err-p : goal.returns-in_err-p
returns-in_err-p c = headed_bad _ _ _ _ _ c.from_residual.ensures.1 (opening_bad _ _ _ _ c.in_err-p.ensures.0)

pub returns-in_err-at : goal.returns-in_err-at
returns-in_err-at c = headed_bad _ _ _ _ _ c.from_residual-in_err-at.ensures.1 (names_bad _ _ _ _ _ c.in_ok-p.ensures.0 _ _ c.in_err-at.ensures)

pub overflow_add-p : goal.overflow_add-p
overflow_add-p c = omega (arith, open_end _ _ _ _ c.in_ok-p.ensures.0)

pub overflow_cast-p-2 : goal.overflow_cast-p-2
overflow_cast-p-2 c = omega (arith, open_end _ _ _ _ c.in_ok-p.ensures.0)

pub returns : goal.returns
returns c =
    names_ok _ _ _ _ _ c.in_ok-p.ensures.0 _ c.in_ok-at.ensures (omega arith) c.in_ok-p.ensures.1 (omega arith) (omega (arith, open_end _ _ _ _ c.in_ok-p.ensures.0)) _ c.put3.ensures
