use Rattle.classfiles.specs.Pool.{constant_at}
use Rattle.kit.specs.Pick.{picks}
use Rattle.classfiles.proofs.pool.decode.Goals as goal

pub returns-then-kind-eq1 : goal.returns-then-kind-eq1
unfolding constant_at
returns-then-kind-eq1 c = rw (c.cut.ensures, ← c.byte-kind.ensures.0, ← c.u2_at-a.ensures.0) (search picks depth 8)

pub returns-then-kind-eq3 : goal.returns-then-kind-eq3
unfolding constant_at
returns-then-kind-eq3 c = rw (← c.byte-kind.ensures.0, ← c.u4_at.ensures.0) (search picks depth 8)

pub returns-then-kind-eq7 : goal.returns-then-kind-eq7
unfolding constant_at
returns-then-kind-eq7 c = rw (← c.byte-kind.ensures.0, ← c.u2_at-a.ensures.0) (search picks depth 8)

pub returns-then-kind-eq9 : goal.returns-then-kind-eq9
unfolding constant_at
returns-then-kind-eq9 c = rw (← c.byte-kind.ensures.0, ← c.u2_at-a.ensures.0, ← c.u2_at-b.ensures.0) (search picks depth 10)

pub returns-then-kind-eq10 : goal.returns-then-kind-eq10
unfolding constant_at
returns-then-kind-eq10 c =
    rw (← c.byte-kind.ensures.0, ← c.u2_at-a.ensures.0, ← c.u2_at-b.ensures.0) (search picks depth 10)

pub returns-then-kind-eq12 : goal.returns-then-kind-eq12
unfolding constant_at
returns-then-kind-eq12 c =
    rw (← c.byte-kind.ensures.0, ← c.u2_at-a.ensures.0, ← c.u2_at-b.ensures.0) (search picks depth 10)

pub returns : goal.returns
unfolding constant_at
returns c =
    rw (← c.byte-kind.ensures.0, ← c.u2_at-a.ensures.0, ← c.u2_at-b.ensures.0) (search picks depth 10)
