use Rattle.std.proofs.Common.{arith}
use Rattle.machine.specs.Filling.{packed_none, packed_some}
use Rattle.machine.proofs.dispatch.packed.Goals as goal

pub returns-in_default : goal.returns-in_default
returns-in_default c = (rw c.in_default.is packed_none, omega arith)

pub overflow_mul-result : goal.overflow_mul-result
overflow_mul-result c =
    let x = rw c.in-Some.is at c.requires in
    omega (arith, x.class)

pub overflow_add-result : goal.overflow_add-result
overflow_add-result c =
    let x = rw c.in-Some.is at c.requires in
    omega (arith, x.class)

pub overflow_add-result-2 : goal.overflow_add-result-2
overflow_add-result-2 c =
    let x = rw c.in-Some.is at c.requires in
    omega (arith, x.class, x.index)

pub overflow_cast-result : goal.overflow_cast-result
overflow_cast-result c =
    let x = rw c.in-Some.is at c.requires in
    omega (arith, x.class, x.index)

pub returns : goal.returns
returns c =
    let x = rw c.in-Some.is at c.requires in
    (rw c.in-Some.is (packed_some c.in-Some.h x), omega (arith, x.class, x.index))
