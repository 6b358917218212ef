use Rattle.std.proofs.Common.{arith}
use Rattle.shaping.specs.Asks.{packs, packed_at, packed_past}
use Rattle.shaping.proofs.asks.packed.Goals as goal

pub returns-in-0 : goal.returns-in-0
unfolding packed_at packs
returns-in-0 c = rw c.in-0.is

pub returns-in-1 : goal.returns-in-1
unfolding packed_at packs
returns-in-1 c = rw c.in-1.is

pub returns-in-2 : goal.returns-in-2
unfolding packed_at packs
returns-in-2 c = rw c.in-2.is

pub returns-in-3 : goal.returns-in-3
unfolding packed_at packs
returns-in-3 c = rw c.in-3.is

pub returns-in-4 : goal.returns-in-4
unfolding packed_at packs
returns-in-4 c = rw c.in-4.is

pub returns-in-5 : goal.returns-in-5
unfolding packed_at packs
returns-in-5 c = rw c.in-5.is

pub returns-in-6 : goal.returns-in-6
unfolding packed_at packs
returns-in-6 c = rw c.in-6.is

pub returns-in-7 : goal.returns-in-7
unfolding packed_at packs
returns-in-7 c = rw c.in-7.is

pub returns-in-8 : goal.returns-in-8
unfolding packed_at packs
returns-in-8 c = rw c.in-8.is

pub returns-in-9 : goal.returns-in-9
unfolding packed_at packs
returns-in-9 c = rw c.in-9.is

pub returns-in-10 : goal.returns-in-10
unfolding packed_at packs
returns-in-10 c = rw c.in-10.is

pub returns-in-11 : goal.returns-in-11
unfolding packed_at packs
returns-in-11 c = rw c.in-11.is

pub returns-in-12 : goal.returns-in-12
unfolding packed_at packs
returns-in-12 c = rw c.in-12.is

pub returns-in-13 : goal.returns-in-13
unfolding packed_at packs
returns-in-13 c = rw c.in-13.is

pub returns-in-14 : goal.returns-in-14
unfolding packed_at packs
returns-in-14 c = rw c.in-14.is

pub returns-in-15 : goal.returns-in-15
unfolding packed_at packs
returns-in-15 c = rw c.in-15.is

pub returns-in_default : goal.returns-in_default
returns-in_default c = packed_past c.args.k (omega arith)
