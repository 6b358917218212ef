use Rattle.std.proofs.Common.{◌-◌, arith}
use Rattle.reader.specs.Lookup.{own_low, own_here, own_not, own_past}
use Rattle.reader.proofs.lookup.own_by.Goals as goal

pub returns-then-c-lt11 : goal.returns-then-c-lt11
returns-then-c-lt11 c = own_low _ _ c.if-c-lt11.true _ _ _ c.built_in_own.ensures

pub first_same-i-requires : goal.first_same-i-requires
first_same-i-requires c = (omega (arith, c.requires.0, c.if-c-n.true), c.requires.2.at (c.args.c - 11) (omega (arith, c.if-c-lt11.false, c.if-c-n.true)) _, c.requires.3)

pub returns-then-i-member_count : goal.returns-then-i-member_count
returns-then-i-member_count c = own_here c.args.s.now c.args.n c.args.t.now c.requires.0 c.args.method _ c.args.c _ _ c.if-c-lt11.false c.if-c-n.true c.first_same-i.ensures c.member_count.ensures.0 c.if-i-member_count.true

pub returns-else-i-member_count : goal.returns-else-i-member_count
returns-else-i-member_count c = own_not c.args.s.now c.args.n c.args.t.now c.requires.0 c.args.method _ c.args.c _ _ c.if-c-lt11.false c.if-c-n.true c.first_same-i.ensures c.member_count.ensures.0 c.if-i-member_count.false

pub returns-else-c-n : goal.returns-else-c-n
returns-else-c-n c = own_past c.args.s.now c.args.n c.args.t.now c.requires.0 c.args.method _ c.args.c c.if-c-n.false
