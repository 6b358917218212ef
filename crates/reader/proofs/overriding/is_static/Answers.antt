use Rattle.reader.specs.MemberAt.{static_low, static_none, static_is, static_past}
use Rattle.reader.proofs.overriding.is_static.Goals as goal

pub returns-then-c-lt11 : goal.returns-then-c-lt11
returns-then-c-lt11 c = static_low c.args.s.now c.args.n c.args.t.now c.args.c c.args.m c.if-c-lt11.true

pub returns-then-n-c : goal.returns-then-n-c
returns-then-n-c c = static_none c.args.s.now c.args.n c.args.t.now c.args.c c.args.m c.requires.0 c.if-n-c.true

pub returns-then-m-member_count : goal.returns-then-m-member_count
returns-then-m-member_count c = static_is c.args.s.now c.args.n c.args.t.now c.args.c c.args.m c.requires.0 c.if-c-lt11.false c.if-n-c.false _ c.member_count.ensures.0 _ _ c.if-m-member_count.true c.member_start-q.ensures.0 c.u2_at.ensures.0

pub returns : goal.returns
returns c = static_past c.args.s.now c.args.n c.args.t.now c.args.c c.args.m c.requires.0 c.if-c-lt11.false c.if-n-c.false _ c.member_count.ensures.0 c.if-m-member_count.false
