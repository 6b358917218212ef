use Rattle.std.proofs.Common.{ap, not, arith}
use Rattle.running.specs.Entry.{entry_past, entry_none, entry-object, entry_ints}
use Rattle.running.proofs.entry.is_entry.Goals as goal

pub returns-then-n-i : goal.returns-then-n-i
returns-then-n-i c = entry_past _ _ _ c.requires.0 c.args.i c.args.j c.if-n-i.true

pub member_count-requires : goal.member_count-requires
member_count-requires c = (omega (arith, c.if-n-i.false, c.requires.0.most), c.requires.1)

pub returns-then-member_count-j : goal.returns-then-member_count-j
returns-then-member_count-j c = entry_none _ _ _ c.requires.0 c.args.i c.args.j c.if-n-i.false _ c.member_count.ensures.0 c.if-member_count-j.true

pub is_static-requires : goal.is_static-requires
is_static-requires c = (c.requires.0.most, c.requires.1)

pub returns-then-not-is_static : goal.returns-then-not-is_static
returns-then-not-is_static c = entry-object _ _ _ c.requires.0 c.args.i c.args.j c.if-n-i.false _ c.member_count.ensures.0 c.if-member_count-j.false _ c.is_static.ensures (ap not c.if-not-is_static.true)

pub returns : goal.returns
returns c = entry_ints _ _ _ c.requires.0 c.args.i c.args.j c.if-n-i.false _ c.member_count.ensures.0 c.if-member_count-j.false _ c.is_static.ensures (ap not c.if-not-is_static.false) _ c.all_ints.ensures
