use Rattle.reader.specs.Access.{fields_low, fields_high, fields_past}
use Rattle.std.proofs.Common.{◌-◌, arith}
use Rattle.reader.proofs.access.own_fields.Goals as goal

pub returns-then-c-lt11 : goal.returns-then-c-lt11
returns-then-c-lt11 c = (fields_low c.args.s.now c.args.n c.args.t.now c.requires.0 _ c.if-c-lt11.true, omega arith)

pub returns-then-c-n : goal.returns-then-c-n
returns-then-c-n c = (fields_high c.args.s.now c.args.n c.args.t.now c.requires.0 _ _ c.if-c-lt11.false c.if-c-n.true c.member_count.ensures.0, omega (arith, c.member_count.ensures.0, c.requires.2.fields (c.args.c - 11) (omega (arith, c.if-c-n.true, c.if-c-lt11.false))))

pub returns : goal.returns
returns c = (fields_past c.args.s.now c.args.n c.args.t.now c.requires.0 _ c.if-c-n.false, omega arith)
