use Rattle.std.proofs.Common.{ap, not}
use Rattle.reader.specs.MemberPass.{ready_first, ruled_double, ruled_method, ruled_field}
use Rattle.reader.proofs.linking.member.Goals as goal

pub is_first-requires : goal.is_first-requires
is_first-requires c = ready_first c.args.s.now c.args.n c.args.t.now c.requires.0 c.args.c c.requires.1 c.args.method c.args.j c.requires.2

pub returns-then-not-is_first : goal.returns-then-not-is_first
returns-then-not-is_first c = ruled_double c.args.s.now c.args.n c.args.t.now c.requires.0 c.args.c c.requires.1 c.args.method c.args.j c.requires.2 c.is_first.result c.is_first.ensures (ap not c.if-not-is_first.true)

pub returns-then-method_known : goal.returns-then-method_known
returns-then-method_known c = (ruled_method c.args.s.now c.args.n c.args.t.now c.requires.0 c.args.c c.requires.1 c.args.method c.args.j c.requires.2 c.is_first.result c.is_first.ensures (ap not c.if-not-is_first.false) _ c.if-method.true c.method_known.new.t c.method_known.ensures).0 c.if-method_known.true _

pub returns-then-method : goal.returns-then-method
returns-then-method c = (ruled_method c.args.s.now c.args.n c.args.t.now c.requires.0 c.args.c c.requires.1 c.args.method c.args.j c.requires.2 c.is_first.result c.is_first.ensures (ap not c.if-not-is_first.false) _ c.if-method.true c.method_known.new.t c.method_known.ensures).1 c.if-method_known.false

pub returns-then-field_known : goal.returns-then-field_known
returns-then-field_known c = (ruled_field c.args.s.now c.args.n c.args.t.now c.requires.0 c.args.c c.requires.1 c.args.method c.args.j c.requires.2 c.is_first.result c.is_first.ensures (ap not c.if-not-is_first.false) _ c.if-method.false c.field_known.ensures).0 c.if-field_known.true _

pub returns : goal.returns
returns c = (ruled_field c.args.s.now c.args.n c.args.t.now c.requires.0 c.args.c c.requires.1 c.args.method c.args.j c.requires.2 c.is_first.result c.is_first.ensures (ap not c.if-not-is_first.false) _ c.if-method.false c.field_known.ensures).1 c.if-field_known.false
