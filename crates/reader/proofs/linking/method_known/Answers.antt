use Rattle.std.proofs.Common.{true, arith}
use Rattle.reader.specs.MemberPass.{ready-row, known_asked, known_yes, known_no}
use Rattle.reader.proofs.linking.method_known.Goals as goal

pub member_descriptor-x-requires : goal.member_descriptor-x-requires
member_descriptor-x-requires c = ready-row c.args.s.now c.args.n c.args.t.now c.requires.0 c.args.c c.requires.1 true c.args.j c.requires.2

pub overflow_add-c : goal.overflow_add-c
overflow_add-c c = omega (arith, c.requires.0.most, c.requires.1, c.requires.2, c.requires.0.few _ c.requires.1 true)

pub describe-requires : goal.describe-requires
describe-requires c = (c.requires.0.most, omega (arith, c.requires.0.most, c.requires.1, c.requires.2, c.requires.0.few _ c.requires.1 true), c.requires.0.long)

pub agrees-requires : goal.agrees-requires
agrees-requires c = known_asked c.args.s.now c.args.n c.args.t.now c.describe.new.t c.requires.0 c.args.c c.args.j c.requires.1 c.requires.2 _ c.member_descriptor-x.ensures c.describe.result c.describe.ensures

pub returns-then-describe : goal.returns-then-describe
returns-then-describe c = known_yes c.args.s.now c.args.n c.args.t.now c.describe.new.t c.requires.0 c.args.c c.args.j c.requires.1 c.requires.2 _ c.member_descriptor-x.ensures c.describe.result c.describe.ensures c.if-describe.true _ c.agrees.ensures

pub returns : goal.returns
returns c = known_no c.args.s.now c.args.n c.args.t.now c.describe.new.t c.requires.0 c.args.c c.args.j c.requires.1 c.requires.2 _ c.member_descriptor-x.ensures c.describe.result c.describe.ensures c.if-describe.false
