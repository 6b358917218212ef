use Rattle.reader.specs.MemberPass.{members_start, members_ready, members_fault, members_next, members_done}
use Rattle.std.proofs.Common.{arith}
use Rattle.reader.proofs.linking.members.Goals as goal

pub loop-c-init : goal.loop-c-init
loop-c-init c = (omega arith, members_start _ _ _)

pub class_members-requires : goal.class_members-requires
class_members-requires c = (members_ready c.args.s.now c.args.n c.loop-c.c c.args.t.now c.loop-c.t c.requires c.loop-c.invariant.1, c.loop-c-test.true)

pub returns-in_err-class_members : goal.returns-in_err-class_members
returns-in_err-class_members c = members_fault c.args.s.now c.args.n c.loop-c.c c.args.t.now c.loop-c.t c.requires c.loop-c.invariant.1 c.loop-c-test.true c.class_members.new.t _ c.in_err-class_members.ensures _ c.from_residual.ensures.1

pub loop-c-preserved : goal.loop-c-preserved
loop-c-preserved c = (omega arith, members_next c.args.s.now c.args.n c.loop-c.c c.args.t.now c.loop-c.t c.requires c.loop-c.invariant.1 c.loop-c-test.true c.class_members.new.t _ c.in_ok-class_members.ensures)

pub returns : goal.returns
returns c = members_done c.args.s.now c.args.n c.loop-c.c c.args.t.now c.loop-c.t c.requires c.loop-c.invariant.1 c.loop-c-test.false c.loop-c.invariant.0 _
