use Rattle.std.proofs.Common.{arith}
use Rattle.reader.specs.MemberPass.{ready-class, section_start, section_ready, section_row, section_asked, section_fault, section_next, section_done}
use Rattle.reader.proofs.linking.section.Goals as goal

pub member_count-k-requires : goal.member_count-k-requires
member_count-k-requires c = ready-class c.args.s.now c.args.n c.args.t.now c.requires.0 c.args.c c.requires.1

pub loop-j-init : goal.loop-j-init
loop-j-init c = (omega arith, section_start _ _ _ _ _)

pub member-requires : goal.member-requires
member-requires c = (section_ready c.args.s.now c.args.n c.args.c c.args.method c.loop-j.j c.args.t.now c.loop-j.t c.requires.0 c.requires.1 c.loop-j.invariant.1, c.requires.1, section_row c.args.s.now c.args.n c.args.c c.args.method c.loop-j.j c.args.t.now c.loop-j.t c.requires.0 c.requires.1 c.loop-j.invariant.1 _ c.member_count-k.ensures.0 c.loop-j-test.true)

pub member_start-requires : goal.member_start-requires
member_start-requires c = section_asked c.args.s.now c.args.n c.args.c c.args.method c.loop-j.j c.args.t.now c.loop-j.t c.requires.0 c.requires.1 c.loop-j.invariant.1 _ c.member_count-k.ensures.0 c.loop-j-test.true c.member.new.t _ c.in-Err.ensures

pub returns-in-Err : goal.returns-in-Err
returns-in-Err c = section_fault c.args.s.now c.args.n c.args.c c.args.method c.loop-j.j c.args.t.now c.loop-j.t c.requires.0 c.requires.1 c.loop-j.invariant.1 _ c.member_count-k.ensures.0 c.loop-j-test.true c.member.new.t _ c.in-Err.ensures _ c.member_start.ensures.0

pub loop-j-preserved : goal.loop-j-preserved
loop-j-preserved c = (omega arith, section_next c.args.s.now c.args.n c.args.c c.args.method c.loop-j.j c.args.t.now c.loop-j.t c.requires.0 c.requires.1 c.loop-j.invariant.1 _ c.member_count-k.ensures.0 c.loop-j-test.true c.member.new.t _ c.in_default.ensures)

pub returns : goal.returns
returns c = section_done c.args.s.now c.args.n c.args.c c.args.method c.loop-j.j c.args.t.now c.loop-j.t c.requires.0 c.requires.1 c.loop-j.invariant.1 _ c.member_count-k.ensures.0 c.loop-j-test.false c.loop-j.invariant.0 _
