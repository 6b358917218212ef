use Rattle.reader.specs.MemberPass.{class-ready, class_stop, class-both}
use Rattle.reader.proofs.linking.class_members.Goals as goal

pub returns-in_err-section : goal.returns-in_err-section
returns-in_err-section c = class_stop c.args.s.now c.args.n c.args.c c.args.t.now c.section.new.t c.requires.0 c.requires.1 _ c.in_err-section.ensures _ c.from_residual.ensures.1

pub section-requires-2 : goal.section-requires-2
section-requires-2 c = (class-ready c.args.s.now c.args.n c.args.c c.args.t.now c.section.new.t c.requires.0 c.requires.1 _ c.in_ok-section.ensures, c.requires.1)

pub returns : goal.returns
returns c = class-both c.args.s.now c.args.n c.args.c c.args.t.now c.section.new.t c.requires.0 c.requires.1 _ c.in_ok-section.ensures c.section-2.new.t c.section-2.result c.section-2.ensures
