use Rattle.std.proofs.Common.{ap, arith}
use Rattle.std.specs.Prelude.{not}
use Rattle.verifier.specs.JudgingLaws.{picked_past, picked_off, picked_top, picked_good}
use Rattle.verifier.proofs.frame_forms.picked.Goals as goal

pub returns-then-r-ge4096 : goal.returns-then-r-ge4096
returns-then-r-ge4096 c = picked_past c.args.s.now c.args.t.now c.args.x c.args.k c.args.from c.args.r c.requires.0 c.if-r-ge4096.true

pub is_start-requires : goal.is_start-requires
is_start-requires c = c.requires.0.marked

pub returns-then-not-is_start : goal.returns-then-not-is_start
returns-then-not-is_start c = picked_off c.args.s.now c.args.t.now c.args.x c.args.k c.args.from c.args.r _ c.is_start.ensures (ap not c.if-not-is_start.true)

pub no_top-requires : goal.no_top-requires
no_top-requires c = omega (arith, c.requires.2, c.requires.0.marked.here.bounded.stack)

pub returns-then-no_top : goal.returns-then-no_top
returns-then-no_top c = picked_good c.args.s.now c.args.t.now c.args.x c.args.k c.args.from c.args.r _ c.is_start.ensures (ap not c.if-not-is_start.false) _ c.no_top.ensures c.requires.0 c.if-no_top.true

pub returns : goal.returns
returns c = picked_top c.args.s.now c.args.t.now c.args.x c.args.k c.args.from c.args.r _ c.is_start.ensures (ap not c.if-not-is_start.false) _ c.no_top.ensures c.if-no_top.false
