use Rattle.verifier.specs.FrameTableLaws.{frames_placeable}
use Rattle.verifier.specs.MethodTyping.{frames-asked, frames_wrong, method-typed}
use Rattle.verifier.proofs.typing.type_method.Goals as goal

pub frames-requires : goal.frames-requires
frames-requires c = frames-asked c.args.s.now c.args.n c.args.c c.args.m _ c.args.t.now _ c.requires.0 c.requires.1 c.requires.2 c.typable-x.ensures

pub returns-in_err-f : goal.returns-in_err-f
returns-in_err-f c = frames_wrong c.args.s.now c.args.n c.args.c c.args.m _ c.args.t.now _ _ c.requires.0 c.requires.1 c.requires.2 c.typable-x.ensures _ c.in_err-f.ensures _ c.from_residual.ensures.1

pub walk_method-requires : goal.walk_method-requires
walk_method-requires c = frames_placeable _ _ _ _ _ c.in_ok-f.ensures

pub returns : goal.returns
returns c = method-typed c.args.s.now c.args.n c.args.c c.args.m _ c.args.t.now _ _ c.requires.0 c.requires.1 c.requires.2 c.typable-x.ensures _ c.in_ok-f.ensures _ _ c.walk_method.ensures
