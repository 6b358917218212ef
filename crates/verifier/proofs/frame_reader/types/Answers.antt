use Rattle.std.proofs.Common.{arith}
use Rattle.verifier.specs.FrameTypes.{types_start, types_ready, types-end, types_stop, types_next}
use Rattle.verifier.proofs.frame_reader.types.Goals as goal

pub loop-i-init : goal.loop-i-init
loop-i-init c = types_start _ _ _ _ _ _ _ _

pub type_at-requires : goal.type_at-requires
type_at-requires c = types_ready _ _ _ _ _ _ _ _ _ _ _ c.loop-i.invariant c.requires.0 c.requires.1

pub shape_of-t-in_err-v : goal.shape_of-t-in_err-v
shape_of-t-in_err-v c = c.loop-i.invariant.besides.long

pub returns-in_err-v : goal.returns-in_err-v
returns-in_err-v c = types_stop _ _ _ _ _ _ _ _ _ _ _ c.loop-i.invariant c.requires.1 c.loop-i-test.true _ _ c.from_residual.ensures.1 c.in_err-v.ensures

pub loop-i-preserved : goal.loop-i-preserved
loop-i-preserved c = types_next _ _ _ _ _ _ _ _ _ _ _ c.loop-i.invariant c.requires.1 c.loop-i-test.true _ _ c.in_ok-v.ensures _ c.put_word.ensures (omega arith) c.requires.2 c.requires.0.marked.long

pub shape_of-t : goal.shape_of-t
shape_of-t c = c.loop-i.invariant.besides.long

pub returns : goal.returns
returns c = types-end _ _ _ _ _ _ _ _ _ _ _ c.loop-i.invariant c.loop-i-test.false
