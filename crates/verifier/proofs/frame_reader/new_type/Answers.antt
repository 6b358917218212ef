use Rattle.verifier.specs.FrameReadLaws.{made-cut, made_no, made_yes}
use Rattle.verifier.proofs.frame_reader.new_type.Goals as goal

pub returns-in_err-i : goal.returns-in_err-i
returns-in_err-i c = made-cut _ _ _ c.requires _ _ _ _ _ c.from_residual.ensures.1 c.in_err-i.ensures

pub is_new_at-requires : goal.is_new_at-requires
is_new_at-requires c = c.requires.marked

pub returns-then-is_new_at : goal.returns-then-is_new_at
returns-then-is_new_at c = made_yes _ _ _ c.requires _ _ _ _ _ c.in_ok-i.ensures _ c.is_new_at.ensures _ c.if-is_new_at.true c.uninit.ensures

pub returns : goal.returns
returns c = made_no _ _ _ c.requires _ _ _ _ _ c.in_ok-i.ensures _ c.is_new_at.ensures c.if-is_new_at.false
