use Rattle.shaping.specs.Verified.{shaped_unread, shaped_readied, shaped_passes, shaped_fails}
use Rattle.std.proofs.Common.{arith}
use Rattle.shaping.proofs.whole.read_shaped.Goals as goal

pub returns-in_err-n : goal.returns-in_err-n
returns-in_err-n c = shaped_unread _ _ _ c.in_err-n.ensures _ c.from_residual.ensures.1

pub shape_all-requires : goal.shape_all-requires
shape_all-requires c = shaped_readied _ _ _ c.in_ok-n.ensures _ c.prepare.ensures.0 c.prepare.ensures.2 (omega (arith, c.requires, c.prepare.auto.t, c.read.auto.t))

pub returns-in_err-shape_all : goal.returns-in_err-shape_all
returns-in_err-shape_all c = shaped_fails _ _ _ c.in_ok-n.ensures _ c.prepare.ensures.0 c.prepare.ensures.2 (omega (arith, c.requires, c.prepare.auto.t, c.read.auto.t)) _ _ c.in_err-shape_all.ensures _ c.from_residual-in_err-shape_all.ensures.1

pub returns : goal.returns
returns c = shaped_passes _ _ _ c.in_ok-n.ensures _ c.prepare.ensures.0 c.prepare.ensures.2 (omega (arith, c.requires, c.prepare.auto.t, c.read.auto.t)) _ c.in_ok-shape_all.ensures c.shape_all.auto.t
