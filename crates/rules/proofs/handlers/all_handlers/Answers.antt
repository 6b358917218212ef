use Rattle.std.proofs.Common.{◌+◌, ◌-◌, ◌*◌, arith}
use Rattle.rules.specs.Handlers.{hand_more, hand_no, hand_end}
use Rattle.rules.proofs.handlers.all_handlers.Goals as goal

pub returns-in_err-one_handler : goal.returns-in_err-one_handler
returns-in_err-one_handler c = hand_no _ _ _ _ _ _ _ (c.args.x.table + 8 * c.loop-i.i) (c.args.x.entries - c.loop-i.i) _ (c.args.x.table + 8 * (c.loop-i.i + 1)) (c.args.x.entries - (c.loop-i.i + 1)) (omega arith) (omega arith) _ _ _ c.from_residual.ensures.1 c.loop-i.invariant.1 c.in_err-one_handler.ensures

pub loop-i-preserved : goal.loop-i-preserved
loop-i-preserved c = (omega arith, hand_more _ _ _ _ _ _ _ _ _ _ _ _ (omega arith) (omega arith) c.loop-i.invariant.1 c.in_ok-one_handler.ensures)

pub returns : goal.returns
returns c = hand_end _ _ _ _ _ _ _ _ _ _ c.loop-i.invariant.1 (omega arith)
