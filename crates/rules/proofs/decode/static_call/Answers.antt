use Rattle.rules.specs.Resolve.{is_static_call}
use Rattle.rules.specs.Instruction.{invokestatic}
use Rattle.std.proofs.Common.{refl, ap}
use Rattle.rules.specs.DecodeLaws.{call_none, static-init, static_yes, static_no}
use Rattle.rules.proofs.decode.static_call.Goals as goal

pub returns-then-w-ne4 : goal.returns-then-w-ne4
returns-then-w-ne4 c = call_none _ _ (λ P m. is_static_call P m) (λ m. invokestatic m) c.if-w-ne4.true refl

pub returns-then-w-eq1 : goal.returns-then-w-eq1
returns-then-w-eq1 c = static-init _ _ c.if-w-ne4.false c.if-w-eq1.true refl

pub returns-then-w-eq1-2 : goal.returns-then-w-eq1-2
returns-then-w-eq1-2 c = static_yes _ _ c.if-w-ne4.false c.if-w-eq1.false c.if-w-eq1-2.true (ap invokestatic c.callee.ensures)

pub returns : goal.returns
returns c = static_no _ _ c.if-w-ne4.false c.if-w-eq1.false c.if-w-eq1-2.false refl
