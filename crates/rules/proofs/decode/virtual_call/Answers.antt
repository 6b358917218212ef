use Rattle.rules.specs.Resolve.{is_virtual_call}
use Rattle.rules.specs.Instruction.{invokevirtual}
use Rattle.std.proofs.Common.{refl, ap}
use Rattle.rules.specs.DecodeLaws.{call_none, virtual_init, virtual_static, virtual_yes}
use Rattle.rules.proofs.decode.virtual_call.Goals as goal

pub returns-then-w-ne4 : goal.returns-then-w-ne4
returns-then-w-ne4 c = call_none _ _ (λ P m. is_virtual_call P m) (λ m. invokevirtual m) c.if-w-ne4.true refl

pub returns-then-w-eq1 : goal.returns-then-w-eq1
returns-then-w-eq1 c = virtual_init _ _ c.if-w-ne4.false c.if-w-eq1.true refl

pub returns-then-w-eq1-2 : goal.returns-then-w-eq1-2
returns-then-w-eq1-2 c = virtual_static _ _ c.if-w-ne4.false c.if-w-eq1.false c.if-w-eq1-2.true refl

pub returns : goal.returns
returns c = virtual_yes _ _ c.if-w-ne4.false c.if-w-eq1.false c.if-w-eq1-2.false (ap invokevirtual c.callee.ensures)
