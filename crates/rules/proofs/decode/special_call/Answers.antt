use Rattle.rules.specs.Resolve.{is_init_call}
use Rattle.rules.specs.Instruction.{invokespecial}
use Rattle.std.proofs.Common.{refl, ap}
use Rattle.rules.specs.DecodeLaws.{call_none, special_yes, special_no}
use Rattle.rules.proofs.decode.special_call.Goals as goal

pub returns-then-w-ne4 : goal.returns-then-w-ne4
returns-then-w-ne4 c = call_none _ _ (λ P m. is_init_call P m) (λ m. invokespecial m) c.if-w-ne4.true refl

pub returns-then-w-eq1 : goal.returns-then-w-eq1
returns-then-w-eq1 c = special_yes _ _ c.if-w-ne4.false c.if-w-eq1.true (ap invokespecial c.callee.ensures)

pub returns : goal.returns
returns c = special_no _ _ c.if-w-ne4.false c.if-w-eq1.false refl
