use Rattle.rules.specs.Handlers.{catch-any, catch-class, catch_none}
use Rattle.std.proofs.Common.{refl}
use Rattle.rules.proofs.handlers.catch_type.Goals as goal

pub returns-then-i-eq0 : goal.returns-then-i-eq0
returns-then-i-eq0 c = catch-any _ _ _ _ _ c.class.ensures c.if-i-eq0.true

pub returns-then-w-eq2 : goal.returns-then-w-eq2
returns-then-w-eq2 c = catch-class _ _ _ _ c.if-i-eq0.false _ _ c.named_word-w.ensures c.if-w-eq2.true refl

pub returns : goal.returns
returns c = catch_none _ _ _ _ c.if-i-eq0.false _ _ c.named_word-w.ensures c.if-w-eq2.false refl
