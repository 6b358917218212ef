use Rattle.std.specs.Prelude.{not}
use Rattle.std.proofs.Common.{ap, ◌∙◌}
use Rattle.verifier.specs.Ahead.{handled_left}
use Rattle.verifier.proofs.walk.handlers_left.Goals as goal

pub returns-then-is_none : goal.returns-then-is_none
returns-then-is_none c = handled_left _ _ c.args.x _ _ c.args.h _ _ _ _ c.requires.0 c.if-asked.true (c.is_none.ensures ∙ ap not c.if-is_none.true)

pub all_handlers-requires : goal.all_handlers-requires
all_handlers-requires c = (c.requires.1, c.requires.2, c.requires.3, c.requires.4, c.requires.5)

pub returns : goal.returns
returns c = c.all_handlers.ensures
