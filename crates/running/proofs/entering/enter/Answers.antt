use Rattle.std.proofs.Common.{arith}
use Rattle.running.specs.Entering.{entered_full, entered_on}
use Rattle.running.proofs.entering.enter.Goals as goal

pub returns-then-d-ge63 : goal.returns-then-d-ge63
returns-then-d-ge63 c = entered_full _ _ _ _ _ _ _ c.if-d-ge63.true

pub save-requires : goal.save-requires
save-requires c = (omega arith, c.requires.0.records)

pub returns : goal.returns
returns c = entered_on _ _ _ _ _ _ _ _ _ _ (omega arith) c.requires.1 c.requires.3 c.requires.4 c.requires.5 c.save.ensures.0 c.save.ensures.1 c.next_window.ensures.0 c.next_window.ensures.1
