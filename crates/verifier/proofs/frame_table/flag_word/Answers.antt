use Rattle.verifier.specs.RowWrites.{flag-locals, flag-stack, flag_none}
use Rattle.verifier.proofs.frame_table.flag_word.Goals as goal

pub returns-then-no_self-2 : goal.returns-then-no_self-2
returns-then-no_self-2 c = flag_none _ _ _ c.no_self.ensures c.if-no_self.true _ c.no_self-then-no_self.ensures c.if-no_self-2.true

pub returns-then-no_self : goal.returns-then-no_self
returns-then-no_self c = flag-stack _ _ _ c.no_self.ensures c.if-no_self.true _ c.no_self-then-no_self.ensures c.if-no_self-2.false

pub returns : goal.returns
returns c = flag-locals _ _ _ c.no_self.ensures c.if-no_self.false
