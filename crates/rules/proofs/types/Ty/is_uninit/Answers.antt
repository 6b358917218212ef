use Rattle.std.proofs.Common.{rules, arith}
use Rattle.rules.specs.TypeLaws.{uninit_not, uninit_same, uninit_other, uninit-this}
use Rattle.rules.proofs.types.Ty.is_uninit.Goals as goal

pub returns-then-self-lt-UNINIT : goal.returns-then-self-lt-UNINIT
returns-then-self-lt-UNINIT c = uninit_not _ _ (search rules)

pub returns-then-key-eq-UNINIT : goal.returns-then-key-eq-UNINIT
returns-then-key-eq-UNINIT c = uninit_same _ _ (search rules) (search rules)

pub returns-then-self-eq-UNINIT : goal.returns-then-self-eq-UNINIT
returns-then-self-eq-UNINIT c = uninit_other _ _ (search rules) (search rules)

pub returns : goal.returns
returns c = uninit-this _ _ (omega arith)
