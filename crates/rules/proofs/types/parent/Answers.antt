use Rattle.rules.specs.Ancestry.{parent_in, parent_out, parent_past}
use Rattle.std.proofs.Common.{arith, ◌∙◌, rules}
use Rattle.rules.proofs.types.parent.Goals as goal

pub returns-then-kin-i : goal.returns-then-kin-i
returns-then-kin-i c = parent_out _ _ _ _ (search rules)

pub returns-then-t-kin : goal.returns-then-t-kin
returns-then-t-kin c = parent_past _ _ _ _ (search rules) (omega arith)

pub returns : goal.returns
returns c = c.word.ensures ∙ parent_in _ _ _ _ (omega arith)
