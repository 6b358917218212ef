use Rattle.shaping.specs.Resolving.{fills_as}
use Rattle.shaping.proofs.resolve.entry_word.Goals as goal

pub returns-then-members : goal.returns-then-members
returns-then-members c = fills_as _ _ _ _ _ _ _ c.if-members.true c.referred_word.ensures

pub returns : goal.returns
returns c = fills_as _ _ _ _ _ _ _ c.if-members.false c.own_word.ensures
