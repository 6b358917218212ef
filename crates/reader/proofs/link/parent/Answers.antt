use Rattle.std.proofs.Common.{◌∙◌, arith}
use Rattle.reader.specs.Chains.{parent_low, parent_high, or_object}
use Rattle.reader.proofs.link.parent.Goals as goal

pub returns-then-c-lt11 : goal.returns-then-c-lt11
returns-then-c-lt11 c = (parent_low _ _ _ c.built_in_parent.ensures.0 c.if-c-lt11.true, omega (arith, c.built_in_parent.ensures.1))

pub returns : goal.returns
returns c = (parent_high _ _ _ _ _ (c.unwrap_or.ensures ∙ c.super_number.ensures.0 0) c.if-c-lt11.false c.requires.1, rw c.unwrap_or.ensures (or_object _ c.super_number.ensures.1))
