use Rattle.verifier.specs.Callees.{entry_built_in, entry_past, entry_far, entry_none, entry_is}
use Rattle.std.proofs.Common.{arith}
use Rattle.verifier.proofs.callees.entry_of.Goals as goal

pub returns-then-c-lt11 : goal.returns-then-c-lt11
returns-then-c-lt11 c = (entry_built_in _ _ _ _ c.if-c-lt11.true, omega arith)

pub returns-then-n-c : goal.returns-then-n-c
returns-then-n-c c = (entry_past _ _ _ _ c.if-c-lt11.false c.if-n-c.true, omega arith)

pub returns-then-j-ge64 : goal.returns-then-j-ge64
returns-then-j-ge64 c = (entry_far _ _ _ _ c.if-c-lt11.false c.if-n-c.false c.if-j-ge64.true, omega arith)

pub returns-then-word-j : goal.returns-then-word-j
returns-then-word-j c = (entry_none _ _ _ _ c.if-c-lt11.false c.if-n-c.false c.if-j-ge64.false _ c.word.ensures c.if-word-j.true, omega arith)

pub returns : goal.returns
returns c = (entry_is _ _ _ _ c.if-c-lt11.false c.if-n-c.false c.if-j-ge64.false _ c.word.ensures c.if-word-j.false, omega arith)
