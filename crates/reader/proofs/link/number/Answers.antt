use Rattle.std.proofs.Common.{arith}
use Rattle.reader.specs.Numbers.{built_in_name, bundle-name}
use Rattle.reader.proofs.link.number.Goals as goal

pub returns-then-k-lt11 : goal.returns-then-k-lt11
returns-then-k-lt11 c = (built_in_name _ _ _ c.built_in-k.ensures c.if-k-lt11.true, omega arith)

pub returns : goal.returns
returns c = (bundle-name _ _ _ c.built_in-k.ensures _ c.find.ensures.0 c.if-k-lt11.false, omega (arith, c.find.ensures.1))
