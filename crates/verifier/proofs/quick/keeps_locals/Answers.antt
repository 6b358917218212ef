use Rattle.verifier.specs.Quick.{steady_constant, steady-named, steady-load, steady-store, steady-rest}
use Rattle.verifier.proofs.quick.keeps_locals.Goals as goal

pub returns-then-op-lt18 : goal.returns-then-op-lt18
returns-then-op-lt18 c = steady_constant _ c.if-op-lt18.true

pub returns-then-op-lt21 : goal.returns-then-op-lt21
returns-then-op-lt21 c = steady-named _ c.if-op-lt18.false c.if-op-lt21.true

pub returns-then-op-lt54 : goal.returns-then-op-lt54
returns-then-op-lt54 c = steady-load _ c.if-op-lt18.false c.if-op-lt21.false c.if-op-lt54.true

pub returns-then-op-lt87 : goal.returns-then-op-lt87
returns-then-op-lt87 c = steady-store _ c.if-op-lt18.false c.if-op-lt21.false c.if-op-lt54.false c.if-op-lt87.true

pub returns : goal.returns
returns c = steady-rest _ c.if-op-lt18.false c.if-op-lt21.false c.if-op-lt54.false c.if-op-lt87.false
