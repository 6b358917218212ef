use Rattle.running.specs.Entry.{ints_next, ints_stop, ints_end}
use Rattle.plain.specs.Run.{all_ints}
use Rattle.reader.specs.TypeCodes.{params_in}
use Rattle.std.proofs.Common.{refl, arith}
use Rattle.running.proofs.entry.all_ints.Goals as goal

pub loop-i-init : goal.loop-i-init
loop-i-init c = refl

pub param_at-requires : goal.param_at-requires
param_at-requires c = (c.requires, omega (arith, c.loop-i-test.true, c.param_count-i-end.ensures.0))

pub returns-then-param_at-ne248 : goal.returns-then-param_at-ne248
returns-then-param_at-ne248 c = ints_stop (params_in c.args.t.now c.args.k) c.loop-i.i (all_ints (params_in c.args.t.now c.args.k)) c.loop-i.invariant (omega (arith, c.loop-i-test.true, c.param_count-i-end.ensures.0)) c.param_at.result c.param_at.ensures.0 c.param_at.ensures.1 c.if-param_at-ne248.true

pub loop-i-preserved : goal.loop-i-preserved
loop-i-preserved c = ints_next (params_in c.args.t.now c.args.k) c.loop-i.i (all_ints (params_in c.args.t.now c.args.k)) c.loop-i.invariant (omega (arith, c.loop-i-test.true, c.param_count-i-end.ensures.0)) c.param_at.result c.param_at.ensures.0 c.if-param_at-ne248.false

pub returns : goal.returns
returns c = ints_end (params_in c.args.t.now c.args.k) c.loop-i.i (all_ints (params_in c.args.t.now c.args.k)) c.loop-i.invariant (omega (arith, c.loop-i-test.false, c.param_count-i-end.ensures.0))
