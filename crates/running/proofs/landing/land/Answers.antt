use Rattle.std.proofs.Common.{arith}
use Rattle.running.specs.Throws.{caught_low, lands_here, sinks_here, sinks_end, waiter, sinks_more, sinks_next, lands_there}
use Rattle.running.proofs.landing.land.Goals as goal

pub caught_in-requires : goal.caught_in-requires
caught_in-requires c = (c.requires.0, c.requires.1)

pub returns-in-Some : goal.returns-in-Some
returns-in-Some c = lands_here _ _ _ _ _ _ _ c.in-Some.ensures (caught_low _ _ _ c.requires.0 _ c.requires.1 _ _ c.in-Some.ensures) c.at_handler.ensures

pub loop-i-init : goal.loop-i-init
loop-i-init c = sinks_here _ _ _ _ _ c.in_default.ensures

pub saved-f-requires : goal.saved-f-requires
saved-f-requires c = (omega (arith, c.requires.2), omega (arith, c.requires.2, c.requires.0.readied.long))

pub caught_in-requires-in-loop-i : goal.caught_in-requires-in-loop-i
caught_in-requires-in-loop-i c = (c.requires.0, (waiter _ _ _ _ _ _ c.loop-i.invariant (omega arith) _ c.saved-f.ensures _ c.requires.3))

pub returns-in-Some-caught_in : goal.returns-in-Some-caught_in
returns-in-Some-caught_in c = lands_there _ _ _ _ _ _ c.loop-i.invariant (omega arith) _ c.saved-f.ensures _ _ c.in-Some-caught_in.ensures (caught_low _ _ _ c.requires.0 _ (waiter _ _ _ _ _ _ c.loop-i.invariant (omega arith) _ c.saved-f.ensures _ c.requires.3) _ _ c.in-Some-caught_in.ensures) c.at_handler-in-Some-caught_in.ensures

pub loop-i-preserved : goal.loop-i-preserved
loop-i-preserved c = sinks_next _ _ _ _ _ _ (sinks_more _ _ _ _ _ _ c.loop-i.invariant (omega arith) _ c.saved-f.ensures c.in_default-caught_in.ensures)

pub returns : goal.returns
returns c = sinks_end _ _ _ _ _ _ c.loop-i.invariant (omega arith)
