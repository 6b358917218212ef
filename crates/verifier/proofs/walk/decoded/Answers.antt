use Rattle.std.proofs.Common.{ap, length, arith}
use Rattle.std.specs.Prelude.{true}
use Rattle.texts.specs.Reading.{part}
use Rattle.verifier.specs.Lineup.{code_short}
use Rattle.verifier.specs.Legs.{leg_refused, leg_line}
use Rattle.verifier.proofs.walk.decoded.Goals as goal

pub overflow_cast-o : goal.overflow_cast-o
unfolding part
overflow_cast-o c = omega (arith, code_short c.args.s.now c.args.x c.requires.0.bounded, ap length c.requires.3, c.requires.4)

pub one_line-requires : goal.one_line-requires
one_line-requires c = (c.requires.0, c.requires.1, c.requires.2)

pub next-requires : goal.next-requires
next-requires c = c.requires.4

pub returns-in-Ok : goal.returns-in-Ok
returns-in-Ok c = leg_line c.args.s.now c.args.t.now c.one_line.new.t c.args.x c.args.kin c.args.f true c.args.h c.args.o c.requires.0 _ c.requires.3 c.requires.4 c.in-Ok.turn c.in-Ok.ensures _ c.next.ensures

pub returns-in-Err : goal.returns-in-Err
returns-in-Err c = leg_refused c.args.s.now c.args.t.now c.one_line.new.t c.args.x c.args.kin c.args.f true c.args.h c.args.o c.requires.0 _ c.requires.3 c.requires.4 c.in-Err.refusal c.in-Err.ensures
