use Rattle.std.proofs.Common.{◌∙◌}
use Rattle.shaping.specs.Verified.{verify_short, verify_refused, verify_accepts, verify_rejects}
use Rattle.verifier.proofs.verify.verify.Goals as goal

pub returns-then-t-lt262144 : goal.returns-then-t-lt262144
returns-then-t-lt262144 c = rw c.number.ensures (verify_short c.args.s.now c.args.t.now c.if-t-lt262144.true)

pub returns-in-Err : goal.returns-in-Err
returns-in-Err c = verify_refused c.args.s.now c.args.t.now c.read_shaped.new.t _ c.if-t-lt262144.false c.in-Err.answer c.in-Err.ensures c.read_shaped.auto.t c.clear.ensures

pub type_all-typed-requires : goal.type_all-typed-requires
type_all-typed-requires c = (c.in-Ok.ensures.ready, c.in-Ok.ensures.passes)

pub returns-in-Ok-typed : goal.returns-in-Ok-typed
returns-in-Ok-typed c = verify_accepts c.args.s.now c.args.t.now c.read_shaped.new.t _ c.if-t-lt262144.false c.in-Ok.n c.in-Ok.ensures c.type_all-typed.new.t (rw c.in-Ok-typed.is at c.type_all-typed.ensures) (c.type_all-typed.auto.t ∙ c.read_shaped.auto.t) c.clear-2.ensures

pub returns-in-Err-typed : goal.returns-in-Err-typed
returns-in-Err-typed c = verify_rejects c.args.s.now c.args.t.now c.read_shaped.new.t _ c.if-t-lt262144.false c.in-Ok.n c.in-Ok.ensures c.type_all-typed.new.t c.in-Err-typed.e (rw c.in-Err-typed.is at c.type_all-typed.ensures) (c.type_all-typed.auto.t ∙ c.read_shaped.auto.t) c.clear-2.ensures _ c.from.ensures.0 c.from.ensures.1
