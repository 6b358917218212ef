use Rattle.verifier.specs.Starts.{receiver-init, receiver_own}
use Rattle.verifier.proofs.start.receiver.Goals as goal

pub returns-then-x : goal.returns-then-x
returns-then-x c = receiver-init c.args.x _ c.if-x.true c.uninit_this.ensures

pub returns : goal.returns
returns c = receiver_own c.args.x _ c.if-x.false c.class.ensures
