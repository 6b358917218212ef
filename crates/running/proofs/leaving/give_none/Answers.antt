use Rattle.std.proofs.Common.{not, arith, ap, refl, []}
use Rattle.running.specs.Leaving.{given-stuck, given_last, given_back, back-asked}
use Rattle.running.proofs.leaving.give_none.Goals as goal

pub returns-then-not-is_self_ready : goal.returns-then-not-is_self_ready
returns-then-not-is_self_ready c = given-stuck c.args.b.now c.args.x.classes c.args.t.now c.args.s.now c.args.g.now c.args.cells.now c.args.d c.args.k c.requires [] _ c.is_self_ready.ensures (ap not c.if-not-is_self_ready.true)

pub returns-then-d-eq0 : goal.returns-then-d-eq0
returns-then-d-eq0 c = given_last c.args.b.now c.args.x.classes c.args.t.now c.args.s.now c.args.g.now c.args.cells.now c.args.d c.args.k c.requires [] _ c.is_self_ready.ensures _ (ap not c.if-not-is_self_ready.false) c.if-d-eq0.true refl

pub back-requires : goal.back-requires
back-requires c = back-asked c.args.b.now c.args.x.classes c.args.t.now c.args.s.now c.args.g.now c.args.d c.args.k c.requires c.if-d-eq0.false

pub returns : goal.returns
returns c = given_back c.args.b.now c.args.x.classes c.args.t.now c.args.s.now c.args.g.now c.args.cells.now c.args.d c.args.k c.requires [] _ c.is_self_ready.ensures _ _ _ (ap not c.if-not-is_self_ready.false) c.if-d-eq0.false (omega arith) c.back.ensures
