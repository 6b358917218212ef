use Rattle.std.proofs.Common.{sym, subst, arith, rules}
use Rattle.verifier.specs.Ahead.{Handled, handled_asked}
use Rattle.verifier.specs.Quick.{calm_ready}
use Rattle.verifier.proofs.walk.calm.Goals as goal

pub returns-then-o-quiet : goal.returns-then-o-quiet
returns-then-o-quiet c = λ e. c.requires.1.asks _ _ _ _ _ _ (omega arith) c.if-o-quiet.true

pub anew-requires : goal.anew-requires
anew-requires c = search (rules, arith)

pub all_handlers-requires : goal.all_handlers-requires
all_handlers-requires c = rw c.anew.ensures (calm_ready _ _ _ _ _ _ c.requires.0)

pub returns : goal.returns
returns c = subst (Handled c.args.s.now c.args.t.now c.args.x c.args.kin c.args.f c.args.h c.args.o) (sym c.is_ok.ensures.value) (handled_asked _ _ c.args.x c.anew.result c.args.kin c.args.f c.args.h _ _ _ c.anew.ensures c.all_handlers.ensures)
