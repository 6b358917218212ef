use Rattle.shaping.specs.Resolving.{Filled, around_same, around_put, filled_classed, filled_same, filled_put}
use Rattle.std.proofs.Common.{arith, ◌+◌, ◌*◌, Bool, refl, subst}
use Rattle.shaping.proofs.resolve.fill.Goals as goal

pub entry_word-w-requires : goal.entry_word-w-requires
entry_word-w-requires c = (c.requires.0, c.requires.1, c.requires.2, c.requires.3, c.requires.4, c.requires.5, omega (arith, c.requires.6), c.requires.7, c.requires.8, c.requires.9, λ e. filled_classed c.args.s.now c.args.n c.args.t.now c.requires.1 c.requires.8 _ (subst (λ (b : Bool). Filled c.args.s.now c.args.n b (1024 * c.args.c + c.args.i) c.args.t.now) e c.requires.10))

pub returns-then-w-eq0 : goal.returns-then-w-eq0
returns-then-w-eq0 c = (around_same _, filled_same c.args.s.now c.args.n c.args.t.now c.requires.1 c.args.members _ c.requires.10 c.args.c c.args.i _ refl c.requires.2 c.requires.4 c.entry_word-w.ensures c.if-w-eq0.true)

pub returns : goal.returns
returns c = (around_put _ _ _ _ (omega arith) (omega (arith, c.requires.1, c.requires.2, c.requires.4)) c.put_word.ensures, filled_put c.args.s.now c.args.n c.args.t.now c.requires.1 c.args.members _ c.requires.10 c.args.c c.args.i _ refl c.requires.2 c.requires.4 c.entry_word-w.ensures _ c.if-w-eq0.false (omega arith) c.requires.6 c.put_word.ensures)
