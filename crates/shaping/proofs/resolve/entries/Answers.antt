use Rattle.shaping.specs.Resolving.{Filled, around_same, around_both, tables_same}
use Rattle.std.proofs.Common.{◌≡◌, subst, arith, ℕ, ◌*◌}
use Rattle.shaping.proofs.resolve.entries.Goals as goal

pub loop-c-init : goal.loop-c-init
loop-c-init c = (around_same _, c.requires.6, omega arith)

pub class_entries-requires : goal.class_entries-requires
class_entries-requires c = let x = tables_same c.args.s.now c.args.n c.args.t.now c.loop-c.t c.requires.1 c.loop-c.invariant.0 c.requires.3 c.requires.4 c.requires.5 in (c.requires.0, c.requires.1, c.loop-c-test.true, omega (arith, c.loop-c.invariant.0.long, c.requires.2), x.0, x.1, x.2, c.loop-c.invariant.1)

pub loop-c-preserved : goal.loop-c-preserved
loop-c-preserved c = (around_both _ _ _ c.loop-c.invariant.0 c.class_entries.ensures.0, c.class_entries.ensures.1, omega (arith, c.loop-c-test.true))

pub returns : goal.returns
returns c = let z : c.loop-c.c ≡ c.args.n = omega (arith, c.loop-c-test.false, c.loop-c.invariant.2) in (c.loop-c.invariant.0, subst (λ (k : ℕ). Filled c.args.s.now c.args.n c.args.members (1024 * k) c.loop-c.t) z c.loop-c.invariant.1)
