use Rattle.std.specs.Prelude.{ℕ}
use Rattle.std.proofs.Common.{arith}
use Rattle.kit.specs.Strides.{stride_first, stride_next}
use Rattle.verifier.specs.Ahead.{Hushing, hushing_start, hushing_next, hushing_end}
use Rattle.verifier.proofs.ahead.quiet_from.Goals as goal

pub loop-k-init : goal.loop-k-init
loop-k-init c = stride_first (λ (q n : ℕ). Hushing c.args.s.now c.args.x.table c.args.x.entries c.args.o q n c.args.end) 8 _ _ (hushing_start _ _ _ _ _)

pub loop-k-preserved : goal.loop-k-preserved
loop-k-preserved c = stride_next (λ (q n : ℕ). Hushing c.args.s.now c.args.x.table c.args.x.entries c.args.o q n c.nearer-r.result) 8 _ _ c.loop-k.k (hushing_next _ _ _ _ _ _ _ c.loop-k.invariant (omega arith) _ c.nearer-r.ensures)

pub returns : goal.returns
returns c = hushing_end _ _ _ _ _ _ c.loop-k.invariant (omega arith)
