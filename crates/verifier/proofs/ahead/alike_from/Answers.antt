use Rattle.std.specs.Prelude.{ℕ}
use Rattle.std.proofs.Common.{arith}
use Rattle.kit.specs.Strides.{stride_first, stride_next}
use Rattle.verifier.specs.Ahead.{Edging, edging_start, edging_next, edging_end}
use Rattle.verifier.proofs.ahead.alike_from.Goals as goal

pub loop-k-init : goal.loop-k-init
loop-k-init c = stride_first (λ (q n : ℕ). Edging c.args.s.now c.args.x.table c.args.x.entries c.args.o q n c.args.end) 8 _ _ (edging_start _ _ _ _ _)

pub loop-k-preserved : goal.loop-k-preserved
loop-k-preserved c = stride_next (λ (q n : ℕ). Edging c.args.s.now c.args.x.table c.args.x.entries c.args.o q n c.edge-r.result) 8 _ _ c.loop-k.k (edging_next _ _ _ _ _ _ _ c.loop-k.invariant (omega arith) _ c.edge-r.ensures)

pub returns : goal.returns
returns c = edging_end _ _ _ _ _ _ c.loop-k.invariant (omega arith)
