-- Demand 3 over `verdict_of` and `run_of`, as the contracts of verify and run cite them.
use Rattle.std.proofs.Common.{◌∙◌}
use Rattle.shaping.specs.Verify.{read_shaped, verdict_of}
use Rattle.plain.specs.Laws.{run-answer}
use Rattle.soundness.specs.Runs.{Demand3, a_program}
use Rattle.soundness.proofs.Theorem.{sound}

pub demand3 : Demand3
unfolding verdict_of
demand3 s v =
    let p = a_program (read_shaped s) v in (
      p.0,
      p.1,
      λ i j h args n t budget z.
          let q = sound s v p.0 p.1 i j h args n t.heap budget in
          (q.0, run-answer s t i j args budget z ∙ q.1, q.2),
    )
