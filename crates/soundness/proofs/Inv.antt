-- A throw keeps the invariant, wherever it lands.
use Rattle.std.specs.Prelude.{ℕ, suc, leb}
use Rattle.std.proofs.Math.Path.{◌≡◌}
use mathlib.Core.List.{List}
use Rattle.std.proofs.Math.Option.{some}
use Rattle.std.proofs.Math.ListN.{length}
use Rattle.std.proofs.Math.Dec.{T}
use Rattle.reader.specs.BuiltIns.{throwable}
use Rattle.classfiles.specs.Descriptors.{cls, Desc}
use Rattle.reader.specs.Program.{Program, method, below}
use Rattle.rules.specs.Opcodes.{body}
use Rattle.plain.specs.Heap.{Heap}
use Rattle.plain.specs.Machine.{Result, Landing, landed}
use Rattle.soundness.specs.Typing.{ready, hty, HTys, Keeps}
use Rattle.soundness.specs.Blocks.{HOK}
use Rattle.soundness.specs.Inv.{inv, Good, goes, ends, only_ok, calls_keep, Lands, lost, held}

module _ {P : Program} {E : List Desc} {Ψ : HTys} (c : ℕ) where
  -- the object is there, or is made
  pub landed_ok : T (below P c throwable) → (obtain : (ℕ → Heap → Result) → Result)
      → ((k : ℕ → Heap → Result) → ((Ψ' : HTys) (H' : Heap) (a : ℕ) → HOK P Ψ' H' → ((d : ℕ) → Keeps d Ψ Ψ') → Ψ' a ≡ some (hty (cls c) ready) → Good P E (k (suc a) H')) → Good P E (obtain k))
      → {l : Landing} → Lands P Ψ E c l → Good P E (landed P c obtain l)
  unfolding landed
  landed_ok b obtain f lost = f _ (λ Ψ' H' a hk kp p. ends b)
  landed_ok b obtain f (held {k} {m} {ks = ks} fs r g t cs) =
      only_ok (leb 1 (body (method P k m)).max_stack) r (f _ (λ Ψ' H' a hk kp p. goes (inv Ψ' fs hk g (t Ψ' kp a p) (calls_keep cs (kp (length ks))))))
