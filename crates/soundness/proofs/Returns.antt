-- Returns keep the invariant: the value that the descriptor asks for, once a constructor has made its receiver.
use Rattle.std.specs.Prelude.{ℕ, suc, ◌≤◌, ◌≡◌, Bool, not, drop}
use Rattle.std.proofs.Math.Path.{refl}
use Rattle.std.proofs.Math.Bool.{true, false}
use mathlib.Core.List.{List, [], ◌∷◌, ◌++◌, reverse_aux}
use Rattle.std.proofs.Common.{arith}
use Rattle.std.proofs.Math.ListN.{length}
use Rattle.std.proofs.Math.Dec.{T}
use Rattle.classfiles.specs.Descriptors.{Ref, Desc, dint, dref}
use Rattle.reader.specs.Program.{Program}
use Rattle.rules.specs.Instruction.{Instr, ireturn, areturn, return}
use Rattle.rules.specs.Types.{Ty, int, tys_of}
use Rattle.rules.specs.Rule.{rule, returns_int, returns_ref, returns_void, returned}
use Rattle.plain.specs.Heap.{Heap, Val, value_fits}
use Rattle.plain.specs.Machine.{Call, only, give_back}
use Rattle.plain.specs.Step.{execute, self_ready, leave, leave_with}
use Rattle.facts.specs.Base.{both_of}
use Rattle.facts.specs.Classes.{Link}
use Rattle.soundness.specs.Demand3.{results_fit}
use Rattle.soundness.specs.Pairs.{All2, anil, acons}
use Rattle.soundness.specs.Typing.{ready, HTys, VD, keeps_self, Popped, pnil}
use Rattle.soundness.specs.Blocks.{HOK, fits_ok}
use Rattle.soundness.specs.Inv.{Done, dnone, dself, FlagOK, fclr, Calls, cnil, ccons, inv, Good, goes, ends, only_ok}
use Rattle.soundness.specs.Steps.{Now, here, meth, R, Sees, args_ok}

all_fit : {P : Program} {Ψ : HTys} {H : Heap} → HOK P Ψ H → {vs : List Val} {Ds : List Desc} → All2 (VD P Ψ) vs Ds → T (results_fit P H Ds vs)
unfolding results_fit
all_fit hk anil = tt
all_fit {P} {H = H} hk (acons {a = v} {b = D} x xs) = both_of (value_fits P H D v) _ (fits_ok hk x) (all_fit hk xs)

module _ {P : Program} (L : Link P) {E : List Desc} (n : Now P E) where
  abbrev Holds : Instr → List Val → Type 0
  Holds i vs = Good P E (execute P (here n) vs i)

  back_ok : {Rs : List Desc} {q' : ℕ} {ks : List Call} → Calls P n.Ψ E ks Rs q' → (rs : List Val) → All2 (VD P n.Ψ) rs Rs → Done n.Ψ q' → Good P E (give_back P n.H rs ks)
  unfolding give_back
  back_ok cnil rs x y = ends (all_fit n.heap x)
  back_ok (ccons {ks = ks} fs w g cs) rs x y = goes (inv n.Ψ fs n.heap g (w.back n.Ψ (keeps_self (suc (length ks)) n.Ψ) rs x y) cs)

  self_ok : {q : ℕ} → Done n.Ψ q → T (self_ready n.H q)
  self_ok dnone = tt
  self_ok (dself {a} t p) = rw (n.heap.found a t ready p).ready tt

  leave_ok : (rs : List Val) → All2 (VD P n.Ψ) rs (meth n).results → T (not n.g) → Good P E (leave P (here n) rs)
  unfolding leave
  leave_ok rs x ng = go n.g ng n.flag
    where
      go : (b : Bool) → T (not b) → FlagOK n.Ψ n.q b → Good P E (only (self_ready n.H n.q) (give_back P n.H rs n.ks))
      go true t f = absurd t
      go false t (fclr y) = only_ok (self_ready n.H n.q) (self_ok y) (back_ok n.calls rs x y)

  -- with the operands that the descriptor asks for, none or one
  leave-with : (kind : Bool) (Ds : List Desc) → (meth n).results ≡ Ds → length Ds ≤ 1 → {vs : List Val} {ts : List Ty} → Popped (R n) vs (tys_of Ds ++ []) ts → T kind → T (not n.g) → Good P E (leave_with P (here n) kind vs)
  unfolding leave_with
  leave-with kind Ds e l {vs} {ts} p k ng =
      let p' : Popped (R n) vs (tys_of (meth n).results ++ []) ts = rw e p in
      only_ok kind k (args_ok L n (meth n).results [] [] [] p' anil _ (λ rs r x y. leave_ok rs (once (meth n).results (rw e l) x) ng))
    where
      once : (Ds : List Desc) → length Ds ≤ 1 → {rs : List Val} → All2 (VD P n.Ψ) rs (reverse_aux Ds []) → All2 (VD P n.Ψ) rs Ds
      once [] l x = x
      once (D ∷ []) l x = x
      once (D ∷ D' ∷ Ds) l x = absurd (omega arith)

  pub ireturn_ok : {vs : List Val} → Sees n ireturn → Popped (R n) vs (int ∷ []) (drop 1 n.s) → Holds ireturn vs
  unfolding execute rule
  ireturn_ok a p =
      let l = n.checked.single in
      let e : (meth n).results ≡ dint ∷ [] = go (meth n).results a.ask.0 l in
      leave-with (returns_int (meth n).results) (dint ∷ []) e (omega arith) p a.ask.0 a.ask.1.0
    where
      go : (Ds : List Desc) → T (returns_int Ds) → length Ds ≤ 1 → Ds ≡ dint ∷ []
      go [] t l = absurd t
      go (dint ∷ []) t l = refl
      go (dint ∷ D ∷ Ds) t l = absurd (omega arith)
      go (dref u ∷ Ds) t l = absurd t

  pub areturn_ok : {vs : List Val} → Sees n areturn → Popped (R n) vs (returned (meth n).results ∷ []) (drop 1 n.s) → Holds areturn vs
  unfolding execute rule
  areturn_ok {vs} a p =
      let l = n.checked.single in
      let x = go (meth n).results a.ask.0 l in
      let p' : Popped (R n) vs (returned (dref x.0 ∷ []) ∷ []) (drop 1 n.s) = rw x.1 at p in
      leave-with (returns_ref (meth n).results) (dref x.0 ∷ []) x.1 (omega arith) p' a.ask.0 a.ask.1.0
    where
      go : (Ds : List Desc) → T (returns_ref Ds) → length Ds ≤ 1 → (u : Ref) × (Ds ≡ dref u ∷ [])
      go [] t l = absurd t
      go (dint ∷ Ds) t l = absurd t
      go (dref u ∷ []) t l = (u, refl)
      go (dref u ∷ D ∷ Ds) t l = absurd (omega arith)

  pub return_ok : {vs : List Val} → Sees n return → All2 (R n) vs n.s → Holds return vs
  unfolding execute rule
  return_ok a ts = leave-with (returns_void (meth n).results) [] (go (meth n).results a.ask.0) (omega arith) (pnil ts) a.ask.0 a.ask.1.0
    where
      go : (Ds : List Desc) → T (returns_void Ds) → Ds ≡ []
      go [] t = refl
      go (D ∷ Ds) t = absurd t
