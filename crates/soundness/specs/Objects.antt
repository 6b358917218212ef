-- Where a field stands in an object, and that new keeps the invariant.
use Rattle.std.specs.Prelude.{ℕ, suc, ◌<◌, List, eqb, ltb}
use Rattle.std.proofs.Math.Path.{◌≡◌, refl, sym, ap}
use Rattle.std.proofs.Math.Bool.{false}
use Rattle.std.proofs.Common.{arith, eqb→eq, lt→ltb}
use Rattle.std.proofs.Math.ListN.{length}
use Rattle.std.proofs.Math.Dec.{T, eqb_refl, leb→le}
use Rattle.kit.specs.Bools.{T_true}
use Rattle.classfiles.specs.Descriptors.{Ref, cls, arr, Desc}
use Rattle.reader.specs.Program.{Program, layout}
use Rattle.rules.specs.Instruction.{Instr, FieldRef, new}
use Rattle.rules.specs.Opcodes.{body, instruction}
use Rattle.rules.specs.Lines.{new_class_at}
use Rattle.rules.specs.Types.{Key, at, same_key, top, uninit, ref_fits}
use Rattle.rules.specs.Rule.{rule}
use Rattle.plain.specs.Heap.{Val, ref, allocate}
use Rattle.plain.specs.Heap.{size_at as count_at}
use Rattle.plain.specs.Step.{execute, make}
use Rattle.facts.specs.Classes.{Link, below_refl}
use Rattle.facts.specs.Resolution.{FieldOk}
use Rattle.soundness.specs.Pairs.{All2, acons, all2_length}
use Rattle.soundness.specs.Cells.{class_again}
use Rattle.soundness.specs.Typing.{ready, born, HTy, hty, HTys, upd, upd_same, VT, vraw, Keeps, Others, keeps_others, keeps_more, renew, swapped, unswapped, hit_top}
use Rattle.soundness.specs.Blocks.{slot_desc, Block}
use Rattle.soundness.specs.Inv.{Me, nobody, someone, typed, Good, only_ok, keep_flag}
use Rattle.soundness.specs.Steps.{Now, here, meth, deep, R, Sees, on', create_ok, free}

module _ {P : Program} (L : Link P) {E : List Desc} (n : Now P E) where
  abbrev Holds : Instr → List Val → Type 0
  Holds i vs = Good P E (execute P (here n) vs i)

  -- ---- fields
  -- where a field stands in an object that fits the named class
  pub record Placed (f : FieldRef) (a : ℕ) (e : Ref) : Type 0 where
    pub inside : f.slot < count_at n.H a
    pub desc : slot_desc P e f.slot ≡ f.type

  pub placed : (f : FieldRef) → FieldOk P f → (a : ℕ) (e : Ref) → T (ref_fits P e (cls f.named)) → Block P n.Ψ n.H a e ready → Placed f a e
  unfolding ref_fits
  placed f k a (cls c) s b = let p = k.place c s in record { inside = rw b.size p.0; desc = p.1 }
  placed f k a (arr d) s b =
      let z : 0 ≡ f.named = sym (eqb→eq f.named 0 s) in
      let p = (k.place 0 (rw (← z) (below_refl P 0))).0 in
      absurd (omega (arith, ap length (L.plain 0 (omega arith))))

  -- ---- new
  class-new : (c : ℕ) → instruction P (meth n) n.o ≡ new c → new_class_at P (meth n) n.o ≡ c
  unfolding new_class_at
  class-new c e = rw e refl

  pub new_ok : (c : ℕ) {vs : List Val} → instruction P (meth n) n.o ≡ new c → Sees n (new c) → All2 (R n) vs n.s → Holds (new c) vs
  unfolding execute rule make
  new_ok c {vs} e a ts =
      let i = leb→le (suc (length n.s)) (body (meth n)).max_stack a.room in
      only_ok (ltb (length vs) (body (meth n)).max_stack) (lt→ltb (length vs) (body (meth n)).max_stack (omega (arith, all2_length ts)))
      (create_ok L n (cls c) (length (layout P c)) 0 (born (deep n) (at n.o)) refl (class_again c) refl _ (λ hk.
      on' L n (allocate n.H (cls c) (length (layout P c)) 0) a tt hk (keeps_more (deep n) n.Ψ n.H.used new-type (free L n))
      (typed (keep_flag k n.flag) me'
      (swapped P (meth n) n.Ψ Ψ' (deep n) n.σ σ' (at n.o) ot agree top (hit_top P (meth n) n.Ψ Ψ' (deep n) n.σ σ' (at n.o) ot agree) n.locals)
      (acons fresh (unswapped P (meth n) n.Ψ Ψ' (deep n) n.σ σ' (at n.o) ot agree a.ask.0 ts)))))
    where
      new-type : HTy
      new-type = hty (cls c) (born (deep n) (at n.o))

      Ψ' : HTys
      Ψ' = upd n.Ψ n.H.used (hty (cls c) (born (deep n) (at n.o)))

      k : Keeps (suc (deep n)) n.Ψ (upd n.Ψ n.H.used (hty (cls c) (born (deep n) (at n.o))))
      k = keeps_more (suc (deep n)) n.Ψ n.H.used (hty (cls c) (born (deep n) (at n.o))) (free L n)

      ot : Others (deep n) (at n.o) n.Ψ (upd n.Ψ n.H.used (hty (cls c) (born (deep n) (at n.o))))
      ot = keeps_others (at n.o) k

      σ' : Key → ℕ
      σ' = renew (at n.o) n.H.used n.σ

      agree : (j : Key) → same_key (at n.o) j ≡ false → renew (at n.o) n.H.used n.σ j ≡ n.σ j
      agree j e = rw e

      me' : Me (renew (at n.o) n.H.used n.σ) n.q
      me' = go n.me
        where
          go : {q : ℕ} → Me n.σ q → Me (renew (at n.o) n.H.used n.σ) q
          go nobody = nobody
          go someone = someone

      fresh : VT P (meth n) (upd n.Ψ n.H.used (hty (cls c) (born (deep n) (at n.o)))) (deep n) (renew (at n.o) n.H.used n.σ) (ref (suc n.H.used)) (uninit (at n.o))
      fresh = vraw {a = n.H.used} {k = at n.o} c (rw (T_true (eqb n.o n.o) (eqb_refl n.o))) (upd_same n.Ψ n.H.used (hty (cls c) (born (deep n) (at n.o)))) (rw (class-new c e) (below_refl P c))
