-- Constructor calls keep the invariant: a built-in one makes its object ready; a bundle's takes the object over until it returns.
use Prim.Native.Nat.{ℕ, suc, ◌+◌, ◌<◌, ◌≤◌}
use Rattle.std.specs.Prelude.{◌≡◌, refl, true, false, not, ◌⊎◌, drop, T, eqb, ltb}
use Rattle.std.proofs.Common.{◌∙◌, inl, inr, eqb→eq, le→leb, lt→ltb}
use mathlib.Core.List.{List, [], ◌∷◌, ◌++◌, reverse, reverse_aux, append-nil}
use Rattle.std.proofs.Math.Option.{some}
use native.Mathlib.Omega.{arith}
use Rattle.std.proofs.Math.ListN.{length, length-append}
use Rattle.std.proofs.Math.Dec.{leb→le}
use Rattle.kit.specs.Bools.{T_true}
use Rattle.reader.specs.BuiltIns.{first_class}
use Rattle.classfiles.specs.Descriptors.{Ref, cls, Desc}
use Rattle.reader.specs.Program.{Program, is_constructor, below}
use Rattle.rules.specs.Instruction.{Instr, MethodRef, invokespecial}
use Rattle.rules.specs.Resolve.{found, is_init_call}
use Rattle.rules.specs.Types.{Key, at, self, Ty, top, int, null, ini, uninit, tys_of, ref_fits}
use Rattle.rules.specs.States.{state, operand, replace_all, parameter_tys}
use Rattle.rules.specs.Frames.{Frame}
use Rattle.rules.specs.Rule.{rule, key_class, key_ok, init_ok, flag_after, initialised, arguments, constructing}
use Rattle.plain.specs.Heap.{Val, ref, type_at, ready_at, mark_ready}
use Rattle.plain.specs.Machine.{pop_any, push_on, enter}
use Rattle.plain.specs.Step.{execute, with_unready, construct, call_init}
use Rattle.facts.specs.Base.{either_of}
use Rattle.facts.specs.Classes.{Link, parent, below_trans, below_parent}
use Rattle.facts.specs.Resolution.{MethodOk}
use Rattle.soundness.specs.Pairs.{All2, anil, acons, all2_map}
use Rattle.soundness.specs.Typing.{ready, born, hty, HTys, upd, VD, VT, vraw, Keeps, Others, keeps-down, keeps_then, keep_vd, Peeled, peeled, peel, Popped, pnil, popped, swapped, hit_made, hit_top, own_others, own_keeps, own_at}
use Rattle.soundness.specs.Blocks.{Block, readied, lent}
use Rattle.soundness.specs.Inv.{Checked, Done, dnone, dself, FlagOK, fset, fclr, Me, nobody, someone, Slots, typed, Top, Catches, Good, only_ok, cond_ok, keep_flag, catches}
use Rattle.soundness.specs.Steps.{Now, here, meth, R, Sees, rule_at, onto, on', args_ok}
use Rattle.soundness.specs.Steps.{deep as depth}
use Rattle.soundness.specs.Calls.{Accepts, args_typed, entering, tys_aux, enter_ok, params-back}

module _ {P : Program} (L : Link P) {E : List Desc} (n : Now P E) where
  abbrev Holds : Instr → List Val → Type 0
  Holds i vs = Good P E (execute P (here n) vs i)

  -- an object that `<init>` of the class c may take is of c or below it
  init_below : (c e : ℕ) (K : Key) → T (key_ok P (meth n) c K) → T (below P e (key_class P (meth n) K)) → T (below P e c)
  init_below c e (at K) y x = rw (eqb→eq _ c y) at x
  init_below c e self y x = go (either_of (eqb (meth n).owner c) _ y)
    where
      go : T (eqb (meth n).owner c) ⊎ T (eqb (parent P (meth n).owner) c) → T (below P e c)
      go (inl z) = rw (eqb→eq (meth n).owner c z) at x
      go (inr z) = rw (eqb→eq (parent P (meth n).owner) c z) at (below_trans P L e (meth n).owner _ x (below_parent P L (meth n).owner))

  -- the uninitialised object K has become ready
  made-flag : {Ψ' : HTys} (K : Key) (r : ℕ) (t : Ref) → Keeps (depth n) n.Ψ Ψ' → r ≡ n.σ K → Ψ' r ≡ some (hty t ready) → FlagOK Ψ' n.q (flag_after K n.g)
  made-flag (at K) r t k u p = keep_flag k n.flag
  made-flag {Ψ'} self r t k u p = fclr (go n.me)
    where
      go : {q : ℕ} → Me n.σ q → Done Ψ' q
      go nobody = dnone
      go someone = dself {a = n.σ self} t (rw (← u) p)

  -- the slots of the call then, with the operands below the object
  made-slots : {Ψ' : HTys} (K : Key) (r e : ℕ) {vs : List Val} {ts : List Ty} → Others (depth n) K n.Ψ Ψ' → Keeps (depth n) n.Ψ Ψ' → r ≡ n.σ K → Ψ' r ≡ some (hty (cls e) ready) → T (below P e (key_class P (meth n) K)) → All2 (R n) vs ts
      → Slots P (meth n) Ψ' (depth n) n.σ n.q n.ls vs (initialised P (meth n) K (state n.g n.l ts))
  unfolding ref_fits
  made-slots {Ψ'} K r e ot k u p y x = typed (made-flag K r (cls e) k u p) n.me (sw n.locals) (sw x)
    where
      sw : {vs : List Val} {ts : List Ty} → All2 (R n) vs ts → All2 (VT P (meth n) Ψ' (depth n) n.σ) vs (replace_all K (ini (cls (key_class P (meth n) K))) ts)
      sw = swapped P (meth n) n.Ψ Ψ' (depth n) n.σ n.σ K ot (λ j z. refl) (ini (cls (key_class P (meth n) K))) (hit_made P (meth n) n.Ψ Ψ' (depth n) n.σ n.σ K ot (λ j z. refl) r e (key_class P (meth n) K) u p y)

  -- with the receiver's type known
  construct_ok : Accepts P → (m : MethodRef) → MethodOk P m → T (is_init_call P m) → Sees n (invokespecial m) → (K : Key) → operand (length (arguments (found P m))) n.s ≡ uninit K → T (key_ok P (meth n) m.named K)
      → (args : List Val) {v : Val} (rest : List Val) → All2 (VD P n.Ψ) args (found P m).params → R n v (uninit K) → All2 (R n) rest (drop (suc (length (arguments (found P m)))) n.s)
      → Good P E (with_unready P n.H m.named v λ b. construct P (here n) m b args rest)
  unfolding construct ref_fits rule constructing
  construct_ok acc m k st a K e y args rest x (vraw {a = r} c u pr z) ts =
      only_ok (not (ready_at n.H r)) (rw w.ready tt) (only_ok (ref_fits P (type_at n.H r) (cls m.named)) (rw w.type sb)
      (cond_ok (ltb m.owner first_class) (λ t. built) (λ t. bundle (λ l. t (lt→ltb m.owner first_class l)))))
    where
      w : Block P n.Ψ n.H r (cls c) (born (depth n) K)
      w = n.heap.found r (cls c) (born (depth n) K) pr

      sb : T (below P c m.named)
      sb = init_below m.named c K y z

      -- a built-in class's constructor makes it ready
      built : Good P E (push_on P (here n) (mark_ready n.H r) rest)
      built =
          let kp : Keeps (depth n) n.Ψ (upd n.Ψ r (hty (cls c) ready)) = own_keeps n.Ψ (depth n) K r (cls c) ready pr in
          let sl : Slots P (meth n) (upd n.Ψ r (hty (cls c) ready)) (depth n) n.σ n.q n.ls rest (rule_at n (invokespecial m)).after =
          rw e (made-slots K r c (own_others n.Ψ (depth n) K r (cls c) ready pr) kp u (own_at n.Ψ (depth n) K r (cls c) ready pr) z ts) in
          on' L n (mark_ready n.H r) a tt (readied n.heap r (cls c) (depth n) K pr kp) kp sl

      bundle : (m.owner < first_class → ⊥) → Good P E (enter P (here n) m.owner m.index (suc r) (ref (suc r) ∷ args) rest)
      bundle ge =
          enter_ok L n m.owner m.index (suc r) (ref (suc r) ∷ args) rest ok.0 (lent n.heap r (cls c) (depth n) K (suc (depth n)) self pr k₁) k₁ ok.1
          (entering L (suc (depth n)) (suc r) (λ j. r) (ref (suc r) ∷ args) ok.1 (rw init fset) someone typed')
          (record { back = λ Ψ' kp rs x dn. let v : rs ≡ [] = none_back (found P m).results void x in rw v (after Ψ' kp dn); catch = catch' })
        where
          far : first_class ≤ m.owner
          far = omega (arith, ge)

          ok : (fs : List Frame) × Checked P (found P m) fs
          ok = acc.passed m.owner m.index far k.there

          init : is_constructor (found P m) ≡ true
          init = T_true (is_constructor (found P m)) st

          bound : (found P m).static ≡ false
          bound = L.bound m.owner m.index st

          void : (found P m).results ≡ []
          void = L.void m.owner m.index far k.there st

          owner : (found P m).owner ≡ m.named
          owner = L.owned m.owner m.index far k.there ∙ k.own st

          k₁ : Keeps (depth n) n.Ψ (upd n.Ψ r (hty (cls c) (born (suc (depth n)) self)))
          k₁ = own_keeps n.Ψ (depth n) K r (cls c) (born (suc (depth n)) self) pr

          p₁ : upd n.Ψ r (hty (cls c) (born (suc (depth n)) self)) r ≡ some (hty (cls c) (born (suc (depth n)) self))
          p₁ = own_at n.Ψ (depth n) K r (cls c) (born (suc (depth n)) self) pr

          mine : T (below P c (found P m).owner)
          mine = rw owner sb

          typed' : All2 (VT P (found P m) (upd n.Ψ r (hty (cls c) (born (suc (depth n)) self))) (suc (depth n)) (λ j. r)) (ref (suc r) ∷ args) (parameter_tys (found P m))
          typed' = rw (bound, init) (acons (vraw {a = r} {k = self} c refl p₁ mine) (args_typed (found P m) (suc (depth n)) (λ j. r) (all2_map (λ v D w. keep_vd k₁ w) x)))

          others : (Ψ' : HTys) → Keeps (suc (depth n)) (upd n.Ψ r (hty (cls c) (born (suc (depth n)) self))) Ψ' → Others (depth n) K n.Ψ Ψ'
          others Ψ' kp = record { kept = λ i t w o ne j. kp.kept i t w o ((own_others n.Ψ (depth n) K r (cls c) (born (suc (depth n)) self) pr).kept i t w o ne j) }

          keeps : (Ψ' : HTys) → Keeps (suc (depth n)) (upd n.Ψ r (hty (cls c) (born (suc (depth n)) self))) Ψ' → Keeps (depth n) n.Ψ Ψ'
          keeps Ψ' kp = keeps_then k₁ (keeps-down (depth n) (suc (depth n)) (omega arith) kp)

          still : (Ψ' : HTys) → Keeps (suc (depth n)) (upd n.Ψ r (hty (cls c) (born (suc (depth n)) self))) Ψ' → Done Ψ' (suc r) → Ψ' r ≡ some (hty (cls c) ready)
          still Ψ' kp (dself t p') = let w = kp.stays r (cls c) (born (suc (depth n)) self) p₁ in let v = w.1 in cc

          none_back : (Rs : List Desc) → Rs ≡ [] → {Ψ' : HTys} {rs : List Val} → All2 (VD P Ψ') rs Rs → rs ≡ []
          none_back [] e anil = refl
          none_back (D ∷ Ds) e x = let z : ◌≡◌ {A = ℕ} 0 1 = cc in absurd (omega arith)

          after : (Ψ' : HTys) → Keeps (suc (depth n)) (upd n.Ψ r (hty (cls c) (born (suc (depth n)) self))) Ψ' → Done Ψ' (suc r) → Top P Ψ' (depth n) (meth n) n.fs (here n).after n.q n.ls rest
          after Ψ' kp dn =
              let sl : Slots P (meth n) Ψ' (depth n) n.σ n.q n.ls rest (rule_at n (invokespecial m)).after = rw e (made-slots K r c (others Ψ' kp) (keeps Ψ' kp) u (still Ψ' kp dn) z ts) in
              onto L n a tt sl

          catch' : (Ψ' : HTys) → Keeps (suc (depth n)) (upd n.Ψ r (hty (cls c) (born (suc (depth n)) self))) Ψ' → Catches P Ψ' (depth n) (meth n) n.fs n.o n.q n.ls
          catch' Ψ' kp =
              let lo : All2 (VT P (meth n) Ψ' (depth n) n.σ) n.ls (rule_at n (invokespecial m)).caught =
              rw e (swapped P (meth n) n.Ψ Ψ' (depth n) n.σ n.σ K (others Ψ' kp) (λ j z. refl) top (hit_top P (meth n) n.Ψ Ψ' (depth n) n.σ n.σ K (others Ψ' kp) (λ j z. refl)) n.locals) in
              catches L n.checked n.o n.g (keep_flag (keeps Ψ' kp) n.flag) n.me lo a.catch

  pub invokespecial_ok : Accepts P → (m : MethodRef) → MethodOk P m → T (is_init_call P m) → {vs : List Val} → Sees n (invokespecial m) → All2 (R n) vs n.s → Holds (invokespecial m) vs
  unfolding execute rule constructing call_init
  invokespecial_ok acc m k st {vs} a ts =
      let us : List Ty = arguments (found P m) in
      let c = leb→le (length (us ++ (top ∷ []))) (length n.s) a.count in
      let e : length (us ++ (top ∷ [])) ≡ suc (length us) = length-append us (top ∷ []) ∙ plus_one (length us) in
      let p : Popped (R n) vs us (drop (length us) n.s) = popped L us (top ∷ []) n.s (le→leb (length us) (length n.s) (omega arith)) ts a.need in
      let p' : Popped (R n) vs (tys_of (reverse (found P m).params) ++ []) (drop (length us) n.s) = rw (append-nil (tys_of (reverse (found P m).params)), tys_aux (found P m).params []) p in
      args_ok L n (reverse (found P m).params) [] [] [] p' anil _ (go (omega arith))
    where
      plus_one : (k : ℕ) → k + 1 ≡ suc k
      plus_one k = omega arith

      kinds : (t : Ty) → operand (length (arguments (found P m))) n.s ≡ t → T (init_ok P (meth n) m.named t) → (args : List Val) {v : Val} (r : List Val) → All2 (VD P n.Ψ) args (found P m).params → R n v t
          → All2 (R n) r (drop (suc (length (arguments (found P m)))) n.s) → Good P E (with_unready P n.H m.named v λ b. construct P (here n) m b args r)
      kinds top e y args r x v ts = absurd y
      kinds int e y args r x v ts = absurd y
      kinds null e y args r x v ts = absurd y
      kinds (ini u) e y args r x v ts = absurd y
      kinds (uninit K) e y args r x v ts = construct_ok acc m k st a K e y args r x v ts

      here_ok : (args : List Val) {rest : List Val} → All2 (VD P n.Ψ) args (found P m).params → Peeled (R n) rest (operand (length (arguments (found P m))) n.s) (drop (suc (length (arguments (found P m)))) n.s)
          → Good P E (pop_any rest λ v r. with_unready P n.H m.named v λ b. construct P (here n) m b args r)
      here_ok args x (peeled {vs = r} v ts) = kinds (operand (length (arguments (found P m))) n.s) refl a.ask.0 args r x v ts

      go : length (arguments (found P m)) < length n.s → (args rest : List Val) → All2 (VD P n.Ψ) args (reverse_aux (reverse (found P m).params) []) → Popped (R n) rest [] (drop (length (arguments (found P m))) n.s)
          → Good P E (pop_any rest λ v r. with_unready P n.H m.named v λ b. construct P (here n) m b args r)
      go l args rest x (pnil ts) = here_ok args (params-back L n (found P m).params x) (peel (length (arguments (found P m))) n.s l ts)
