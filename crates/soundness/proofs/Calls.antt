-- A virtual call keeps the invariant.
use Rattle.std.specs.Prelude.{ℕ, suc, ◌≤◌, ◌≡◌, drop}
use Rattle.std.proofs.Common.{◌∙◌, arith, eqb→eq}
use Rattle.std.proofs.Math.Bool.{false}
use mathlib.Core.List.{List, [], ◌∷◌, ◌++◌, reverse, reverse_aux}
use Rattle.std.proofs.Math.Option.{some}
use Rattle.std.proofs.Math.ListN.{length}
use Rattle.std.proofs.Math.Dec.{T}
use Rattle.kit.specs.Bools.{T_false}
use Rattle.reader.specs.BuiltIns.{first_class, null_pointer}
use Rattle.classfiles.specs.Descriptors.{Ref, cls, arr, Desc, dref}
use Rattle.reader.specs.Program.{Program, method, is_constructor, method_sigs, lookup}
use Rattle.rules.specs.Instruction.{Instr, MethodRef, invokevirtual}
use Rattle.rules.specs.Resolve.{found, is_virtual_call}
use Rattle.rules.specs.Types.{ini, tys_of, ref_fits}
use Rattle.rules.specs.States.{parameter_tys}
use Rattle.rules.specs.Frames.{Frame}
use Rattle.rules.specs.Rule.{rule, arguments, calling}
use Rattle.plain.specs.Heap.{Val, ref, type_at, ready_at, value_fits}
use Rattle.plain.specs.Machine.{only, pop_any, receiver, with_class, result_room, enter}
use Rattle.plain.specs.Step.{execute, chosen, call_virtual}
use Rattle.facts.specs.Classes.{Link, zero_above}
use Rattle.facts.specs.Lookup.{Chosen, lookup_below, lookup-bundle}
use Rattle.facts.specs.Resolution.{MethodOk, virtual_plain, virtual_bound}
use Rattle.soundness.specs.Pairs.{All2, anil, acons}
use Rattle.soundness.specs.Typing.{ready, hty, VD, VT, vnulc, vini, vdref, keeps_self, Popped, pnil, pcons}
use Rattle.soundness.specs.Blocks.{Block, fits_ok}
use Rattle.soundness.specs.Inv.{Checked, dnone, fclr, nobody, Good, only_ok}
use Rattle.soundness.specs.Steps.{Now, here, R, Sees, onto, kept_catches, args_ok}
use Rattle.soundness.specs.Steps.{deep as depth}
use Rattle.soundness.specs.Calls.{Accepts, args_typed, entering, tys_aux, enter_ok, results_room, results-slots, params-back}
use Rattle.soundness.proofs.Steps.{fault_ok}

module _ {P : Program} (L : Link P) {E : List Desc} (n : Now P E) where
  abbrev Holds : Instr → List Val → Type 0
  Holds i vs = Good P E (execute P (here n) vs i)

  pub invokevirtual_ok : Accepts P → (m : MethodRef) → MethodOk P m → T (is_virtual_call P m) → {vs : List Val} → Sees n (invokevirtual m)
      → Popped (R n) vs (arguments (found P m) ++ (ini (cls m.named) ∷ [])) (drop (length (arguments (found P m) ++ (ini (cls m.named) ∷ []))) n.s) → Holds (invokevirtual m) vs
  unfolding execute rule calling call_virtual receiver ref_fits
  invokevirtual_ok acc m k st {vs} a p =
      let p' : Popped (R n) vs (tys_of (reverse (found P m).params) ++ (ini (cls m.named) ∷ [])) (drop (length (arguments (found P m) ++ (ini (cls m.named) ∷ []))) n.s) = rw (tys_aux (found P m).params []) p in
      args_ok L n (reverse (found P m).params) (ini (cls m.named) ∷ []) [] [] p' anil _ go
    where
      plain : T (is_constructor (found P m)) → ⊥
      plain = virtual_plain P m st

      bundle : first_class ≤ m.owner
      bundle = lookup-bundle P L (found P m).sig plain m.named m.owner m.index (k.first plain)

      call_ok : (args rest : List Val) → All2 (VD P n.Ψ) args (found P m).params → All2 (R n) rest (drop (length (arguments (found P m) ++ (ini (cls m.named) ∷ []))) n.s)
          → (b : ℕ) (e : Ref) → n.Ψ b ≡ some (hty e ready) → T (ref_fits P e (cls m.named))
          → Good P E (with_class e λ c. chosen (lookup P method_sigs (found P m).sig c) λ d j. enter P (here n) d j 0 (ref (suc b) ∷ args) rest)
      call_ok args rest x ts b (arr D) q s =
          let z : m.owner ≡ 0 = zero_above P L m.named m.owner (eqb→eq m.named 0 s) k.above in
          absurd (omega (arith, bundle))
      call_ok args rest x ts b (cls c) q s = rw w.is (enter_ok L n w.class' w.index 0 (ref (suc b) ∷ args) rest ok.0 n.heap (keeps_self (depth n) n.Ψ) ok.1
          (entering L (suc (depth n)) 0 (λ j. 0) (ref (suc b) ∷ args) ok.1 (rw not_init (fclr dnone)) nobody typed')
          (record { back = λ Ψ' kp rs x y. onto L n a tt (results-slots L n (found P m).results kp (rw w.results at x) ts); catch = λ Ψ' kp. kept_catches L n a n.locals kp }))
        where
          w : Chosen P L (found P m).sig plain m.owner m.index c
          w = lookup_below P L (found P m).sig plain c m.named m.owner m.index s (k.first plain)

          ok : (fs : List Frame) × Checked P (method P w.class' w.index) fs
          ok = acc.passed w.class' w.index w.bundle w.there

          not_init : is_constructor (method P w.class' w.index) ≡ false
          not_init = T_false (is_constructor (method P w.class' w.index)) (λ t. plain (rw w.sig at t))

          not_static : (method P w.class' w.index).static ≡ false
          not_static = w.static ∙ virtual_bound P m st

          typed' : All2 (VT P (method P w.class' w.index) n.Ψ (suc (depth n)) (λ j. 0)) (ref (suc b) ∷ args) (parameter_tys (method P w.class' w.index))
          typed' = rw (not_static, not_init, L.owned w.class' w.index w.bundle w.there, w.params)
              (acons (vini {a = b} (cls c) q w.above) (args_typed (method P w.class' w.index) (suc (depth n)) (λ j. 0) x))

      go : (args rest : List Val) → All2 (VD P n.Ψ) args (reverse_aux (reverse (found P m).params) []) → Popped (R n) rest (ini (cls m.named) ∷ []) (drop (length (arguments (found P m) ++ (ini (cls m.named) ∷ []))) n.s)
          → Good P E (pop_any rest λ v r'. only (result_room P (here n) (found P m) r')
          (receiver P (here n) (cls m.named) v λ b. with_class (type_at n.H b) λ c. chosen (lookup P method_sigs (found P m).sig c) λ d j. enter P (here n) d j 0 (v ∷ args) r'))
      go args _ x (pcons vnulc (pnil {vs = r} ts)) =
          only_ok (result_room P (here n) (found P m) r) (results_room L n (found P m) r _ ts a.room) (fault_ok L n null_pointer (omega arith) (omega arith) a n.locals)
      go args _ x (pcons (vini {a = b} e q s) (pnil {vs = r} ts)) =
          let w : Block P n.Ψ n.H b e ready = n.heap.found b e ready q in
          only_ok (result_room P (here n) (found P m) r) (results_room L n (found P m) r _ ts a.room)
          (only_ok (ready_at n.H b) (rw w.ready tt) (only_ok (value_fits P n.H (dref (cls m.named)) (ref (suc b))) (fits_ok n.heap (vdref {a = b} e q s))
          (rw w.type (call_ok args r (params-back L n (found P m).params x) ts b e q s))))
