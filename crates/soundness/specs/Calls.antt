-- Calls of methods keep the invariant: the callee starts in the state that it was checked from, the caller waits.
use Rattle.std.specs.Prelude.{ℕ, suc, ◌+◌, ◌-◌, ◌<◌, ◌≤◌, ◌≡◌, refl, Bool, cond, drop, replicate, leb, ltb}
use Rattle.std.proofs.Common.{ap, arith}
use Rattle.std.proofs.Math.Bool.{true, false}
use mathlib.Core.List.{List, [], ◌∷◌, ◌++◌, reverse, reverse_aux, reverse-reverse, append-nil}
use Rattle.std.proofs.Math.ListN.{length, length-append}
use Rattle.std.proofs.Math.Dec.{T, leb→le, le→leb}
use Rattle.kit.specs.Bools.{T_true, T_false}
use Rattle.classfiles.specs.Limits.{max_calls}
use Rattle.reader.specs.BuiltIns.{first_class}
use Rattle.classfiles.specs.Descriptors.{Desc}
use Rattle.reader.specs.Program.{Program, Method, class, method, is_constructor}
use Rattle.rules.specs.Instruction.{Instr, MethodRef, invokestatic}
use Rattle.rules.specs.Opcodes.{body}
use Rattle.rules.specs.Resolve.{found, is_static_call}
use Rattle.rules.specs.Types.{Key, Ty, top, tys_of}
use Rattle.rules.specs.States.{State, state, padded, parameter_tys, start_state}
use Rattle.rules.specs.Frames.{Frame}
use Rattle.rules.specs.Rule.{rule, arguments, calling}
use Rattle.plain.specs.Heap.{Val, empty, padded_locals}
use Rattle.plain.specs.Machine.{only, result_room, enter}
use Rattle.plain.specs.Step.{execute, call_static}
use Rattle.facts.specs.Classes.{Link}
use Rattle.facts.specs.Lookup.{lookup-bundle}
use Rattle.facts.specs.Resolution.{MethodOk}
use Rattle.soundness.specs.Pairs.{All2, anil, acons, all2_map, all2_length, all2_append, all2_replicate}
use Rattle.soundness.specs.Typing.{HTys, VD, VT, vtop, Keeps, keeps_self, to_vt, keep_vt, Popped, pnil}
use Rattle.soundness.specs.Blocks.{HOK}
use Rattle.soundness.specs.Walk.{Into, entered}
use Rattle.soundness.specs.Walk.{Here as At}
use Rattle.soundness.specs.Inv.{Checked, dnone, FlagOK, fclr, Me, nobody, Slots, typed, Top, Waits, ccons, inv, Good, goes, deep, only_ok, cond_ok, keep_flag, calls_keep, slots_into}
use Rattle.soundness.specs.Steps.{Now, here, meth, R, Sees, onto, kept_catches, args_ok}
use Rattle.soundness.specs.Steps.{deep as depth}

-- every method of the bundle has passed
pub record Accepts (P : Program) : Type 0 where
  pub passed : (c m : ℕ) → first_class ≤ c → m < length (class P c).methods → (fs : List Frame) × Checked P (method P c m) fs

pub args_typed : {P : Program} {Ψ : HTys} (M : Method) (d : ℕ) (σ : Key → ℕ) {args : List Val} {Ds : List Desc} → All2 (VD P Ψ) args Ds → All2 (VT P M Ψ d σ) args (tys_of Ds)
args_typed M d σ anil = anil
args_typed M d σ (acons x xs) = acons (to_vt M d σ x) (args_typed M d σ xs)

-- the first state of a call
pub entering : {P : Program} (L : Link P) {M : Method} {fs : List Frame} {Ψ : HTys} (d q : ℕ) (σ : Key → ℕ) (args : List Val) → Checked P M fs → FlagOK Ψ q (is_constructor M) → Me σ q
    → All2 (VT P M Ψ d σ) args (parameter_tys M) → Top P Ψ d M fs 0 q (padded_locals (body M).max_locals args) []
unfolding start_state padded
entering {P} L {M} {fs} {Ψ} d q σ args gd f me x =
    let z : (S : State) × Into P (start_state M) S × At P M fs 0 S = entered P M fs gd.claims in
    record { last = σ; state = z.0; here = z.2; room = le→leb 0 (body M).max_stack (omega arith); slots = slots_into L (typed f me (all2_append x pad) anil) z.1 }
  where
    pad : All2 (VT P M Ψ d σ) (replicate ((body M).max_locals - length args) empty) (replicate ((body M).max_locals - length (parameter_tys M)) top)
    pad = rw (all2_length x) (all2_replicate ((body M).max_locals - length (parameter_tys M)) empty top vtop)

pub tys_aux : (Ds Es : List Desc) → tys_of (reverse_aux Ds Es) ≡ reverse_aux (tys_of Ds) (tys_of Es)
tys_aux [] Es = refl
tys_aux (D ∷ Ds) Es = tys_aux Ds (D ∷ Es)

tys_length : (Ds : List Desc) → length (tys_of Ds) ≡ length Ds
tys_length [] = refl
tys_length (D ∷ Ds) = ap suc (tys_length Ds)

module _ {P : Program} (L : Link P) {E : List Desc} (n : Now P E) where
  abbrev Holds : Instr → List Val → Type 0
  Holds i vs = Good P E (execute P (here n) vs i)

  -- into a method that has passed, over a caller that waits
  pub enter_ok : {Ψ' : HTys} (c m q : ℕ) (args vs : List Val) (fs : List Frame) → HOK P Ψ' n.H → Keeps (depth n) n.Ψ Ψ' → Checked P (method P c m) fs
      → Top P Ψ' (suc (depth n)) (method P c m) fs 0 q (padded_locals (body (method P c m)).max_locals args) []
      → Waits P Ψ' (depth n) (meth n) n.fs n.o n.q n.ls vs (method P c m).results q → Good P E (enter P (here n) c m q args vs)
  unfolding enter
  enter_ok {Ψ'} c m q args vs fs hk k gd t w =
      cond_ok (ltb (suc (length n.ks)) max_calls) (λ _. goes (inv Ψ' fs hk gd t (ccons n.fs w n.checked (calls_keep n.calls k)))) (λ _. deep)

  -- the results of a call stand on the operands that are left
  pub results_room : (N : Method) (vs : List Val) (ts : List Ty) → All2 (R n) vs ts → T (leb (length (tys_of N.results ++ ts)) (body (meth n)).max_stack) → T (result_room P (here n) N vs)
  unfolding result_room
  results_room N vs ts x h =
      let e : length (tys_of N.results ++ ts) ≡ length (tys_of N.results) + length ts = length-append (tys_of N.results) ts in
      let i = leb→le (length (tys_of N.results ++ ts)) (body (meth n)).max_stack h in
      le→leb (length N.results + length vs) (body (meth n)).max_stack (omega (arith, all2_length x, tys_length N.results))

  pub results-slots : (Rs : List Desc) {Ψ' : HTys} {rs vs : List Val} {ts : List Ty} → Keeps (suc (depth n)) n.Ψ Ψ' → All2 (VD P Ψ') rs Rs → All2 (R n) vs ts
      → Slots P (meth n) Ψ' (depth n) n.σ n.q n.ls (rs ++ vs) (state n.g n.l (tys_of Rs ++ ts))
  results-slots Rs k x y =
      typed (keep_flag k n.flag) n.me (all2_map (λ v t z. keep_vt k z) n.locals) (all2_append (args_typed (meth n) (depth n) n.σ x) (all2_map (λ v t z. keep_vt k z) y))

  -- the arguments, in order
  pub params-back : (Ds : List Desc) {args : List Val} → All2 (VD P n.Ψ) args (reverse_aux (reverse Ds) []) → All2 (VD P n.Ψ) args Ds
  params-back Ds x = rw (reverse-reverse Ds) at x

  pub invokestatic_ok : Accepts P → (m : MethodRef) → MethodOk P m → T (is_static_call P m) → {vs : List Val} → Sees n (invokestatic m)
      → Popped (R n) vs (arguments (found P m)) (drop (length (arguments (found P m))) n.s) → Holds (invokestatic m) vs
  unfolding execute rule calling call_static
  invokestatic_ok acc m k st {vs} a p =
      let p' : Popped (R n) vs (tys_of (reverse (found P m).params) ++ []) (drop (length (arguments (found P m))) n.s) = rw (append-nil (tys_of (reverse (found P m).params)), tys_aux (found P m).params []) p in
      args_ok L n (reverse (found P m).params) [] [] [] p' anil _ go
    where
      plain : T (is_constructor (found P m)) → ⊥
      plain t = no (is_constructor (found P m)) t st
        where
          no : (b : Bool) → T b → T (cond b false (found P m).static) → ⊥
          no true t s = s
          no false t s = t

      static : (found P m).static ≡ true
      static = T_true (found P m).static (yes' (is_constructor (found P m)) st)
        where
          yes' : (b : Bool) → T (cond b false (found P m).static) → T (found P m).static
          yes' true s = absurd s
          yes' false s = s

      bundle : first_class ≤ m.owner
      bundle = lookup-bundle P L (found P m).sig plain m.named m.owner m.index (k.first plain)

      ok : (fs : List Frame) × Checked P (found P m) fs
      ok = acc.passed m.owner m.index bundle k.there

      go : (args rest : List Val) → All2 (VD P n.Ψ) args (reverse_aux (reverse (found P m).params) []) → Popped (R n) rest [] (drop (length (arguments (found P m))) n.s)
          → Good P E (only (result_room P (here n) (found P m) rest) (enter P (here n) m.owner m.index 0 args rest))
      go args rest x (pnil ts) =
          only_ok (result_room P (here n) (found P m) rest) (results_room (found P m) rest _ ts a.room)
          (enter_ok m.owner m.index 0 args rest ok.0 n.heap (keeps_self (depth n) n.Ψ) ok.1
          (entering L (suc (depth n)) 0 (λ j. 0) args ok.1 (rw (T_false (is_constructor (found P m)) plain) (fclr dnone)) nobody (rw static (args_typed (found P m) (suc (depth n)) (λ j. 0) (params-back (found P m).params x))))
          (record { back = λ Ψ' kp rs x y. onto L n a tt (results-slots (found P m).results kp x ts); catch = λ Ψ' kp. kept_catches L n a n.locals kp }))
