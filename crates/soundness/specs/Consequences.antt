-- What demand 3 names, each by itself, of a machine in good order.
use Rattle.std.specs.Prelude.{ℕ, zero, suc, ◌<◌, ◌≤◌, ◌≡◌, refl, Bool, true, false, cond, length, drop}
use mathlib.Core.List.{List, [], ◌∷◌}
use Rattle.std.proofs.Common.{arith, leb→le, ltb→lt}
use Rattle.std.proofs.Math.Dec.{T, eqb_refl}
use Rattle.reader.specs.BuiltIns.{object}
use Rattle.classfiles.specs.Descriptors.{Ref, Desc, cls, arr, dref}
use Rattle.reader.specs.Program.{Program, Method, method}
use Rattle.rules.specs.Instruction.{Instr, nop, aconstnull, pop, dup, dupx1, swap, ineg, arraylength, iaload, aaload, iastore, aastore, athrow, ireturn, areturn, return, iconst, iload, aload, istore, astore, goto, new, iinc, ibin, idiv, ifint, ificmp, ifacmp, ifnull, getfield, putfield, invokevirtual, invokespecial, invokestatic, newarray, checkcast, instanceof, illegal, unresolved}
use Rattle.rules.specs.Opcodes.{body, code_of, instruction}
use Rattle.rules.specs.Types.{Key, Ty, top, int, null, ini, uninit, object_ty, is_array, fits, ref_fits}
use Rattle.rules.specs.States.{State, state, top_of}
use Rattle.rules.specs.Rule.{rule, calling, constructing}
use Rattle.plain.specs.Heap.{Heap, Val, empty, num, ref, ready_at, is_num, value_fits}
use Rattle.plain.specs.Machine.{call, Machine, machine, heap_of, Result, next, stopped, stuck}
use Rattle.plain.specs.Step.{step}
use Rattle.facts.specs.Base.{first_of, second_of, both_of}
use Rattle.facts.specs.Classes.{Link}
use Rattle.soundness.specs.Typing.{HTys, VT, vtop, vint, vnull, vnulc, vini, vraw, vdref, fit, Peeled, peeled, Popped, pnil, pcons}
use Rattle.soundness.specs.Blocks.{HOK, fits_ok}
use Rattle.soundness.specs.Walk.{Here as At}
use Rattle.soundness.specs.Inv.{Slots, typed, Inv, inv, Good, goes, ends, full, deep}
use Rattle.soundness.specs.Steps.{Now, Sees}
use Rattle.soundness.specs.Forms.{one, pops}
use Rattle.soundness.specs.Calls.{Accepts}

-- the machines that a run comes through
pub data Reached (P : Program) (K₀ : Machine) : Machine → Type 0 where
  start : Reached P K₀ K₀
  onward : {K K' : Machine} → Reached P K₀ K → step P K ≡ next K' → Reached P K₀ K'

abbrev pub code_at : Program → Machine → Method
code_at P (machine H (call c m o q ls vs) ks) = method P c m

abbrev pub offset_of : Machine → ℕ
offset_of (machine H (call c m o q ls vs) ks) = o

abbrev pub operands_of : Machine → List Val
operands_of (machine H (call c m o q ls vs) ks) = vs

-- the operands that an instruction takes, top first: top stands for one that is copied, dropped or the receiver of `<init>`, and for arraylength's array
unfoldable pub takes : Program → Method → Instr → List Ty
takes P M i = (rule P M 0 i (state false [] [])).takes

-- a value is what is asked: an int, or null or a ready object that fits
unfoldable pub is_asked : Program → Heap → Ty → Val → Bool
is_asked P H top v = true
is_asked P H int v = is_num v
is_asked P H null v = value_fits P H (dref (cls object)) v
is_asked P H (ini u) v = value_fits P H (dref u) v
is_asked P H (uninit k) v = true

unfoldable pub are_asked : Program → Heap → List Ty → List Val → Bool
are_asked P H [] vs = true
are_asked P H (u ∷ us) [] = false
are_asked P H (u ∷ us) (v ∷ vs) = cond (is_asked P H u v) (are_asked P H us vs) false

-- a reference is null or to an object on which a built-in class's constructor has run
abbrev pub is_made : Heap → Val → Bool
is_made H empty = true
is_made H (num a) = true
is_made H (ref zero) = true
is_made H (ref (suc a)) = ready_at H a

-- so is each operand, but those that are copied, dropped or the receiver of `<init>`
abbrev pub used_made : Heap → Ty → Val → Bool
used_made H top v = true
used_made H int v = is_made H v
used_made H null v = is_made H v
used_made H (ini u) v = is_made H v
used_made H (uninit k) v = true

unfoldable pub all_made : Heap → List Ty → List Val → Bool
all_made H [] vs = true
all_made H (u ∷ us) [] = true
all_made H (u ∷ us) (v ∷ vs) = cond (used_made H u v) (all_made H us vs) false

-- what each instruction takes does not hang on the state
takes_same : (P : Program) (M : Method) (o : ℕ) (i : Instr) (S : State) → (rule P M o i S).takes ≡ takes P M i
unfolding takes rule calling constructing
takes_same P M o nop (state g l s) = refl
takes_same P M o aconstnull (state g l s) = refl
takes_same P M o pop (state g l s) = refl
takes_same P M o dup (state g l s) = refl
takes_same P M o dupx1 (state g l s) = refl
takes_same P M o swap (state g l s) = refl
takes_same P M o ineg (state g l s) = refl
takes_same P M o arraylength (state g l s) = refl
takes_same P M o iaload (state g l s) = refl
takes_same P M o aaload (state g l s) = refl
takes_same P M o iastore (state g l s) = refl
takes_same P M o aastore (state g l s) = refl
takes_same P M o athrow (state g l s) = refl
takes_same P M o ireturn (state g l s) = refl
takes_same P M o areturn (state g l s) = refl
takes_same P M o return (state g l s) = refl
takes_same P M o (iconst v) (state g l s) = refl
takes_same P M o (iload j) (state g l s) = refl
takes_same P M o (aload j) (state g l s) = refl
takes_same P M o (istore j) (state g l s) = refl
takes_same P M o (astore j) (state g l s) = refl
takes_same P M o (goto t) (state g l s) = refl
takes_same P M o (new c) (state g l s) = refl
takes_same P M o (iinc j k) (state g l s) = refl
takes_same P M o (ibin f) (state g l s) = refl
takes_same P M o (idiv f) (state g l s) = refl
takes_same P M o (ifint f t) (state g l s) = refl
takes_same P M o (ificmp f t) (state g l s) = refl
takes_same P M o (ifacmp b t) (state g l s) = refl
takes_same P M o (ifnull b t) (state g l s) = refl
takes_same P M o (getfield f) (state g l s) = refl
takes_same P M o (putfield f) (state g l s) = refl
takes_same P M o (invokevirtual m) (state g l s) = refl
takes_same P M o (invokespecial m) (state g l s) = refl
takes_same P M o (invokestatic m) (state g l s) = refl
takes_same P M o (newarray d) (state g l s) = refl
takes_same P M o (checkcast r) (state g l s) = refl
takes_same P M o (instanceof r) (state g l s) = refl
takes_same P M o illegal (state g l s) = refl
takes_same P M o unresolved (state g l s) = refl

module _ {P : Program} {M : Method} {Ψ : HTys} {H : Heap} (hk : HOK P Ψ H) {d : ℕ} {σ : Key → ℕ} where
  asked : {v : Val} {u : Ty} → VT P M Ψ d σ v u → T (is_asked P H u v)
  unfolding is_asked
  asked vtop = tt
  asked vint = tt
  asked vnull = tt
  asked vnulc = tt
  asked (vini {a} e p q) = fits_ok hk (vdref {a = a} e p q)
  asked (vraw e s p q) = tt

  all_asked : {vs : List Val} {us ts : List Ty} → Popped (VT P M Ψ d σ) vs us ts → T (are_asked P H us vs)
  unfolding are_asked
  all_asked (pnil x) = tt
  all_asked (pcons {v} {u = u} x p) = both_of (is_asked P H u v) _ (asked x) (all_asked p)

-- a machine in good order
module _ {P : Program} (L : Link P) (acc : Accepts P) (E : List Desc) where
  pub order_code : {K : Machine} → Inv P E K → offset_of K < length (code_of (code_at P K))
  order_code (inv {c = c} {m} {o} Ψ fs hk gd t ck) = ltb→lt o (length (code_of (method P c m))) t.here.inside

  pub order_room : {K : Machine} → Inv P E K → length (operands_of K) ≤ (body (code_at P K)).max_stack
  order_room (inv {c = c} {m} {vs = vs} Ψ fs hk gd t ck) = leb→le (length vs) (body (method P c m)).max_stack t.room

  pub order_asked : {K : Machine} → Inv P E K → T (are_asked P (heap_of K) (takes P (code_at P K) (instruction P (code_at P K) (offset_of K))) (operands_of K))
  order_asked (inv {H} {c} {m} {o} {q} {ls} {vs} {ks} Ψ fs hk gd t ck) = go t.slots t.here
    where
      go : {S : State} → Slots P (method P c m) Ψ (length ks) t.last q ls vs S → At P (method P c m) fs o S → T (are_asked P H (takes P (method P c m) (instruction P (method P c m) o)) vs)
      go (typed {g} {l} {s} f e x y) h =
          let n : Now P E = record { H = H; c = c; m = m; o = o; q = q; ls = ls; ks = ks; Ψ = Ψ; σ = t.last; g = g; l = l; s = s; fs = fs; heap = hk; checked = gd; calls = ck; flag = f; me = e; locals = x } in
          all_asked hk (pops L n (takes P (method P c m) (instruction P (method P c m) o)) (takes_same P (method P c m) o (instruction P (method P c m) o) (state g l s)) h.seen y)

  -- arraylength asks for an array of any kind
  array_object : (t : Ty) → T (is_array t) → T (fits P t object_ty)
  unfolding fits ref_fits
  array_object top h = absurd h
  array_object int h = absurd h
  array_object null h = tt
  array_object (ini (cls c)) h = absurd h
  array_object (ini (arr D)) h = eqb_refl 0
  array_object (uninit k) h = absurd h

  pub order_array : {K : Machine} → Inv P E K → instruction P (code_at P K) (offset_of K) ≡ arraylength → T (are_asked P (heap_of K) (object_ty ∷ []) (operands_of K))
  unfolding rule
  order_array (inv {H} {c} {m} {o} {q} {ls} {vs} {ks} Ψ fs hk gd t ck) e = go t.slots t.here
    where
      go : {S : State} → Slots P (method P c m) Ψ (length ks) t.last q ls vs S → At P (method P c m) fs o S → T (are_asked P H (object_ty ∷ []) vs)
      go (typed {g} {l} {s} f b x y) h =
          let n : Now P E = record { H = H; c = c; m = m; o = o; q = q; ls = ls; ks = ks; Ψ = Ψ; σ = t.last; g = g; l = l; s = s; fs = fs; heap = hk; checked = gd; calls = ck; flag = f; me = b; locals = x } in
          let a : Sees n arraylength = rw e at h.seen in
          on a.ask.0 (one L n a.count y)
        where
          on : {vs : List Val} → T (is_array (top_of s)) → Peeled (VT P (method P c m) Ψ (length ks) t.last) vs (top_of s) (drop 1 s) → T (are_asked P H (object_ty ∷ []) vs)
          on k (peeled z ts) = all_asked hk (pcons (fit L object_ty z (array_object (top_of s) k)) (pnil ts))

  pub good_next : {r : Result} {K : Machine} → Good P E r → r ≡ next K → Inv P E K
  good_next {K = K} (goes {K = K'} i) e = let z : K' ≡ K = cc in rw (← z) i
  good_next (ends x) e = let z : ◌≡◌ {A = ℕ} 0 1 = cc in absurd (omega arith)
  good_next full e = let z : ◌≡◌ {A = ℕ} 0 1 = cc in absurd (omega arith)
  good_next deep e = let z : ◌≡◌ {A = ℕ} 0 1 = cc in absurd (omega arith)

  pub good-stuck : {r : Result} → Good P E r → r ≡ stopped stuck → ⊥
  good-stuck (goes i) e = let z : ◌≡◌ {A = ℕ} 0 1 = cc in omega arith
  good-stuck (ends x) e = let z : ◌≡◌ {A = ℕ} 0 1 = cc in omega arith
  good-stuck full e = let z : ◌≡◌ {A = ℕ} 0 1 = cc in omega arith
  good-stuck deep e = let z : ◌≡◌ {A = ℕ} 0 1 = cc in omega arith

pub asked-length : (P : Program) (H : Heap) (us : List Ty) (vs : List Val) → T (are_asked P H us vs) → length us ≤ length vs
unfolding are_asked
asked-length P H [] vs h = omega arith
asked-length P H (u ∷ us) [] h = absurd h
asked-length P H (u ∷ us) (v ∷ vs) h = let i = asked-length P H us vs (second_of (is_asked P H u v) _ h) in omega arith

fits-made : (P : Program) (H : Heap) (t : Ref) (v : Val) → T (value_fits P H (dref t) v) → T (is_made H v)
fits-made P H t empty h = tt
fits-made P H t (num a) h = tt
fits-made P H t (ref zero) h = tt
fits-made P H t (ref (suc a)) h = first_of (ready_at H a) _ h

pub asked-made : (P : Program) (H : Heap) (us : List Ty) (vs : List Val) → T (are_asked P H us vs) → T (all_made H us vs)
unfolding are_asked is_asked all_made
asked-made P H [] vs h = tt
asked-made P H (u ∷ us) [] h = tt
asked-made P H (u ∷ us) (v ∷ vs) h = both_of (used_made H u v) _ (one_made u v (first_of (is_asked P H u v) _ h)) (asked-made P H us vs (second_of (is_asked P H u v) _ h))
  where
    one_made : (u : Ty) (v : Val) → T (is_asked P H u v) → T (used_made H u v)
    one_made top v h = tt
    one_made int empty h = absurd h
    one_made int (num a) h = tt
    one_made int (ref r) h = absurd h
    one_made null v h = fits-made P H (cls object) v h
    one_made (ini t) v h = fits-made P H t v h
    one_made (uninit k) v h = tt
