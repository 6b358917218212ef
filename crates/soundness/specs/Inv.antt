-- The invariant of a run, and how each way on keeps it.
use Rattle.std.specs.Prelude.{ℕ, suc, ◌+◌, ◌≤◌, Bool, not, leb}
use Rattle.std.proofs.Math.Path.{◌≡◌, refl}
use Rattle.std.proofs.Math.Bool.{true, false, cond}
use mathlib.Core.List.{List, [], ◌∷◌, ◌++◌}
use Rattle.std.proofs.Math.Option.{Option, none, some}
use Rattle.std.proofs.Common.{arith}
use Rattle.std.proofs.Math.ListN.{length}
use Rattle.std.proofs.Math.Dec.{T, eqb→eq, le→leb}
use Rattle.kit.specs.Claims.{AllT}
use Rattle.classfiles.specs.Descriptors.{Ref, cls, Desc}
use Rattle.classfiles.specs.Members.{Handler}
use Rattle.reader.specs.Program.{Program, Method, method, below}
use Rattle.rules.specs.Opcodes.{body, code_of, size_at}
use Rattle.rules.specs.Lines.{Line}
use Rattle.rules.specs.Shape.{catch_class}
use Rattle.rules.specs.Types.{Key, self, Ty, ini, ref_fits}
use Rattle.rules.specs.States.{State, state, stack, slots_fit, state_fits}
use Rattle.rules.specs.Frames.{Frame}
use Rattle.rules.specs.Walk.{frame_at, into_frame, covers, handler_claims, handlers_claims, walk, walk_claims}
use Rattle.plain.specs.Heap.{Heap, Val, ref}
use Rattle.plain.specs.Machine.{Call, call, Machine, machine, End, heap_full, depth_full, Result, next, ended, stopped, only, catcher, Landing, nowhere, landing, landing_at, land}
use Rattle.facts.specs.Base.{first_of, second_of, guarded, AllT-left, AllT-right, same_truth}
use Rattle.facts.specs.Classes.{Link}
use Rattle.soundness.specs.Pairs.{All2, anil, acons, all2_map, all2_length}
use Rattle.soundness.specs.Demand3.{EndOk}
use Rattle.soundness.specs.Tables.{Table, found_stands}
use Rattle.soundness.specs.Typing.{ready, hty, HTys, VD, VT, vini, Keeps, keeps-down, keeps_self, keeps_then, keep_vt, fit_all}
use Rattle.soundness.specs.Blocks.{HOK}
use Rattle.soundness.specs.Walk.{Lined, Into, same, fitted, fallen, leap}
use Rattle.soundness.specs.Walk.{Here as At}

-- what typing has shown of a method
pub record Checked (P : Program) (M : Method) (fs : List Frame) : Type 0 where
  pub claims : AllT (walk_claims P M fs)
  pub table : Table P M fs
  pub single : length M.results ≤ 1

-- a call with the receiver q may return: a constructor has made it
pub data Done (Ψ : HTys) : ℕ → Type 0 where
  dnone : Done Ψ 0
  dself : {a : ℕ} (t : Ref) → Ψ a ≡ some (hty t ready) → Done Ψ (suc a)

pub data FlagOK (Ψ : HTys) (q : ℕ) : Bool → Type 0 where
  fset : FlagOK Ψ q true
  fclr : Done Ψ q → FlagOK Ψ q false

-- the receiver of a constructor is its uninitialised object `self`
pub data Me (σ : Key → ℕ) : ℕ → Type 0 where
  nobody : Me σ 0
  someone : Me σ (suc (σ self))

-- the slots of a call have the types of the state
pub data Slots (P : Program) (M : Method) (Ψ : HTys) (d : ℕ) (σ : Key → ℕ) (q : ℕ) (ls vs : List Val) : State → Type 0 where
  typed : {g : Bool} {l s : List Ty} → FlagOK Ψ q g → Me σ q → All2 (VT P M Ψ d σ) ls l → All2 (VT P M Ψ d σ) vs s → Slots P M Ψ d σ q ls vs (state g l s)

-- a call that may go on, with d calls below it
pub record Top (P : Program) (Ψ : HTys) (d : ℕ) (M : Method) (fs : List Frame) (o q : ℕ) (ls vs : List Val) : Type 0 where
  pub last : Key → ℕ
  pub state : State
  pub slots : Slots P M Ψ d last q ls vs state
  pub here : At P M fs o state
  pub room : T (leb (length vs) (body M).max_stack)

-- what is thrown in a call goes on in the handler that catches it
pub record Catches (P : Program) (Ψ : HTys) (d : ℕ) (M : Method) (fs : List Frame) (o q : ℕ) (ls : List Val) : Type 0 where
  pub room : (c t : ℕ) → catcher P M o c (body M).table ≡ some t → T (leb 1 (body M).max_stack)
  pub lands : (c t : ℕ) → catcher P M o c (body M).table ≡ some t → (a : ℕ) → Ψ a ≡ some (hty (cls c) ready) → Top P Ψ d M fs t q ls (ref (suc a) ∷ [])

-- a call that waits: it may go on with the results, or with what is thrown, whatever those above did with what they made
pub record Waits (P : Program) (Ψ : HTys) (d : ℕ) (M : Method) (fs : List Frame) (o q : ℕ) (ls vs : List Val) (Rs : List Desc) (q' : ℕ) : Type 0 where
  pub back : (Ψ' : HTys) → Keeps (suc d) Ψ Ψ' → (rs : List Val) → All2 (VD P Ψ') rs Rs → Done Ψ' q' → Top P Ψ' d M fs (o + size_at (code_of M) o) q ls (rs ++ vs)
  pub catch : (Ψ' : HTys) → Keeps (suc d) Ψ Ψ' → Catches P Ψ' d M fs o q ls

pub data Calls (P : Program) (Ψ : HTys) (E : List Desc) : List Call → List Desc → ℕ → Type 0 where
  cnil : {q : ℕ} → Calls P Ψ E [] E q
  ccons : {c m o q : ℕ} {ls vs : List Val} {ks : List Call} {Rs : List Desc} {q' : ℕ} (fs : List Frame) → Waits P Ψ (length ks) (method P c m) fs o q ls vs Rs q' → Checked P (method P c m) fs
      → Calls P Ψ E ks (method P c m).results q → Calls P Ψ E (call c m o q ls vs ∷ ks) Rs q'

pub data Inv (P : Program) (E : List Desc) : Machine → Type 0 where
  inv : {H : Heap} {c m o q : ℕ} {ls vs : List Val} {ks : List Call} (Ψ : HTys) (fs : List Frame) → HOK P Ψ H → Checked P (method P c m) fs
      → Top P Ψ (length ks) (method P c m) fs o q ls vs → Calls P Ψ E ks (method P c m).results q → Inv P E (machine H (call c m o q ls vs) ks)

-- what a step may give
pub data Good (P : Program) (E : List Desc) : Result → Type 0 where
  goes : {K : Machine} → Inv P E K → Good P E (next K)
  ends : {e : End} {H : Heap} → EndOk P E H e → Good P E (ended e H)
  full : Good P E (stopped heap_full)
  deep : Good P E (stopped depth_full)

module _ {P : Program} {E : List Desc} where
  pub only_ok : (b : Bool) {r : Result} → T b → Good P E r → Good P E (only b r)
  only_ok true t g = g
  only_ok false t g = absurd t

  pub cond_ok : (b : Bool) {r q : Result} → (T b → Good P E r) → ((T b → ⊥) → Good P E q) → Good P E (cond b r q)
  cond_ok true g k = g tt
  cond_ok false g k = k (λ t. t)

pub keep_done : {Ψ Ψ' : HTys} {d q : ℕ} → Keeps d Ψ Ψ' → Done Ψ q → Done Ψ' q
keep_done k dnone = dnone
keep_done k (dself {a} t p) = dself t (k.kept a t ready tt p)

pub keep_flag : {Ψ Ψ' : HTys} {d q : ℕ} {g : Bool} → Keeps d Ψ Ψ' → FlagOK Ψ q g → FlagOK Ψ' q g
keep_flag k fset = fset
keep_flag k (fclr x) = fclr (keep_done k x)

pub keep_slots : {P : Program} {Ψ Ψ' : HTys} {M : Method} {e q : ℕ} {σ : Key → ℕ} {ls vs : List Val} {S : State} → Keeps (suc e) Ψ Ψ' → Slots P M Ψ e σ q ls vs S → Slots P M Ψ' e σ q ls vs S
keep_slots k (typed f s x y) = typed (keep_flag k f) s (all2_map (λ v t z. keep_vt k z) x) (all2_map (λ v t z. keep_vt k z) y)

pub calls_keep : {P : Program} {Ψ Ψ' : HTys} {E Rs : List Desc} {q : ℕ} {ks : List Call} → Calls P Ψ E ks Rs q → Keeps (length ks) Ψ Ψ' → Calls P Ψ' E ks Rs q
calls_keep cnil k = cnil
calls_keep (ccons {ks = ks} fs w g cs) k =
    ccons fs (record { back = λ Ψ'' k' rs x y. w.back Ψ'' (keeps_then k k') rs x y; catch = λ Ψ'' k'. w.catch Ψ'' (keeps_then k k') }) g
    (calls_keep cs (keeps-down (length ks) (suc (length ks)) (omega arith) k))

-- as many operands as the state has
slots_room : {P : Program} {M : Method} {Ψ : HTys} {d : ℕ} {σ : Key → ℕ} {q : ℕ} {ls vs : List Val} {S : State} (n : ℕ) → Slots P M Ψ d σ q ls vs S → T (leb (length (stack S)) n) → T (leb (length vs) n)
slots_room n (typed f e x y) r = rw (all2_length y) r

module _ {P : Program} (L : Link P) where
  pub slots_into : {M : Method} {Ψ : HTys} {d : ℕ} {σ : Key → ℕ} {q : ℕ} {ls vs : List Val} {S S' : State} → Slots P M Ψ d σ q ls vs S → Into P S S' → Slots P M Ψ d σ q ls vs S'
  unfolding state_fits
  slots_into x same = x
  slots_into (typed {g} {l} {s} f e x y) (fitted {F = state g' l' s'} h) =
      typed {g = g'} (rw (← same_truth g g' h.0) f) e (fit_all L l' x (AllT-left (slots_fit P l l') _ h.1.1)) (fit_all L s' y (AllT-right (slots_fit P l l') _ h.1.1))

  module _ {M : Method} {fs : List Frame} (gd : Checked P M fs) where
    -- a frame that is meant stands at an instruction
    leaps : (S : State) (t : ℕ) → AllT (into_frame P S (frame_at fs t)) → (F : State) × AllT (state_fits P S F) × (frame_at fs t ≡ some F) × At P M fs t F
    leaps S t j = leap P M fs gd.claims S t (λ F e. (found_stands gd.table t F e).start) j

    -- on to the next offset, or to a frame's
    pub arrive : {Ψ : HTys} {d q n : ℕ} {ls vs : List Val} {σ : Key → ℕ} {S : State} (rest : List Line) → Lined P M n rest → AllT (walk P M fs rest (some S))
        → T (leb (length (stack S)) (body M).max_stack) → Slots P M Ψ d σ q ls vs S → Top P Ψ d M fs n q ls vs
    arrive {n = n} {σ = σ} {S = S} rest lk w rm x =
        let z : (S' : State) × Into P S S' × At P M fs n S' = fallen P M fs S n rest lk w in
        record { last = σ; state = z.0; slots = slots_into x z.1; here = z.2; room = slots_room (body M).max_stack x rm }

    pub alight : {Ψ : HTys} {d q : ℕ} (t : ℕ) {ls vs : List Val} {σ : Key → ℕ} {S : State} → AllT (into_frame P S (frame_at fs t))
        → T (leb (length (stack S)) (body M).max_stack) → Slots P M Ψ d σ q ls vs S → Top P Ψ d M fs t q ls vs
    alight t {σ = σ} {S = S} j rm x =
        let z = leaps S t j in
        record { last = σ; state = z.0; slots = slots_into x (fitted z.1); here = z.3; room = slots_room (body M).max_stack x rm }

    -- a handler's frame has room for what is caught
    caught_room : (l : List Ty) (u : Ty) (t : ℕ) → AllT (into_frame P (state false l (u ∷ [])) (frame_at fs t)) → T (leb 1 (body M).max_stack)
    unfolding state_fits
    caught_room l u t j = let z = leaps (state false l (u ∷ [])) t j in go z.0 z.1 (found_stands gd.table t z.0 z.2).deep
      where
        go : (F : State) → AllT (state_fits P (state false l (u ∷ [])) F) → length (stack F) ≤ (body M).max_stack → T (leb 1 (body M).max_stack)
        go (state g l' s') a b = let e : 1 ≡ length s' = eqb→eq 1 (length s') a.1.0 in le→leb 1 (body M).max_stack (omega arith)

    -- the handlers of an instruction
    module _ (o : ℕ) {Ψ : HTys} {d q : ℕ} {σ : Key → ℕ} {ls : List Val} {l : List Ty} (g : Bool) (fl : FlagOK Ψ q g) (me : Me σ q) (tl : All2 (VT P M Ψ d σ) ls l) where
      clear : (g : Bool) → T (not g) → FlagOK Ψ q g → FlagOK Ψ q false
      clear true h f = absurd h
      clear false h f = f

      -- the entry that catches, of those whose claims hold
      record Entry (c t : ℕ) : Type 0 where
        pub caught : ℕ
        pub clear' : T (not g)
        pub into : AllT (into_frame P (state false l (ini (cls caught) ∷ [])) (frame_at fs t))
        pub above : T (below P c caught)

      entry : (hs : List Handler) → AllT (handlers_claims P M fs o g l hs) → (c t : ℕ) → catcher P M o c hs ≡ some t → Entry c t
      unfolding handlers_claims catcher catch_class
      entry [] a c t e = let z : ◌≡◌ {A = ℕ} 0 1 = cc in absurd (omega arith)
      entry (h ∷ hs) a c t e = go (λ e. entry hs (AllT-right (handler_claims P M fs o g l h) _ a) c t e) (cond (covers o h) (below P c (catch_class P M h)) false) refl e
        where
          go : (catcher P M o c hs ≡ some t → Entry c t) → (b : Bool) → cond (covers o h) (below P c (catch_class P M h)) false ≡ b → cond b (some h.target) (catcher P M o c hs) ≡ some t → Entry c t
          go ih false e₁ e = ih e
          go ih true e₁ e =
              let x : T (cond (covers o h) (below P c (catch_class P M h)) false) = rw e₁ tt in
              let z : h.target ≡ t = cc in
              let b = guarded (covers o h) _ (AllT-left (handler_claims P M fs o g l h) _ a) (first_of (covers o h) _ x) in
              record { caught = catch_class P M h; clear' = b.0; into = rw z at b.1; above = second_of (covers o h) _ x }

      pub catches : AllT (handlers_claims P M fs o g l (body M).table) → Catches P Ψ d M fs o q ls
      unfolding ref_fits
      catches a = record {
        room = λ c t e. let x = entry (body M).table a c t e in caught_room l (ini (cls x.caught)) t x.into;
        lands = λ c t e b p. let x = entry (body M).table a c t e in
            alight t {σ = σ} {S = state false l (ini (cls x.caught) ∷ [])} x.into (caught_room l (ini (cls x.caught)) t x.into) (typed (clear g x.clear' fl) me tl (acons (vini {a = b} (cls c) p x.above) anil));
      }

-- where a thrown object of the class c lands, whatever is made for it
pub data Lands (P : Program) (Ψ : HTys) (E : List Desc) (c : ℕ) : Landing → Type 0 where
  lost : Lands P Ψ E c nowhere
  held : {k m t q : ℕ} {ls : List Val} {ks : List Call} (fs : List Frame) → T (leb 1 (body (method P k m)).max_stack) → Checked P (method P k m) fs
      → ((Ψ' : HTys) → ((d : ℕ) → Keeps d Ψ Ψ') → (a : ℕ) → Ψ' a ≡ some (hty (cls c) ready) → Top P Ψ' (length ks) (method P k m) fs t q ls (ref (suc a) ∷ []))
      → Calls P Ψ E ks (method P k m).results q → Lands P Ψ E c (landing (call k m t q ls []) ks)

module _ {P : Program} {E : List Desc} {Ψ : HTys} (c : ℕ) where
  pub landing_ok : (k m : ℕ) {o q : ℕ} {ls : List Val} (vs : List Val) {ks : List Call} (fs : List Frame) → Checked P (method P k m) fs → ((Ψ' : HTys) → Keeps (suc (length ks)) Ψ Ψ' → Catches P Ψ' (length ks) (method P k m) fs o q ls)
      → Calls P Ψ E ks (method P k m).results q → Lands P Ψ E c (land P c ks) → Lands P Ψ E c (land P c (call k m o q ls vs ∷ ks))
  unfolding land
  landing_ok k m {o} {q} {ls} vs {ks = ks} fs g w cs r = go (catcher P (method P k m) o c (body (method P k m)).table) refl
    where
      go : (t : Option ℕ) → catcher P (method P k m) o c (body (method P k m)).table ≡ t → Lands P Ψ E c (landing_at t (call k m o q ls vs) ks (land P c ks))
      go none e = r
      go (some t) e = held fs ((w Ψ (keeps_self (suc (length ks)) Ψ)).room c t e) g (λ Ψ' kp a p. (w Ψ' (kp (suc (length ks)))).lands c t e a p) cs

  pub lands : {Rs : List Desc} {q : ℕ} {ks : List Call} → Calls P Ψ E ks Rs q → Lands P Ψ E c (land P c ks)
  unfolding land
  lands cnil = lost
  lands (ccons {c = k} {m} {vs = vs} fs w g cs) = landing_ok k m vs fs g w.catch cs (lands cs)
