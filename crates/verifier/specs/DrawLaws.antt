-- Laws of frames as they are read: each form within the method's limits. Assumes nothing.
use Rattle.std.specs.Prelude.{ℕ, zero, suc, ◌+◌, ◌-◌, ◌^◌, ◌<◌, ◌≤◌, ◌≡◌, Result, Ok, Err, IfOk, IfErr, IsErrAnd, Bool, leb, length}
use Rattle.std.proofs.Common.{◌∙◌, inl, zero-add, length-append, refl, sym, ap, true, false, cond, List, [], ◌∷◌, ◌++◌, arith, take, take_at, le-leb}
use borrow.Author.Tests.{lt-leb}
use Rattle.kit.specs.Words.{word, put_word, word_same}
use Rattle.texts.specs.Reading.{Res, ok, bad, and_then, many}
use Rattle.texts.specs.Answers.{t_bad, t_stop}
use Rattle.texts.specs.Faults.{number}
use Rattle.texts.specs.declared.faults.Refusal.TheVariants.{FrameTable}
use Rattle.texts.specs.declared.faults.Got.{Got}
use Rattle.texts.specs.declared.faults.Fault as faults
use Rattle.rules.specs.Types.{Ty}
use Rattle.rules.specs.TypeWords.{type_of}
use Rattle.rules.specs.Slots.{slot, locals_at}
use Rattle.rules.specs.SlotLaws.{length_locals}
use Rattle.rules.specs.Frames.{Written, written, one_on_stack, appended, chopped}
use Rattle.verifier.specs.FrameReading.{type_at}
use Rattle.verifier.specs.FrameTypes.{Types}
use Rattle.verifier.specs.Besides.{Besides, besides_none, besides_put, besides_wide, besides_locals}
use Rattle.verifier.specs.CleanFaults.{clean, clean-fault, clean-then, clean-many, clean-type, many-length}
use Rattle.verifier.specs.Drawing.{drawing, written_in, list_in, stack_in, sized, one_by, append_by, chop_by, Drew}
use Rattle.rules.specs.declared.site.Site.{Site}
use Rattle.verifier.specs.declared.frame_reader.Drawn.{Drawn}

-- within the limits, or not
module _ (x : Site) (k e : ℕ) (w : Written) where
  size_ok : length w.locals ≤ x.locals → length w.stack ≤ x.stack → sized x k w e ≡ ok w e
  unfolding sized
  size_ok h l = rw (le-leb (length w.locals) x.locals h, le-leb (length w.stack) x.stack l)

  pub size_locals : x.locals < length w.locals → sized x k w e ≡ bad 14 k
  unfolding sized
  size_locals h = rw (lt-leb (length w.locals) x.locals h)

  pub size_stack : x.stack < length w.stack → sized x k w e ≡ bad 14 k
  unfolding sized
  size_stack h = rw (lt-leb (length w.stack) x.stack h) (go (leb (length w.locals) x.locals))
    where
      go : (b : Bool) → cond {A = Res Written} b (bad 14 k) (bad 14 k) ≡ bad 14 k
      go true = refl
      go false = refl

-- a form that has no other fault, and never fits
none_fits : (x : Site) (k : ℕ) (form : Res Written) → clean k form ≡ form → ((w : Written) (e : ℕ) → form ≡ ok w e → sized x k w e ≡ bad 14 k)
    → and_then form (sized x k) ≡ bad 14 k
unfolding and_then
none_fits x k form c h = go form refl c h
  where
    go : (r : Res Written) → r ≡ r → clean k r ≡ r → ((w : Written) (e : ℕ) → r ≡ ok w e → sized x k w e ≡ bad 14 k) → and_then r (sized x k) ≡ bad 14 k
    go (ok w e) p c h = h w e refl
    go (bad n q) p c h = sym c

-- what is asked of a result that is none
pub no_ok : {A : Type 0} (P : A → Type 0) (r : Result A faults.Fault) (e : faults.Fault) → IsErrAnd r (λ z. z ≡ e) → IfOk r P
no_ok P (Ok a) e p = absurd p
no_ok P (Err z) e p = tt

-- the fault of frame k, as it was handed on
pub handed_wrong : {A : Type 0} (k : ℕ) (r : Result A faults.Fault) (e : faults.Fault) → IsErrAnd r (λ z. z ≡ e) → (number e.0 ≡ 14) × (e.1 ≡ k) → IfErr r (λ z. (number z.0 ≡ 14) × (z.1 ≡ k))
handed_wrong k (Ok a) e p w = tt
handed_wrong k (Err z) e p w = rw p w

module _ (s t : List ℕ) (x : Site) (k : ℕ) (form : Res Written) where
  -- refused before all of it is read
  pub unfit_drew : (u : List ℕ) → and_then form (sized x k) ≡ bad 14 k → Besides 65184 64 t u → Drew s t x k form (Err (record { 0 = FrameTable; 1 = k })) u
  unfit_drew u h b = record { is = sym h; wrong = (refl, refl); besides = b; locals = tt; stack = tt }

  -- a fault in it that `?` hands on
  pub stop_drew : (r : Result (Got Drawn) faults.Fault) (e : faults.Fault) → IsErrAnd r (λ z. z ≡ e) → bad (number e.0) e.1 ≡ form → (number e.0 ≡ 14) × (e.1 ≡ k) → (u : List ℕ) → Besides 65184 64 t u → Drew s t x k form r u
  stop_drew r e p h w u b = record { is = t_stop (written_in u) form (sized x k) r e p h; wrong = handed_wrong k r e p w; besides = b; locals = no_ok _ r e p; stack = no_ok _ r e p }

  pub drawn_drew : (r : Got Drawn) (u : List ℕ) (d n m a : ℕ) → r ≡ drawing d n m a → form ≡ ok (written d (list_in u n) (stack_in u m)) a → n ≤ x.locals → m ≤ x.stack → Besides 65184 64 t u → Drew s t x k form (Ok r) u
  unfolding and_then
  drawn_drew r u d n m a z h l g b = rw z (record {
    is = sym (ap (λ (q : Res Written). and_then q (sized x k)) h ∙ size_ok x k a (written d (list_in u n) (stack_in u m)) (rw (length_locals u 65184 n) l) (rw (length_locals u 65216 m) g));
    wrong = tt;
    besides = b;
    locals = l;
    stack = g;
  })

-- ---- sizes of what is read
stack_size : Res Written → ℕ
stack_size (ok w e) = length w.stack
stack_size (bad n p) = 0

locals_size : Res Written → ℕ
locals_size (ok w e) = length w.locals
locals_size (bad n p) = 0

no_written : (n p : ℕ) (w : Written) (e : ℕ) → ◌≡◌ {A = Res Written} (bad n p) (ok w e) → ⊥
no_written n p w e h = let z : ◌≡◌ {A = ℕ} 0 1 = cc in absurd (omega arith)

one_size : (d : ℕ) (l : List Ty) (r : Res Ty) (w : Written) (e : ℕ) → and_then r (λ v a. ok (written d l (v ∷ [])) a) ≡ ok w e → length w.stack ≡ 1
unfolding and_then stack_size
one_size d l (ok v a) w e p = ap stack_size (sym p)
one_size d l (bad m c) w e p = absurd (no_written m c w e p)

more_size : (d : ℕ) (l : List Ty) (m : ℕ) (r : Res (List Ty)) → ((vs : List Ty) (e : ℕ) → r ≡ ok vs e → length vs ≡ m) → (w : Written) (e : ℕ)
    → and_then r (λ vs a. ok (written d (l ++ vs) []) a) ≡ ok w e → length w.locals ≡ length l + m
unfolding and_then locals_size
more_size d l m (ok vs a) h w e p = ap locals_size (sym p) ∙ length-append l vs ∙ ap (λ (n : ℕ). length l + n) (h vs a refl)
more_size d l m (bad n c) h w e p = absurd (no_written n c w e p)

-- ---- one operand
module _ (s t : List ℕ) (x : Site) (f : List ℕ) (k d n q : ℕ) where
  one_is : one_by s t x f k d n q ≡ and_then (type_at s t x f k q) λ v e. ok (written d (list_in t n) (v ∷ [])) e
  unfolding one_by one_on_stack type_at
  one_is = refl

  clean_one : clean k (one_by s t x f k d n q) ≡ one_by s t x f k d n q
  clean_one = rw one_is (clean-then k (type_at s t x f k q) _ (clean-type k s t x f q) (λ v e. refl))

  pub one_none : x.stack < 1 → Drew s t x k (one_by s t x f k d n q) (Err (record { 0 = FrameTable; 1 = k })) t
  one_none h =
      unfit_drew s t x k _ t
      (none_fits x k (one_by s t x f k d n q) clean_one
      (λ w e p. size_stack x k e w (let y : length w.stack ≡ 1 = one_size d (list_in t n) (type_at s t x f k q) w e (sym one_is ∙ p) in omega arith)))
      (besides_none 65184 64 t)

  pub one_bad : (r : Result (Got Drawn) faults.Fault) (e : faults.Fault) → IsErrAnd r (λ z. z ≡ e) → bad (number e.0) e.1 ≡ type_at s t x f k q → Drew s t x k (one_by s t x f k d n q) r t
  one_bad r e p h =
      stop_drew s t x k _ r e p (t_bad _ (type_at s t x f k q) _ (number e.0) e.1 h refl ∙ sym one_is) (clean-fault k (type_at s t x f k q) (clean-type k s t x f q) (number e.0) e.1 h) t (besides_none 65184 64 t)

  pub one_good : (j a : ℕ) → ok (type_of j) a ≡ type_at s t x f k q → (r : Got Drawn) (u : List ℕ) → r ≡ drawing d n 1 a → u ≡ put_word t 65216 j → j < 2 ^ 32 → n ≤ x.locals → n ≤ 32 → 1 ≤ x.stack → 262144 ≤ length t
      → Drew s t x k (one_by s t x f k d n q) (Ok r) u
  unfolding and_then locals_at slot
  one_good j a h r u z eu v l l32 g b =
      let o : Besides 65216 1 t u = rw eu (besides_put 65216 1 65216 j t t (omega arith) (omega arith) (besides_none 65216 1 t)) in
      let e : list_in u n ≡ list_in t n = besides_locals 65216 1 t u o 65184 n (inl (omega arith)) in
      let i : word u 65216 ≡ j = ap (λ (y : List ℕ). word y 65216) eu ∙ word_same t 65216 j (omega arith) v in
      drawn_drew s t x k _ r u d n 1 a z
      (one_is ∙ rw (← h, ← e, ← i))
      l g (besides_wide 65216 1 65184 64 t u (omega arith) (omega arith) o)

-- ---- m locals more
locals-append : (t : List ℕ) (w n m : ℕ) → locals_at t w (n + m) ≡ locals_at t w n ++ locals_at t (w + n) m
unfolding locals_at
locals-append t w zero m = let z : w ≡ w + 0 = omega arith in rw (zero-add m) (ap (λ (j : ℕ). locals_at t j m) z)
locals-append t w (suc n) m =
    let z : suc n + m ≡ suc (n + m) = omega arith in
    let y : suc w + n ≡ w + suc n = omega arith in
    ap (locals_at t w) z ∙ ap (λ (l : List Ty). slot t w ∷ l) (locals-append t (suc w) n m ∙ ap (λ (j : ℕ). locals_at t (suc w) n ++ locals_at t j m) y)

module _ (s t : List ℕ) (x : Site) (f : List ℕ) (k d m n q : ℕ) where
  append_is : append_by s t x f k d m n q ≡ and_then (many (type_at s t x f k) m q) λ vs e. ok (written d (list_in t n ++ vs) []) e
  unfolding append_by appended type_at
  append_is = refl

  clean-append : clean k (append_by s t x f k d m n q) ≡ append_by s t x f k d m n q
  clean-append = rw append_is (clean-then k (many (type_at s t x f k) m q) _ (clean-many k (type_at s t x f k) (λ j. clean-type k s t x f j) m q) (λ v e. refl))

  pub append_none : x.locals < n + m → Drew s t x k (append_by s t x f k d m n q) (Err (record { 0 = FrameTable; 1 = k })) t
  append_none h =
      unfit_drew s t x k _ t
      (none_fits x k (append_by s t x f k d m n q) clean-append
      (λ w e p. size_locals x k e w
      (let y : length w.locals ≡ length (list_in t n) + m = more_size d (list_in t n) m (many (type_at s t x f k) m q) (λ vs c o. many-length (type_at s t x f k) m q vs c o) w e (sym append_is ∙ p) in
      omega (arith, length_locals t 65184 n))))
      (besides_none 65184 64 t)

  module _ (u : List ℕ) (g : n + m ≤ 32) where
    wider : (a : Result ℕ faults.Fault) → Types s t x f k m (65184 + n) q a u → Besides 65184 64 t u
    wider a y = besides_wide (65184 + n) m 65184 64 t u (omega arith) (omega arith) y.besides

    pub append_bad : (r : Result (Got Drawn) faults.Fault) (e : faults.Fault) → IsErrAnd r (λ z. z ≡ e) → Types s t x f k m (65184 + n) q (Err e) u → Drew s t x k (append_by s t x f k d m n q) r u
    append_bad r e p y =
        stop_drew s t x k _ r e p (t_bad _ (many (type_at s t x f k) m q) _ (number e.0) e.1 y.is refl ∙ sym append_is)
        (clean-fault k (many (type_at s t x f k) m q) (clean-many k (type_at s t x f k) (λ j. clean-type k s t x f j) m q) (number e.0) e.1 y.is) u (wider (Err e) y)

    pub append-good : (a : ℕ) → Types s t x f k m (65184 + n) q (Ok a) u → (r : Got Drawn) → r ≡ drawing d (n + m) 0 a → n + m ≤ x.locals → Drew s t x k (append_by s t x f k d m n q) (Ok r) u
    unfolding and_then locals_at
    append-good a y r z l =
        let b : many (type_at s t x f k) m q ≡ ok (locals_at u (65184 + n) m) a = sym y.is in
        let e : list_in u n ≡ list_in t n = besides_locals (65184 + n) m t u y.besides 65184 n (inl (omega arith)) in
        let j : list_in u (n + m) ≡ list_in t n ++ locals_at u (65184 + n) m = locals-append u 65184 n m ∙ ap (λ (i : List Ty). i ++ locals_at u (65184 + n) m) e in
        drawn_drew s t x k _ r u d (n + m) 0 a z (append_is ∙ rw (b, ← j)) l (omega arith) (wider (Ok a) y)

-- ---- the last m are dropped
module _ (s t : List ℕ) (x : Site) (f : List ℕ) (k d m n e : ℕ) where
  pub chop_none : n < m → Drew s t x k (chop_by s t x f k d m n e) (Err (record { 0 = FrameTable; 1 = k })) t
  unfolding chop_by chopped and_then
  chop_none h =
      unfit_drew s t x k _ t (rw (length_locals t 65184 n, lt-leb m n h)) (besides_none 65184 64 t)

  pub chop_good : (r : Got Drawn) → r ≡ drawing d (n - m) 0 e → m ≤ n → n ≤ x.locals → Drew s t x k (chop_by s t x f k d m n e) (Ok r) t
  unfolding chop_by chopped locals_at
  chop_good r z h l =
      let y : n ≡ n - m + m = omega arith in
      let j : take (n - m) (list_in t n) ≡ list_in t (n - m) =
      ap (λ (i : ℕ). take (n - m) (list_in t i)) y ∙ ap (take (n - m)) (locals-append t 65184 (n - m) m)
      ∙ take_at (list_in t (n - m)) (locals_at t (65184 + (n - m)) m) (n - m) (length_locals t 65184 (n - m)) in
      drawn_drew s t x k _ r t d (n - m) 0 e z (rw (length_locals t 65184 n, le-leb m n h, ← j)) (omega arith) (omega arith) (besides_none 65184 64 t)
