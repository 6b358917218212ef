-- Laws of a full frame: counts past the limits refuse it before its types are read. Assumes nothing.
use Rattle.std.specs.Prelude.{ℕ, ◌<◌, ◌≤◌, ◌≡◌, Result, Ok, Err, IsErrAnd, length}
use Rattle.std.proofs.Common.{◌∙◌, inl, inr, arith, refl, sym, ap, List}
use Rattle.texts.specs.Reading.{Res, ok, bad, and_then, many, num2_at}
use Rattle.texts.specs.Answers.{t_bad}
use Rattle.texts.specs.Faults.{number}
use Rattle.texts.specs.declared.faults.Refusal.TheVariants.{FrameTable}
use Rattle.texts.specs.declared.faults.Got.{Got}
use Rattle.texts.specs.declared.faults.Fault as faults
use Rattle.rules.specs.Types.{Ty}
use Rattle.rules.specs.Lines.{lines}
use Rattle.rules.specs.Frames.{Written, written, number_at, info_at, full_at}
use Rattle.rules.specs.Sites.{front, program_at, method_at}
use Rattle.shaping.specs.Marks.{lines_at}
use Rattle.verifier.specs.FrameReading.{type_at, Readable}
use Rattle.verifier.specs.FrameTypes.{Types}
use Rattle.verifier.specs.Besides.{Besides, besides_none, besides_then, besides_wide, besides_locals, besides_front, besides_readable}
use Rattle.verifier.specs.CleanFaults.{clean, clean-fault, clean-number, clean-many, clean-type, many-length}
use Rattle.verifier.specs.Drawing.{drawing, list_in, stack_in, sized, full_by, Drew}
use Rattle.verifier.specs.DrawLaws.{unfit_drew, stop_drew, size_locals, size_stack, drawn_drew}
use Rattle.rules.specs.declared.site.Site.{Site}
use Rattle.verifier.specs.declared.frame_reader.Drawn.{Drawn}
use Rattle.verifier.specs.FrameForms.{count_by, rest_by, stack_by}
use Rattle.verifier.specs.Refusals.{then-then, then_bad}

module _ (s t : List ℕ) (x : Site) (f : List ℕ) (k : ℕ) where
  pub clean-count : (q : ℕ) → clean k (count_by s t x f k q) ≡ count_by s t x f k q
  unfolding count_by
  clean-count q = clean-number k s t x f q

  clean_types : (n q : ℕ) → clean k (many (type_at s t x f k) n q) ≡ many (type_at s t x f k) n q
  clean_types n q = clean-many k (type_at s t x f k) (λ j. clean-type k s t x f j) n q

  -- a count that cannot be read, types that cannot
  pub cut_fault : (q n p : ℕ) → bad n p ≡ num2_at f (length f) 14 k q → (n ≡ 14) × (p ≡ k)
  unfolding number_at
  cut_fault q n p h = clean-fault k (number_at (program_at s (front t) x) (method_at s (front t) x) (lines_at s t x) f k q) (clean-number k s t x f q) n p h

  types_fault : (m q n p : ℕ) → bad n p ≡ many (type_at s t x f k) m q → (n ≡ 14) × (p ≡ k)
  types_fault m q n p h = clean-fault k (many (type_at s t x f k) m q) (clean_types m q) n p h

  -- the count that the code has read
  pub count_is : (q m c : ℕ) → ok m c ≡ num2_at f (length f) 14 k q → count_by s t x f k q ≡ ok m c
  unfolding count_by number_at
  count_is q m c h = sym h

  pub count_cut : (q n p : ℕ) → bad n p ≡ num2_at f (length f) 14 k q → count_by s t x f k q ≡ bad n p
  unfolding count_by number_at
  count_cut q n p h = sym h

  -- locals past their limit, whatever follows them
  long_locals : (d : ℕ) (l : List Ty) (q : ℕ) → x.locals < length l → and_then (rest_by s t x f k d l q) (sized x k) ≡ bad 14 k
  unfolding rest_by and_then
  long_locals d l q h =
      then-then (count_by s t x f k q) _ (sized x k)
      ∙ then_bad k (count_by s t x f k q) _ (clean-count q)
      (λ m c p. then-then (many (type_at s t x f k) m c) _ (sized x k) ∙ then_bad k (many (type_at s t x f k) m c) _ (clean_types m c) (λ v e o. size_locals x k e (written d l v) h))

  -- of the scratch only its front is asked
  rest-front : (u : List ℕ) → front u ≡ front t → (d : ℕ) (l : List Ty) (q : ℕ) → rest_by s u x f k d l q ≡ rest_by s t x f k d l q
  unfolding rest_by count_by type_at lines_at
  rest-front u z d l q =
      ap
      (λ (p : List ℕ). and_then (number_at (program_at s p x) (method_at s p x) (lines (program_at s p x) (method_at s p x)) f k q) λ m c. and_then (many (info_at (program_at s p x) (method_at s p x) (lines (program_at s p x) (method_at s p x)) f k) m c) λ v e. ok (written d l v) e)
      z

  -- ---- the operands
  module _ (d n q : ℕ) where
    pub stack-cut : (r : Result (Got Drawn) faults.Fault) (e : faults.Fault) → IsErrAnd r (λ z. z ≡ e) → bad (number e.0) e.1 ≡ num2_at f (length f) 14 k q → Drew s t x k (stack_by s t x f k d n q) r t
    unfolding stack_by rest_by count_by number_at
    stack-cut r e p h = stop_drew s t x k _ r e p (t_bad _ _ _ (number e.0) e.1 h refl) (cut_fault q (number e.0) e.1 h) t (besides_none 65184 64 t)

    module _ (m c : ℕ) (hm : ok m c ≡ num2_at f (length f) 14 k q) where
      stack_is : stack_by s t x f k d n q ≡ and_then (many (type_at s t x f k) m c) λ v e. ok (written d (list_in t n) v) e
      unfolding stack_by rest_by and_then
      stack_is = rw (count_is q m c hm)

      stack_bad : ((v : List Ty) (e : ℕ) → many (type_at s t x f k) m c ≡ ok v e → sized x k (written d (list_in t n) v) e ≡ bad 14 k)
          → and_then (stack_by s t x f k d n q) (sized x k) ≡ bad 14 k
      unfolding and_then
      stack_bad h =
          ap (λ (w : Res Written). and_then w (sized x k)) stack_is
          ∙ then-then (many (type_at s t x f k) m c) _ (sized x k)
          ∙ then_bad k (many (type_at s t x f k) m c) _ (clean_types m c) h

      pub stack-many : x.stack < m → Drew s t x k (stack_by s t x f k d n q) (Err (record { 0 = FrameTable; 1 = k })) t
      stack-many h =
          unfit_drew s t x k _ t
          (stack_bad (λ v e p. size_stack x k e (written d (list_in t n) v) (let c : length v ≡ m = many-length (type_at s t x f k) m c v e p in omega arith)))
          (besides_none 65184 64 t)

      module _ (u : List ℕ) (l : m ≤ 32) where
        operands-only : (a : Result ℕ faults.Fault) → Types s t x f k m 65216 c a u → Besides 65184 64 t u
        operands-only a g = besides_wide 65216 m 65184 64 t u (omega arith) (omega arith) g.besides

        pub stack_wrong : (r : Result (Got Drawn) faults.Fault) (e : faults.Fault) → IsErrAnd r (λ z. z ≡ e) → Types s t x f k m 65216 c (Err e) u → Drew s t x k (stack_by s t x f k d n q) r u
        stack_wrong r e p g = stop_drew s t x k _ r e p (t_bad _ _ _ (number e.0) e.1 g.is refl ∙ sym stack_is) (types_fault m c (number e.0) e.1 g.is) u (operands-only (Err e) g)

        pub stack-good : (a : ℕ) → Types s t x f k m 65216 c (Ok a) u → (r : Got Drawn) → r ≡ drawing d n m a → n ≤ x.locals → n ≤ 32 → m ≤ x.stack → Drew s t x k (stack_by s t x f k d n q) (Ok r) u
        unfolding and_then
        stack-good a g r z i j w =
            let b : many (type_at s t x f k) m c ≡ ok (stack_in u m) a = sym g.is in
            let e : list_in u n ≡ list_in t n = besides_locals 65216 m t u g.besides 65184 n (inl (omega arith)) in
            drawn_drew s t x k _ r u d n m a z (stack_is ∙ rw (b, ← e)) i w (operands-only (Ok a) g)

  -- ---- the locals
  module _ (d q : ℕ) where
    full_is : full_by s t x f k d q ≡ and_then (count_by s t x f k q) λ j a. and_then (many (type_at s t x f k) j a) λ l b. rest_by s t x f k d l b
    unfolding full_by full_at rest_by count_by type_at
    full_is = refl

    pub full_cut : (r : Result (Got Drawn) faults.Fault) (e : faults.Fault) → IsErrAnd r (λ z. z ≡ e) → bad (number e.0) e.1 ≡ num2_at f (length f) 14 k q → Drew s t x k (full_by s t x f k d q) r t
    unfolding count_by number_at
    full_cut r e p h = stop_drew s t x k _ r e p (t_bad _ _ _ (number e.0) e.1 h refl ∙ sym full_is) (cut_fault q (number e.0) e.1 h) t (besides_none 65184 64 t)

    module _ (n c : ℕ) (hn : ok n c ≡ num2_at f (length f) 14 k q) where
      full_on : full_by s t x f k d q ≡ and_then (many (type_at s t x f k) n c) λ l b. rest_by s t x f k d l b
      unfolding and_then
      full_on = full_is ∙ rw (count_is q n c hn)

      full_bad : ((l : List Ty) (e : ℕ) → many (type_at s t x f k) n c ≡ ok l e → and_then (rest_by s t x f k d l e) (sized x k) ≡ bad 14 k)
          → and_then (full_by s t x f k d q) (sized x k) ≡ bad 14 k
      full_bad h =
          ap (λ (w : Res Written). and_then w (sized x k)) full_on
          ∙ then-then (many (type_at s t x f k) n c) _ (sized x k)
          ∙ then_bad k (many (type_at s t x f k) n c) _ (clean_types n c) h

      pub full_many : x.locals < n → Drew s t x k (full_by s t x f k d q) (Err (record { 0 = FrameTable; 1 = k })) t
      full_many h =
          unfit_drew s t x k _ t
          (full_bad (λ l e p. long_locals d l e (let c : length l ≡ n = many-length (type_at s t x f k) n c l e p in omega arith)))
          (besides_none 65184 64 t)

      module _ (u : List ℕ) (l : n ≤ 32) where
        locals-only : (a : Result ℕ faults.Fault) → Types s t x f k n 65184 c a u → Besides 65184 64 t u
        locals-only a g = besides_wide 65184 n 65184 64 t u (omega arith) (omega arith) g.besides

        pub full_ready : (a : Result ℕ faults.Fault) → Types s t x f k n 65184 c a u → Readable s t x → Readable s u x
        full_ready a g h = besides_readable 65184 n t u g.besides (omega arith) s x (inr (omega arith)) h

        pub full_wrong : (r : Result (Got Drawn) faults.Fault) (e : faults.Fault) → IsErrAnd r (λ z. z ≡ e) → Types s t x f k n 65184 c (Err e) u → Drew s t x k (full_by s t x f k d q) r u
        full_wrong r e p g = stop_drew s t x k _ r e p (t_bad _ _ _ (number e.0) e.1 g.is refl ∙ sym full_on) (types_fault n c (number e.0) e.1 g.is) u (locals-only (Err e) g)

        pub full_good : (a : ℕ) → Types s t x f k n 65184 c (Ok a) u → (r : Result (Got Drawn) faults.Fault) (v : List ℕ) → Drew s u x k (stack_by s u x f k d n a) r v → Drew s t x k (full_by s t x f k d q) r v
        unfolding and_then stack_by
        full_good a g r v w =
            let b : many (type_at s t x f k) n c ≡ ok (list_in u n) a = sym g.is in
            let e : full_by s t x f k d q ≡ rest_by s t x f k d (list_in u n) a = full_on ∙ rw b in
            record {
              is = w.is ∙ ap (λ (j : Res Written). and_then j (sized x k)) (rest-front u (besides_front 65184 64 t u (locals-only (Ok a) g) (omega arith)) d (list_in u n) a ∙ sym e);
              wrong = w.wrong;
              besides = besides_then 65184 64 t u v (locals-only (Ok a) g) w.besides;
              locals = w.locals;
              stack = w.stack;
            }
