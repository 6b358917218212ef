-- Laws of reading the frame table: a type by its tag. Assumes nothing.
use Rattle.std.specs.Prelude.{ℕ, ◌+◌, ◌-◌, ◌/◌, ◌%◌, ◌<◌, ◌≤◌, ◌≡◌, refl, Result, IsErrAnd, Bool, true, cond, List, ◌⊎◌, eqb, length, get_or}
use Rattle.std.proofs.Common.{ap, ◌∙◌, inl, inr, arith, ne_eqb, lt-ltb, le-ltb, sym, false}
use Rattle.kit.specs.Bools.{not_so}
use Rattle.kit.specs.Pick.{side}
use Rattle.texts.specs.Reading.{Res, ok, bad, and_then, num2_at, u4_at}
use Rattle.texts.specs.Answers.{t_stop}
use Rattle.texts.specs.Faults.{number}
use Rattle.classfiles.specs.Descriptors.{Ref}
use Rattle.reader.specs.Program.{Program, Method, class}
use Rattle.texts.specs.declared.faults.Got.{Got}
use Rattle.texts.specs.declared.faults.Fault as faults
use Rattle.rules.specs.declared.types.Ty as words
use Rattle.rules.specs.Resolve.{Resolved, by, nothing, number as numeral, field, method_of, resolve}
use Rattle.rules.specs.Lines.{Line, is_new_at}
use Rattle.rules.specs.Types.{at, self, Ty, top, int, null, ini, uninit}
use Rattle.rules.specs.TypeCodes.{code_ref}
use Rattle.rules.specs.ResolvedWords.{field_in, method_in, resolved_as, resolved_of, word_of}
use Rattle.rules.specs.DecodeLaws.{is_type}
use Rattle.rules.specs.Frames.{number_at, class_ty, tagged_at, info_at}
use Rattle.rules.specs.Sites.{front, program_at, method_at}
use Rattle.shaping.specs.SiteLaws.{word-front}
use Rattle.shaping.specs.Marks.{lines_at}
use Rattle.shaping.specs.MarkLaws.{new_past}
use Rattle.verifier.specs.FrameReading.{typed_as, wrong_type, type_named, type_classed, type_made, type_tagged, type_at, Readable}
use Rattle.rules.specs.declared.site.Site.{Site}

-- a word of another kind
no_type : {A : Type 0} (n : A) (make : Ref → A) (v w : ℕ) → (w % 8 ≡ 2 → ⊥) → by n (λ x. n) make (λ f. n) (λ m. n) (resolved_as v w) ≡ n
unfolding resolved_as
no_type n make v w h = rw (ne_eqb (w % 8) 2 h) (go (eqb (w % 8) 1) (eqb (w % 8) 3) (eqb (w % 8) 4))
  where
    go : (a b d : Bool) → by n (λ x. n) make (λ f. n) (λ m. n) (cond a (numeral v) (cond b (field (field_in w)) (cond d (method_of (method_in w)) nothing))) ≡ n
    go true b d = refl
    go false true d = refl
    go false false true = refl
    go false false false = refl

module _ (s t : List ℕ) (x : Site) (y : Readable s t x) where
  abbrev P : Program
  P = program_at s (front t) x

  abbrev M : Method
  M = method_at s (front t) x

  abbrev all : List Line
  all = lines_at s t x

  names : (i w : ℕ) → w ≡ word_of t x.class i → resolve P (class P M.owner).pool i ≡ resolved_as (u4_at s (w / 8 + 1)) w
  names i w e =
      sym (y.marked.here.sited.named i) ∙ ap (resolved_of s) (word-front t x.class i ∙ sym e)

  module _ (k i e w : ℕ) (ew : w ≡ word_of t x.class i) where
    pub named_yes : (v : Ty) → w % 8 ≡ 2 → v ≡ ini (code_ref (w / 8 % 256)) → ok v e ≡ type_named s t x k i e
    unfolding type_named
    named_yes v z h = rw (names i w ew, is_type (u4_at s (w / 8 + 1)) w z, h)

    pub named_no : (w % 8 ≡ 2 → ⊥) → wrong_type k ≡ type_named s t x k i e
    unfolding type_named
    named_no z = sym (ap (λ (r : Resolved). class_ty P M all s k r e) (names i w ew) ∙ no_type (bad 14 k) (λ r. ok (ini r) e) (u4_at s (w / 8 + 1)) w z)

  module _ (f : List ℕ) (k q : ℕ) where
    -- the number behind the tag was cut
    pub class-cut : (r : Result (Got words.Ty) faults.Fault) (e : faults.Fault) → IsErrAnd r (λ z. z ≡ e) → bad (number e.0) e.1 ≡ num2_at f (length f) 14 k q → typed_as r ≡ type_classed s t x f k q
    unfolding type_classed number_at
    class-cut r e p h = t_stop _ _ _ r e p h

    pub made-cut : (r : Result (Got words.Ty) faults.Fault) (e : faults.Fault) → IsErrAnd r (λ z. z ≡ e) → bad (number e.0) e.1 ≡ num2_at f (length f) 14 k q → typed_as r ≡ type_made s t x f k q
    unfolding type_made number_at
    made-cut r e p h = t_stop _ _ _ r e p h

    module _ (i a : ℕ) (h : ok i a ≡ num2_at f (length f) 14 k q) where
      pub class_yes : (R : Res Ty) → R ≡ type_named s t x k i a → R ≡ type_classed s t x f k q
      unfolding type_classed number_at and_then
      class_yes R e = rw (← h) e

      module _ (b : Bool) (eb : b ≡ is_new_at all i) where
        pub made_no : b ≡ false → wrong_type k ≡ type_made s t x f k q
        unfolding type_made number_at and_then
        made_no n = rw (← h, ← eb, n)

        pub made_yes : (v : Ty) → b ≡ true → v ≡ uninit (at (i % 65536)) → ok v a ≡ type_made s t x f k q
        unfolding type_made number_at and_then
        made_yes v n e =
            let l : i < x.end - x.start = inside (side i (x.end - x.start)) in
            let m : i % 65536 ≡ i = omega (arith, y.marked.here.bounded.size) in
            rw (← h, ← eb, n, e, m)
          where
            inside : (i < x.end - x.start) ⊎ (x.end - x.start ≤ i) → i < x.end - x.start
            inside (inl l) = l
            inside (inr l) =
                let d : false ≡ is_new_at all i = new_past all (x.end - x.start) i t y.marked.marks l in
                absurd (not_so (d ∙ sym eb ∙ n))

  -- ---- by the tag
  module _ (f : List ℕ) (k tag e : ℕ) where
    tagged_is : type_tagged s t x f k tag e
        ≡ cond (eqb tag 0) (ok top e)
        (cond (eqb tag 1) (ok int e)
        (cond (eqb tag 5) (ok null e)
        (cond (eqb tag 6) (cond x.constructor (ok (uninit self) e) (bad 14 k))
        (cond (eqb tag 7) (type_classed s t x f k e) (cond (eqb tag 8) (type_made s t x f k e) (bad 14 k))))))
    unfolding type_tagged tagged_at type_classed type_made type_named
    tagged_is = rw y.init

    pub tagged-top : (v : Ty) → tag ≡ 0 → v ≡ top → ok v e ≡ type_tagged s t x f k tag e
    tagged-top v z q = rw q (sym (tagged_is ∙ rw z))

    pub tagged-int : (v : Ty) → tag ≡ 1 → v ≡ int → ok v e ≡ type_tagged s t x f k tag e
    tagged-int v z q = rw q (sym (tagged_is ∙ rw z))

    pub tagged-null : (v : Ty) → tag ≡ 5 → v ≡ null → ok v e ≡ type_tagged s t x f k tag e
    tagged-null v z q = rw q (sym (tagged_is ∙ rw z))

    pub tagged_this : (v : Ty) → tag ≡ 6 → x.constructor ≡ true → v ≡ uninit self → ok v e ≡ type_tagged s t x f k tag e
    tagged_this v z c q = rw q (sym (tagged_is ∙ rw (z, c)))

    pub tagged_that : tag ≡ 6 → x.constructor ≡ false → wrong_type k ≡ type_tagged s t x f k tag e
    tagged_that z c = sym (tagged_is ∙ rw (z, c))

    pub tagged-class : tag ≡ 7 → (R : Res Ty) → R ≡ type_classed s t x f k e → R ≡ type_tagged s t x f k tag e
    tagged-class z R h = h ∙ sym (tagged_is ∙ rw z)

    pub tagged-new : tag ≡ 8 → (R : Res Ty) → R ≡ type_made s t x f k e → R ≡ type_tagged s t x f k tag e
    tagged-new z R h = h ∙ sym (tagged_is ∙ rw z)

    pub tagged_none : (tag ≡ 0 → ⊥) → (tag ≡ 1 → ⊥) → (tag ≡ 5 → ⊥) → (tag ≡ 6 → ⊥) → (tag ≡ 7 → ⊥) → (tag ≡ 8 → ⊥) → wrong_type k ≡ type_tagged s t x f k tag e
    tagged_none a b c d g h =
        sym (tagged_is ∙ rw (ne_eqb tag 0 a, ne_eqb tag 1 b, ne_eqb tag 5 c, ne_eqb tag 6 d, ne_eqb tag 7 g, ne_eqb tag 8 h))

  pub at_inside : (f : List ℕ) (k q b : ℕ) (R : Res Ty) → q < length f → b ≡ get_or f q 0 → R ≡ type_tagged s t x f k b (q + 1) → R ≡ type_at s t x f k q
  unfolding type_at info_at type_tagged
  at_inside f k q b R l e h = h ∙ sym (rw (lt-ltb q (length f) l, ← e))

  pub at-end : (f : List ℕ) (k q : ℕ) → length f ≤ q → wrong_type k ≡ type_at s t x f k q
  unfolding type_at info_at
  at-end f k q l = sym (rw (le-ltb q (length f) l))
