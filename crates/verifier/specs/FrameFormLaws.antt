-- Laws of a frame's form: by its tag. Assumes nothing.
use Rattle.std.specs.Prelude.{ℕ, ◌-◌, ◌<◌, ◌≤◌, ◌≡◌, refl, Result, Ok, Err, IsErrAnd, List, [], length}
use Rattle.std.proofs.Common.{sym, subst, ◌∙◌, arith, eq-eqb, ne_eqb, lt-ltb, le-ltb}
use Rattle.texts.specs.Reading.{Res, ok, bad, and_then, num2_at}
use Rattle.texts.specs.Answers.{t_bad}
use Rattle.texts.specs.Faults.{number}
use Rattle.texts.specs.declared.faults.Refusal.TheVariants.{FrameTable}
use Rattle.texts.specs.declared.faults.Got.{Got}
use Rattle.texts.specs.declared.faults.Fault as faults
use Rattle.rules.specs.Slots.{locals_at}
use Rattle.rules.specs.Frames.{Written, written, number_at, long_form, form_at}
use Rattle.verifier.specs.Besides.{besides_none}
use Rattle.verifier.specs.Drawing.{drawing, list_in, one_by, append_by, chop_by, full_by, Drew}
use Rattle.verifier.specs.DrawLaws.{unfit_drew, stop_drew, drawn_drew}
use Rattle.rules.specs.declared.site.Site.{Site}
use Rattle.verifier.specs.declared.frame_reader.Drawn.{Drawn}
use Rattle.verifier.specs.FullLaws.{cut_fault}
use Rattle.verifier.specs.FrameForms.{count_by, long_by, form_by}

module _ (s t : List ℕ) (x : Site) (f : List ℕ) (k : ℕ) where
  -- the same form by another name
  as_form : (F G : Res Written) (r : Result (Got Drawn) faults.Fault) (u : List ℕ) → G ≡ F → Drew s t x k F r u → Drew s t x k G r u
  as_form F G r u e d = subst (λ (H : Res Written). Drew s t x k H r u) (sym e) d

  -- as the frame before left the list, and no operands
  same_drew : (F : Res Written) (r : Got Drawn) (d n q : ℕ) → r ≡ drawing d n 0 q → F ≡ ok (written d (list_in t n) []) q → n ≤ x.locals → Drew s t x k F (Ok r) t
  unfolding locals_at
  same_drew F r d n q z e l = drawn_drew s t x k F r t d n 0 q z e l (omega arith) (besides_none 65184 64 t)

  -- ---- with a u2 delta
  module _ (tag d n q : ℕ) where
    pub long_one : (r : Result (Got Drawn) faults.Fault) (u : List ℕ) → tag ≡ 247 → Drew s t x k (one_by s t x f k d n q) r u → Drew s t x k (long_by s t x f k tag d n q) r u
    unfolding long_by long_form one_by
    long_one r u e w = as_form (one_by s t x f k d n q) (long_by s t x f k tag d n q) r u (rw (eq-eqb tag 247 e)) w

    module _ (a : tag ≡ 247 → ⊥) where
      pub long_chop : (r : Result (Got Drawn) faults.Fault) → tag < 251 → Drew s t x k (chop_by s t x f k d (251 - tag) n q) r t → Drew s t x k (long_by s t x f k tag d n q) r t
      unfolding long_by long_form chop_by
      long_chop r l w = as_form (chop_by s t x f k d (251 - tag) n q) (long_by s t x f k tag d n q) r t (rw (ne_eqb tag 247 a, lt-ltb tag 251 l)) w

      module _ (b : 251 ≤ tag) where
        pub long_same : (r : Got Drawn) → tag ≡ 251 → r ≡ drawing d n 0 q → n ≤ x.locals → Drew s t x k (long_by s t x f k tag d n q) (Ok r) t
        unfolding long_by long_form
        long_same r e z l = same_drew (long_by s t x f k tag d n q) r d n q z (rw (ne_eqb tag 247 a, le-ltb tag 251 b, eq-eqb tag 251 e)) l

        module _ (c : tag ≡ 251 → ⊥) where
          pub long_append : (r : Result (Got Drawn) faults.Fault) (u : List ℕ) → tag < 255 → Drew s t x k (append_by s t x f k d (tag - 251) n q) r u → Drew s t x k (long_by s t x f k tag d n q) r u
          unfolding long_by long_form append_by
          long_append r u l w = as_form (append_by s t x f k d (tag - 251) n q) (long_by s t x f k tag d n q) r u (rw (ne_eqb tag 247 a, le-ltb tag 251 b, ne_eqb tag 251 c, lt-ltb tag 255 l)) w

          pub long_full : (r : Result (Got Drawn) faults.Fault) (u : List ℕ) → 255 ≤ tag → Drew s t x k (full_by s t x f k d q) r u → Drew s t x k (long_by s t x f k tag d n q) r u
          unfolding long_by long_form full_by
          long_full r u l w = as_form (full_by s t x f k d q) (long_by s t x f k tag d n q) r u (rw (ne_eqb tag 247 a, le-ltb tag 251 b, ne_eqb tag 251 c, le-ltb tag 255 l)) w

  -- ---- by the tag
  module _ (tag n q : ℕ) where
    pub form_same : (r : Got Drawn) → tag < 64 → r ≡ drawing tag n 0 q → n ≤ x.locals → Drew s t x k (form_by s t x f k tag n q) (Ok r) t
    unfolding form_by form_at
    form_same r e z l = same_drew (form_by s t x f k tag n q) r tag n q z (rw (lt-ltb tag 64 e)) l

    module _ (a : 64 ≤ tag) where
      pub form_one : (r : Result (Got Drawn) faults.Fault) (u : List ℕ) → tag < 128 → Drew s t x k (one_by s t x f k (tag - 64) n q) r u → Drew s t x k (form_by s t x f k tag n q) r u
      unfolding form_by form_at one_by
      form_one r u l w = as_form (one_by s t x f k (tag - 64) n q) (form_by s t x f k tag n q) r u (rw (le-ltb tag 64 a, lt-ltb tag 128 l)) w

      module _ (b : 128 ≤ tag) where
        pub form_none : tag < 247 → Drew s t x k (form_by s t x f k tag n q) (Err (record { 0 = FrameTable; 1 = k })) t
        unfolding form_by form_at and_then
        form_none l = unfit_drew s t x k _ t (rw (le-ltb tag 64 a, le-ltb tag 128 b, lt-ltb tag 247 l)) (besides_none 65184 64 t)

        module _ (c : 247 ≤ tag) where
          form_long : form_by s t x f k tag n q ≡ and_then (count_by s t x f k q) λ d e. long_by s t x f k tag d n e
          unfolding form_by form_at count_by long_by
          form_long = rw (le-ltb tag 64 a, le-ltb tag 128 b, le-ltb tag 247 c)

          pub form_cut : (r : Result (Got Drawn) faults.Fault) (e : faults.Fault) → IsErrAnd r (λ z. z ≡ e) → bad (number e.0) e.1 ≡ num2_at f (length f) 14 k q → Drew s t x k (form_by s t x f k tag n q) r t
          unfolding count_by number_at
          form_cut r e p h = stop_drew s t x k _ r e p (t_bad _ _ _ (number e.0) e.1 h refl ∙ sym form_long) (cut_fault s t x f k q (number e.0) e.1 h) t (besides_none 65184 64 t)

          pub form_delta : (v a : ℕ) → ok v a ≡ num2_at f (length f) 14 k q → (r : Result (Got Drawn) faults.Fault) (u : List ℕ) → Drew s t x k (long_by s t x f k tag v n a) r u → Drew s t x k (form_by s t x f k tag n q) r u
          unfolding and_then count_by number_at
          form_delta v a h r u w = as_form (long_by s t x f k tag v n a) (form_by s t x f k tag n q) r u (form_long ∙ rw (← h)) w
