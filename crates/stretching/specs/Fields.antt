-- What is of just the type that is asked fits there, whatever the classes' parents are. Assumes nothing.
use Rattle.std.specs.Prelude.{ℕ, suc, ◌+◌, ◌-◌, ◌<◌, ◌≡◌, Bool, true, false, not, List, eqb, get_or}
use Rattle.std.proofs.Common.{sym, subst, ◌∙◌, arith, eqb-true, refl}
use Rattle.classfiles.specs.Descriptors.{Ref, cls, arr, Desc, dint, dref}
use Rattle.reader.specs.Program.{Program, class_count, below}
use Rattle.rules.specs.Types.{ref_fits, desc_fits, is_dint}
use Rattle.rules.specs.Ancestry.{up_hit}
use Rattle.plain.specs.Heap.{heap, Val, ref, ref_of, desc_of, type_at, to_cell, is_num, value_fits}
use Rattle.plain.specs.ValueLaws.{value_of, value_ref, refers_tag, refers_null, fits-int, fits_reference}
use Rattle.plain.specs.Machine.{Result, Here}
use Rattle.plain.specs.HeapTurns.{Steps, guard_so, if_some}
use Rattle.plain.specs.HeapForms.{reaching}
use Rattle.plain.specs.Turns.{holds_so}
use Rattle.plain.specs.declared.window.Place.{Place}
use Rattle.plain.specs.Windows.{Turn}

-- in every program
pub record Fits (cells : List ℕ) (D : Desc) (v : Val) : Type 0 where
  pub always : (P : Program) → value_fits P (heap cells 0) D v ≡ true

-- ---- a type fits itself
module _ (P : Program) where
  below_self : (c : ℕ) → below P c c ≡ true
  unfolding below
  below_self c = up_hit P c c (class_count P) refl

  mutual
    unfolding ref_fits desc_fits

    ref_self : (u : Ref) → ref_fits P u u ≡ true
    ref_self (cls c) = below_self c
    ref_self (arr d) = desc_self d

    desc_self : (d : Desc) → desc_fits P d d ≡ true
    desc_self dint = refl
    desc_self (dref u) = ref_self u

module _ (cells : List ℕ) where
  of_just : (a b d : ℕ) → eqb (get_or cells (a + 3) 0) 1 ≡ true → get_or cells (a + 1) 0 ≡ d → get_or cells a 0 ≡ b → Fits cells (dref (ref_of b d)) (ref (suc a))
  unfolding type_at
  of_just a b d e f g = record { always = λ P. rw (e, f, g) (ref_self P (ref_of b d)) }

  -- q is whether it is ready, x and y are the header's depth and base
  pub just_fits : (a b d : ℕ) (q : Bool) (x y : ℕ) → not q ≡ false → q ≡ eqb (get_or cells (a + 3) 0) 1 → x ≡ d → x ≡ get_or cells (a + 1) 0 → y ≡ get_or cells a 0 → eqb y b ≡ true
      → Fits cells (dref (ref_of b d)) (ref (suc a))
  just_fits a b d q x y n e f g h z = of_just a b d (holds_so q _ n e) (sym g ∙ f) (sym h ∙ eqb-true y b z)

  pub other_type : (D E : Desc) (v : Val) → D ≡ E → Fits cells D v → Fits cells E v
  other_type D E v e f = subst (λ (X : Desc). Fits cells X v) e f

  -- ---- what is asked, by whether it is int
  module _ (b d : ℕ) (i : Bool) (k : i ≡ is_dint (desc_of b d)) where
    pub number_fits : (w : Val) (q : Bool) → i ≡ true → q ≡ is_num w → q ≡ true → Fits cells (desc_of b d) w
    number_fits w q e f h = record { always = λ P. sym (fits-int b d i k P (heap cells 0) w q e f) ∙ h }

    pub reference-fits : (w : Val) → i ≡ false → Fits cells (dref (ref_of b d)) w → Fits cells (desc_of b d) w
    reference-fits w e f = record { always = λ P. sym (fits_reference b d i k P (heap cells 0) w true e (sym (f.always P))) }

    pub null-fits : (t c : ℕ) → i ≡ false → t ≡ 2 → c ≡ 0 → Fits cells (desc_of b d) (value_of t c)
    null-fits t c e f z = record {
      always = λ P. sym (fits_reference b d i k P (heap cells 0) (value_of t c) true e (refers_tag P cells 0 (ref_of b d) c true t c f (refers_null P cells 0 (ref_of b d) c z)));
    }

-- ---- a slot's tag and cell
module _ (t c : ℕ) (e : t ≡ 2) (h : c ≡ 0 → ⊥) where
  pub slot_some : 0 < to_cell (value_of t c)
  slot_some = rw (value_ref t c e) (omega (arith, h))

  pub slot-fits : (cells : List ℕ) (D : Desc) → Fits cells D (ref (suc (c - 1))) → Fits cells D (value_of t c)
  slot-fits cells D f =
      let k : suc (c - 1) ≡ c = omega (arith, h) in
      rw (value_ref t c e, ← k) f

-- ---- a receiver that fits and is not null
pub reached : (K : Program → Type 0) (c : Place) (w g cells w' g' cells' : List ℕ) (r : Turn) (L : Program) (u : Ref) (v : Val) (rest : Program → Here → Result)
    → Fits cells (dref u) v → 0 < to_cell v → Steps K c w g cells w' g' cells' r rest → Steps K c w g cells w' g' cells' r (reaching L cells u v rest)
unfolding reaching
reached K c w g cells w' g' cells' r L u v rest f z s =
    guard_so K c w g cells w' g' cells' r _ _ (f.always L) (if_some K c w g cells w' g' cells' r (to_cell v) (to_cell v) _ _ (λ e. omega (arith, e, z)) refl s)
