-- An object's fields: a class's begin with its parent's, so a field stands at one place in a class and in those below it.
use Prim.Native.Nat.{ℕ, zero, suc, ◌+◌, ◌<◌, ◌≤◌}
use Rattle.std.specs.Prelude.{◌≡◌, Bool, ◌⊎◌}
use Rattle.std.proofs.Math.Path.{refl}
use Rattle.std.proofs.Common.{ap, ◌∙◌, inl, inr, arith, length-append, get_or-append-add, eqb→eq}
use Rattle.std.proofs.Math.Bool.{true, false, cond}
use mathlib.Core.List.{[], ◌++◌}
use Rattle.std.proofs.Math.ListN.{length, get_or, get_or-append, get_or-map}
use Rattle.std.proofs.lemmas.List.{length-map}
use Rattle.std.proofs.Math.Dec.{T, eqb, eqb_refl}
use Rattle.classfiles.specs.Descriptors.{dint}
use Rattle.reader.specs.Program.{Program, Field, no_field, class, class_count, up_to, below, own_types, layout_to, layout}
use Rattle.facts.specs.Base.{either_of}
use Rattle.facts.specs.Classes.{Link, parent}

module _ (P : Program) where
  -- more steps than the chain is long change nothing
  steady : (f c : ℕ) → T (up_to P f c 0) → layout_to P (suc f) c ≡ layout_to P f c
  unfolding layout_to up_to
  steady zero c h = go (eqb c 0) h
    where
      go : (b : Bool) → T b → cond b [] (layout_to P zero (parent P c) ++ own_types (class P c)) ≡ []
      go true t = refl
      go false t = absurd t
  steady (suc f) c h = go (steady f (parent P c)) (eqb c 0) h
    where
      go : (T (up_to P f (parent P c) 0) → layout_to P (suc f) (parent P c) ≡ layout_to P f (parent P c)) → (b : Bool) → T (cond b true (up_to P f (parent P c) 0))
          → cond b [] (layout_to P (suc f) (parent P c) ++ own_types (class P c)) ≡ cond b [] (layout_to P f (parent P c) ++ own_types (class P c))
      go ih true t = refl
      go ih false t = rw (ih t) refl

  step : (n c : ℕ) → 1 ≤ n → (c ≡ 0 → ⊥) → T (up_to P n c 0) → layout_to P n c ≡ layout_to P n (parent P c) ++ own_types (class P c)
  unfolding layout_to up_to
  step zero c h ne u = absurd (omega arith)
  step (suc n) c h ne u = on (eqb c 0) refl u
    where
      on : (b : Bool) → eqb c 0 ≡ b → T (cond b true (up_to P n (parent P c) 0)) → cond b [] (layout_to P n (parent P c) ++ own_types (class P c)) ≡ layout_to P (suc n) (parent P c) ++ own_types (class P c)
      on true e u = absurd (ne (eqb→eq c 0 (rw e tt)))
      on false e u = rw (steady n (parent P c) u) refl

  module _ (L : Link P) where
    -- super's first
    pub layout_of : (c : ℕ) → (c ≡ 0 → ⊥) → layout P c ≡ layout P (parent P c) ++ own_types (class P c)
    unfolding layout below
    layout_of c ne = step (class_count P) c L.one ne (L.ends c)

    -- Object has none
    pub layout_root : layout P 0 ≡ []
    unfolding layout layout_to
    layout_root = go (class_count P)
      where
        go : (n : ℕ) → layout_to P n 0 ≡ []
        go zero = refl
        go (suc n) = refl

    pub layout_up : (c j : ℕ) → j < length (layout P (parent P c)) → (j < length (layout P c)) × (get_or (layout P c) j dint ≡ get_or (layout P (parent P c)) j dint)
    layout_up c j h = go (eqb c 0) refl
      where
        go : (b : Bool) → eqb c 0 ≡ b → (j < length (layout P c)) × (get_or (layout P c) j dint ≡ get_or (layout P (parent P c)) j dint)
        go true e =
            let z : c ≡ 0 = eqb→eq c 0 (rw e tt) in
            let r : parent P c ≡ 0 = rw z L.root in
            let k : j < length (layout P 0) = rw r at h in
            absurd (omega (arith, ap length layout_root))
        go false e =
            let ne : c ≡ 0 → ⊥ = λ z. let y : T (eqb c 0) = rw z (eqb_refl 0) in rw e at y in
            let m : length (layout P c) ≡ length (layout P (parent P c)) + length (own_types (class P c)) = rw (layout_of c ne) (length-append (layout P (parent P c)) (own_types (class P c))) in
            (omega arith, rw (layout_of c ne) (get_or-append (layout P (parent P c)) (own_types (class P c)) dint j h))

    layout-up_to : (f a b j : ℕ) → T (up_to P f a b) → j < length (layout P b) → (j < length (layout P a)) × (get_or (layout P a) j dint ≡ get_or (layout P b) j dint)
    unfolding up_to
    layout-up_to zero a b j p h = rw (eqb→eq a b p) (h, refl)
    layout-up_to (suc f) a b j p h = go (λ r. layout-up_to f (parent P a) b j r h) (either_of (eqb a b) _ p)
      where
        go : (T (up_to P f (parent P a) b) → (j < length (layout P (parent P a))) × (get_or (layout P (parent P a)) j dint ≡ get_or (layout P b) j dint))
            → T (eqb a b) ⊎ T (up_to P f (parent P a) b) → (j < length (layout P a)) × (get_or (layout P a) j dint ≡ get_or (layout P b) j dint)
        go ih (inl e) = rw (eqb→eq a b e) (h, refl)
        go ih (inr r) = let x = layout_up a j (ih r).0 in (x.0, x.1 ∙ (ih r).1)

    pub layout_below : (a b j : ℕ) → T (below P a b) → j < length (layout P b) → (j < length (layout P a)) × (get_or (layout P a) j dint ≡ get_or (layout P b) j dint)
    unfolding below
    layout_below a b j p h = layout-up_to (class_count P) a b j p h

    -- a field that a class declares, at its place among an object's fields
    pub layout_own : (d j : ℕ) → j < length (class P d).fields
        → (length (layout P (parent P d)) + j < length (layout P d)) × (get_or (layout P d) (length (layout P (parent P d)) + j) dint ≡ (get_or (class P d).fields j no_field).type)
    layout_own d j h = go (eqb d 0) refl
      where
        own : get_or (own_types (class P d)) j dint ≡ (get_or (class P d).fields j no_field).type
        own = get_or-map (λ (f : Field). f.type) (class P d).fields j no_field

        go : (b : Bool) → eqb d 0 ≡ b
            → (length (layout P (parent P d)) + j < length (layout P d)) × (get_or (layout P d) (length (layout P (parent P d)) + j) dint ≡ (get_or (class P d).fields j no_field).type)
        go true e =
            let z : d ≡ 0 = eqb→eq d 0 (rw e tt) in
            let k : j < length (class P 0).fields = rw z at h in
            absurd (omega (arith, L.bare))
        go false e =
            let ne : d ≡ 0 → ⊥ = λ z. let y : T (eqb d 0) = rw z (eqb_refl 0) in rw e at y in
            let m : length (layout P d) ≡ length (layout P (parent P d)) + length (own_types (class P d)) = rw (layout_of d ne) (length-append (layout P (parent P d)) (own_types (class P d))) in
            let n : length (own_types (class P d)) ≡ length (class P d).fields = length-map (class P d).fields (λ (f : Field). f.type) in
            (omega arith, rw (layout_of d ne) (get_or-append-add (layout P (parent P d)) (own_types (class P d)) j dint ∙ own))
