-- Two lists in step.
use Rattle.std.specs.Prelude.{◌≡◌, refl, List, [], ◌∷◌, ◌++◌, ℕ, zero, suc, ◌<◌, length, get_or, set, replicate}
use Rattle.std.proofs.Common.{ap, arith}

pub data All2 {A B : Type 0} (R : A → B → Type 0) : List A → List B → Type 0 where
  anil : All2 R [] []
  acons : {a : A} {b : B} {as' : List A} {bs : List B} → R a b → All2 R as' bs → All2 R (a ∷ as') (b ∷ bs)

module _ {A B : Type 0} where
  pub all2_map : {R Q : A → B → Type 0} → ((a : A) (b : B) → R a b → Q a b) → {l : List A} {k : List B} → All2 R l k → All2 Q l k
  all2_map f anil = anil
  all2_map f (acons {a} {b} r rs) = acons (f a b r) (all2_map f rs)

  pub all2_length : {R : A → B → Type 0} {l : List A} {k : List B} → All2 R l k → length l ≡ length k
  all2_length anil = refl
  all2_length (acons r rs) = ap suc (all2_length rs)

  pub all2_set : {R : A → B → Type 0} {l : List A} {k : List B} → All2 R l k → (j : ℕ) {a : A} {b : B} → R a b → All2 R (set l j a) (set k j b)
  all2_set anil j r = anil
  all2_set (acons q rs) zero r = acons r rs
  all2_set (acons q rs) (suc j) r = acons q (all2_set rs j r)

  -- another element of the same kind
  pub all2_put : {R : A → B → Type 0} {l : List A} {k : List B} → All2 R l k → (j : ℕ) (d : B) {a : A} → R a (get_or k j d) → All2 R (set l j a) k
  all2_put anil j d r = anil
  all2_put (acons q rs) zero d r = acons r rs
  all2_put (acons q rs) (suc j) d r = acons q (all2_put rs j d r)

  -- the elements at a place that the second list has
  pub all2_at : {R : A → B → Type 0} {l : List A} {k : List B} → All2 R l k → (j : ℕ) (c : A) (d : B) → j < length k → R (get_or l j c) (get_or k j d)
  all2_at anil j c d h = absurd (omega arith)
  all2_at (acons r rs) zero c d h = r
  all2_at (acons r rs) (suc j) c d h = all2_at rs j c d (omega arith)

  pub all2_append : {R : A → B → Type 0} {l l' : List A} {k k' : List B} → All2 R l k → All2 R l' k' → All2 R (l ++ l') (k ++ k')
  all2_append anil q = q
  all2_append (acons r rs) q = acons r (all2_append rs q)

  pub all2_replicate : {R : A → B → Type 0} (n : ℕ) (a : A) (b : B) → R a b → All2 R (replicate n a) (replicate n b)
  all2_replicate zero a b r = anil
  all2_replicate (suc n) a b r = acons r (all2_replicate n a b r)
