-- What the next window's locals come to. Assumes nothing.
use Rattle.std.specs.Prelude.{◌≡◌, ℕ, zero, suc, ◌+◌, ◌-◌, ◌*◌, ◌<◌, ◌≤◌, ◌⊎◌, List, ◌∷◌, ◌++◌, length, take, drop, replicate, slice_index, slice_set, refl}
use Rattle.std.proofs.Common.{sym, ap, ◌∙◌, inl, inr, zero-add, add-zero, suc-add, add-suc, arith, length-set, length-append, length-drop, length-take-le, get_or-take, get_or-set_same, get_or-set_other, take-take}
use Rattle.std.proofs.lemmas.List.{take-set-le, take-append-le, length-replicate, get_or-append_right, get_or_append_left}
use borrow.Rule.Slice.PartMut.{put_mid}
use Rattle.kit.specs.Pick.{side}
use Rattle.kit.specs.Lists.{get_d_part, length_part, get_or-replicate_same}
use Rattle.plain.specs.Heap.{Val, empty, padded_locals}
use Rattle.plain.specs.ValueLaws.{value_of}
use Rattle.plain.specs.Windows.{val_at, locs_from, locs_of, length_locs}
use Rattle.plain.specs.Calls.{window_at}

-- n words once more from `to` on, nothing changed in front
pub record Carried (l l' : List ℕ) (from to n : ℕ) : Type 0 where
  pub size : length l' ≡ length l
  pub front : take to l' ≡ take to l
  pub moved : (i : ℕ) → i < n → slice_index l' (to + i) ≡ slice_index l (from + i)

pub record Wiped (l l' : List ℕ) (to n : ℕ) : Type 0 where
  pub size : length l' ≡ length l
  pub front : take to l' ≡ take to l
  pub zeros : (i : ℕ) → i < n → slice_index l' (to + i) ≡ 0

pub record Fresh (l l' : List ℕ) (d left n m : ℕ) : Type 0 where
  pub size : length l' ≡ length l
  pub front : take (64 * suc d) l' ≡ take (64 * suc d) l
  pub moved : (i : ℕ) → i < n → slice_index l' (64 * suc d + i) ≡ slice_index l (64 * d + 32 + left + i)
  pub zeros : (i : ℕ) → n ≤ i → i < m → slice_index l' (64 * suc d + i) ≡ 0

-- ---- one word more
get_d_front : (l l' : List ℕ) (n i : ℕ) → take n l' ≡ take n l → i < n → slice_index l' i ≡ slice_index l i
get_d_front l l' n i e h = sym (get_or-take n l' i 0 h) ∙ ap (λ (m : List ℕ). slice_index m i) e ∙ get_or-take n l i 0 h

pub carry_none : (l : List ℕ) (from to : ℕ) → Carried l l from to 0
carry_none l from to = record { size = refl; front = refl; moved = λ i h. absurd (omega arith) }

pub carry_more : (l l' : List ℕ) (from to i v : ℕ) → from + i < to → to + i < length l → v ≡ slice_index l' (from + i) → Carried l l' from to i → Carried l (slice_set l' (to + i) v) from to (i + 1)
carry_more l l' from to i v h m e k = record {
  size = length-set l' (to + i) v ∙ k.size;
  front = take-set-le to l' (to + i) v (omega arith) ∙ k.front;
  moved = λ j b. at j (omega arith) (side j i);
}
  where
    at : (j : ℕ) → j ≤ i → (j < i) ⊎ (i ≤ j) → slice_index (slice_set l' (to + i) v) (to + j) ≡ slice_index l (from + j)
    at j b (inl c) = get_or-set_other l' (to + i) (to + j) v 0 (λ z. omega arith) ∙ k.moved j c
    at j b (inr c) =
        let z : j ≡ i = omega arith in
        rw z (get_or-set_same l' (to + i) v 0 (rw k.size m) ∙ e ∙ get_d_front l l' to (from + i) k.front h)

pub wipe_none : (l : List ℕ) (to : ℕ) → Wiped l l to 0
wipe_none l to = record { size = refl; front = refl; zeros = λ i h. absurd (omega arith) }

pub wipe_more : (l l' : List ℕ) (to i : ℕ) → to + i < length l → Wiped l l' to i → Wiped l (slice_set l' (to + i) 0) to (i + 1)
wipe_more l l' to i m k = record {
  size = length-set l' (to + i) 0 ∙ k.size;
  front = take-set-le to l' (to + i) 0 (omega arith) ∙ k.front;
  zeros = λ j b. at j (omega arith) (side j i);
}
  where
    at : (j : ℕ) → j ≤ i → (j < i) ⊎ (i ≤ j) → slice_index (slice_set l' (to + i) 0) (to + j) ≡ 0
    at j b (inl c) = get_or-set_other l' (to + i) (to + j) 0 0 (λ z. omega arith) ∙ k.zeros j c
    at j b (inr c) =
        let z : j ≡ i = omega arith in
        rw z (get_or-set_same l' (to + i) 0 0 (rw k.size m))

-- as `fill` leaves a part
pub wipe_part : (l m : List ℕ) (to n k : ℕ) → to + n ≤ length l → k ≡ n → m ≡ replicate (length (take k (drop to l))) 0 → Wiped l (put_mid to k l m) to n
wipe_part l m to n k h e p =
    let z : length (take k (drop to l)) ≡ n = rw e (length_part to n l h) in
    let a : length (take to l) ≡ to = length-take-le to l (omega arith) in
    rw (p, z, e) (record {
      size = simp (length-append, length-replicate, length-drop, a) (omega arith);
      front = take-append-le to (take to l) (replicate n 0 ++ drop n (drop to l)) (omega arith) ∙ take-take to to l (omega arith);
      zeros = λ i b.
          let u : to + i - to ≡ i = omega arith in
          get_or-append_right (take to l) (replicate n 0 ++ drop n (drop to l)) to (to + i) 0 a (omega arith)
          ∙ rw u (get_or_append_left (replicate n 0) (drop n (drop to l)) 0 i (rw (length-replicate) b) ∙ get_or-replicate_same n i 0);
    })

-- ---- both together
pub fresh : (l m r : List ℕ) (d left n most : ℕ) → Carried l m (64 * d + 32 + left) (64 * d + 64) n → Wiped m r (64 * d + 64 + n) (most - n) → Fresh l r d left n most
fresh l m r d left n most k w =
    let b : 64 * suc d ≡ 64 * d + 64 = omega arith in
    record {
      size = w.size ∙ k.size;
      front = rw b (sym (take-take (64 * d + 64) (64 * d + 64 + n) r (omega arith)) ∙ ap (take (64 * d + 64)) w.front ∙ take-take (64 * d + 64) (64 * d + 64 + n) m (omega arith) ∙ k.front);
      moved = λ i c. rw b (get_d_front m r (64 * d + 64 + n) (64 * d + 64 + i) w.front (omega arith) ∙ k.moved i c);
      zeros = λ i c e.
          let z : 64 * suc d + i ≡ 64 * d + 64 + n + (i - n) = omega arith in
          rw z (w.zeros (i - n) (omega arith));
    }

-- ---- read back
locs_as : (w g v h : List ℕ) (b c n : ℕ) → ((i : ℕ) → i < n → val_at w g (b + i) ≡ val_at v h (c + i)) → locs_from w g b n ≡ locs_from v h c n
unfolding locs_from
locs_as w g v h b c zero e = refl
locs_as w g v h b c (suc n) e =
    let x : val_at w g b ≡ val_at v h c = rw (add-zero b, add-zero c) at (e 0 (omega arith)) in
    rw (x, locs_as w g v h (suc b) (suc c) n (λ i l. rw (suc-add b i, suc-add c i, ← add-suc b i, ← add-suc c i) (e (suc i) (omega arith))))

locs_empty : (w g : List ℕ) (b n : ℕ) → ((i : ℕ) → i < n → val_at w g (b + i) ≡ empty) → locs_from w g b n ≡ replicate n empty
unfolding locs_from
locs_empty w g b zero e = refl
locs_empty w g b (suc n) e =
    let x : val_at w g b ≡ empty = rw (add-zero b) at (e 0 (omega arith)) in
    rw (x, locs_empty w g (suc b) n (λ i l. rw (suc-add b i, ← add-suc b i) (e (suc i) (omega arith))))

pub locs_split : (w g : List ℕ) (b n k : ℕ) → locs_from w g b (n + k) ≡ locs_from w g b n ++ locs_from w g (b + n) k
unfolding locs_from
locs_split w g b zero k = rw (zero-add k, add-zero b)
locs_split w g b (suc n) k = rw (suc-add n k, add-suc b n, ← suc-add b n) (ap (λ (l : List Val). val_at w g b ∷ l) (locs_split w g (suc b) n k))

empty_tag : (v : ℕ) → value_of 0 v ≡ empty
unfolding value_of
empty_tag v = refl

-- the arguments, then empty locals
module _ (s s' g g' : List ℕ) (d left n most : ℕ) (h : left + n ≤ 32) (u : most ≤ 32) (p : Fresh s s' d left n most) (q : Fresh g g' d left n most) where
  argument : (i : ℕ) → i < n → val_at (window_at s' (suc d)) (window_at g' (suc d)) (0 + i) ≡ val_at (window_at s d) (window_at g d) (32 + left + i)
  argument i l =
      let e : 64 * d + (32 + left + i) ≡ 64 * d + 32 + left + i = omega arith in
      rw (
        zero-add i,
        get_d_part (64 * suc d) 64 s' i 0 (omega arith),
        get_d_part (64 * suc d) 64 g' i 0 (omega arith),
        get_d_part (64 * d) 64 s (32 + left + i) 0 (omega arith),
        get_d_part (64 * d) 64 g (32 + left + i) 0 (omega arith),
        p.moved i l,
        q.moved i l,
        e,
      )

  blank : (i : ℕ) → n ≤ i → i < most → val_at (window_at s' (suc d)) (window_at g' (suc d)) i ≡ empty
  blank i l b = rw (get_d_part (64 * suc d) 64 g' i 0 (omega arith), q.zeros i l b) (empty_tag _)

  pub new-locals : (m : ℕ) → n + (m - n) ≤ most
      → locs_of (window_at s' (suc d)) (window_at g' (suc d)) (n + (m - n)) ≡ padded_locals m (locs_from (window_at s d) (window_at g d) (32 + left) n)
  new-locals m b =
      locs_split (window_at s' (suc d)) (window_at g' (suc d)) 0 n (m - n)
      ∙ rw (
        locs_as (window_at s' (suc d)) (window_at g' (suc d)) (window_at s d) (window_at g d) 0 (32 + left) n argument,
        locs_empty (window_at s' (suc d)) (window_at g' (suc d)) (0 + n) (m - n) (λ i l. blank (0 + n + i) (omega arith) (omega arith)),
        length_locs (window_at s d) (window_at g d) (32 + left) n,
      )
