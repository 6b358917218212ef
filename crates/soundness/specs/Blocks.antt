-- A heap has its types: each block's header, size, readiness and contents, no two overlap; and each way to change the heap keeps that.
use Prim.Native.Nat.{ℕ, ◌+◌, ◌<◌, ◌≤◌}
use Rattle.std.specs.Prelude.{◌≡◌, Bool, true, false, cond, get_or, T}
use Rattle.std.proofs.Math.Path.{refl, ap}
use Rattle.std.proofs.Common.{sym, ◌∙◌, arith, eqb→eq}
use Rattle.std.proofs.Math.Option.{Option, none, some}
use Rattle.std.proofs.Math.Decide.{ℕ_discrete, dec_lt}
use Rattle.std.proofs.Math.ListN.{length}
use Rattle.std.proofs.Math.Dec.{eqb, leb→le}
use Rattle.classfiles.specs.Descriptors.{Ref, cls, arr, Desc, dint, dref, dimensions}
use Rattle.reader.specs.Program.{Program, layout}
use Rattle.rules.specs.Types.{Key}
use Rattle.plain.specs.Heap.{Heap, Val, cell, ref_of, base_of, type_at, size_at, ready_at, element_at, store, mark_ready, need, allocate, has_room, from_cell, value_fits}
use Rattle.soundness.specs.Cells.{stored, unstored, store-used, store_cells, alloc_used, alloc_cells, alloc_old, alloc_size, alloc_ready, alloc_new, alloc_type, Same, same_type, same_size, same_ready, same_element}
use Rattle.soundness.specs.Typing.{Own, ready, born, is_ready, HTy, hty, HTys, upd, upd_same, upd_else, VD, vdint, vdnul, vdref, Keeps, keeps_self, keeps_more, keep_vd, zero_ok}

-- the type of the i-th field or element
abbrev pub slot_desc : Program → Ref → ℕ → Desc
slot_desc P (cls c) i = get_or (layout P c) i dint
slot_desc P (arr d) i = d

-- an object has the fields of its class
abbrev pub SizeOk : Program → Ref → ℕ → Type 0
SizeOk P (cls c) n = n ≡ length (layout P c)
SizeOk P (arr d) n = Unit {0}

pub record Block (P : Program) (Ψ : HTys) (H : Heap) (a : ℕ) (t : Ref) (w : Own) : Type 0 where
  pub type : type_at H a ≡ t
  pub ready : ready_at H a ≡ is_ready w
  pub inside : element_at a (size_at H a) ≤ H.used
  pub size : SizeOk P t (size_at H a)
  pub content : (j : ℕ) → j < size_at H a → VD P Ψ (from_cell (slot_desc P t j) (cell H (element_at a j))) (slot_desc P t j)

pub record HOK (P : Program) (Ψ : HTys) (H : Heap) : Type 0 where
  pub found : (a : ℕ) (t : Ref) (w : Own) → Ψ a ≡ some (hty t w) → Block P Ψ H a t w
  pub apart : (a b : ℕ) (t u : Ref) (v w : Own) → Ψ a ≡ some (hty t v) → Ψ b ≡ some (hty u w) → a < b → element_at a (size_at H a) ≤ b
  pub enough : H.used ≤ length H.cells

-- an empty heap
pub nothing_ok : (P : Program) (H : Heap) → H.used ≤ length H.cells → HOK P (λ a. none) H
nothing_ok P H h = record {
  found = λ a t w e. let z : ◌≡◌ {A = ℕ} 0 1 = cc in absurd (omega arith);
  apart = λ a b t u v w e f l. let z : ◌≡◌ {A = ℕ} 0 1 = cc in absurd (omega arith);
  enough = h;
}

size-at : (P : Program) (t : Ref) (m n : ℕ) → m ≡ n → SizeOk P t n → SizeOk P t m
size-at P t m n e s = rw e s

-- a block that stays
kept_block : {P : Program} {Ψ Ψ' : HTys} {H H' : Heap} {a : ℕ} {t : Ref} {w : Own} {d : ℕ} → Keeps d Ψ Ψ' → Same H H' a (size_at H a) → H.used ≤ H'.used → Block P Ψ H a t w → Block P Ψ' H' a t w
kept_block {P} {Ψ} {Ψ'} {H} {H'} {a} {t} {w} k s u b = record {
  type = same_type s ∙ b.type;
  ready = same_ready s ∙ b.ready;
  inside = let e : size_at H' a ≡ size_at H a = same_size s in let i = b.inside in omega arith;
  size = size-at P t (size_at H' a) (size_at H a) (same_size s) b.size;
  content = λ j l. let i : j < size_at H a = rw (same_size s) at l in rw (same_element s j i) (keep_vd k (b.content j i));
}

module _ {P : Program} {Ψ : HTys} {H : Heap} (hk : HOK P Ψ H) where
  -- what is behind the last block is free
  pub vacant : (a : ℕ) → H.used ≤ a → Ψ a ≡ none
  vacant a l = go (Ψ a) refl
    where
      go : (x : Option HTy) → Ψ a ≡ x → x ≡ none
      go none e = refl
      go (some (hty t w)) e = let i = (hk.found a t w e).inside in absurd (omega arith)

  -- two blocks
  apart_cells : (a b : ℕ) (t u : Ref) (v w : Own) → Ψ a ≡ some (hty t v) → Ψ b ≡ some (hty u w) → (b ≡ a → ⊥) → (k j : ℕ) → k < 4 + size_at H b → j < 4 + size_at H a → b + k ≡ a + j → ⊥
  apart_cells a b t u v w p q n k j x y e = go (dec_lt a b)
    where
      go : Dec (a < b) → ⊥
      go (yes l) = let i = hk.apart a b t u v w p q l in omega arith
      go (no l) = let m : b < a = less (ℕ_discrete b a) in let i = hk.apart b a u t w v q p m in omega arith
        where
          less : Dec (b ≡ a) → b < a
          less (yes z) = absurd (n z)
          less (no z) = omega arith

  -- the block at a changes, in Ψ or in its cells
  changed : {d : ℕ} (Ψ' : HTys) (H' : Heap) (a : ℕ) (t : Ref) (w₀ w : Own) → Ψ a ≡ some (hty t w₀) → Ψ' a ≡ some (hty t w) → ((b : ℕ) → (b ≡ a → ⊥) → Ψ' b ≡ Ψ b) → Keeps d Ψ Ψ'
      → Block P Ψ' H' a t w → size_at H' a ≡ size_at H a → ((b : ℕ) (u : Ref) (v : Own) → (b ≡ a → ⊥) → Ψ b ≡ some (hty u v) → Same H H' b (size_at H b))
      → H'.used ≡ H.used → length H'.cells ≡ length H.cells → HOK P Ψ' H'
  changed Ψ' H' a t w₀ w p₀ p els k x sz same us ln = record { found = at; apart = two; enough = let i = hk.enough in omega arith }
    where
      size_of : (b : ℕ) (u : Ref) (v : Own) → Ψ' b ≡ some (hty u v) → size_at H' b ≡ size_at H b
      size_of b u v q = go (ℕ_discrete b a)
        where
          go : Dec (b ≡ a) → size_at H' b ≡ size_at H b
          go (yes z) = rw z sz
          go (no z) = same_size (same b u v z (sym (els b z) ∙ q))

      at : (b : ℕ) (u : Ref) (v : Own) → Ψ' b ≡ some (hty u v) → Block P Ψ' H' b u v
      at b u v q = go (ℕ_discrete b a)
        where
          go : Dec (b ≡ a) → Block P Ψ' H' b u v
          go (yes z) = let q₁ : Ψ' a ≡ some (hty u v) = rw z at q in let et : t ≡ u = cc in let ew : w ≡ v = cc in rw (z, ← et, ← ew) x
          go (no z) = let q₁ = sym (els b z) ∙ q in kept_block k (same b u v z q₁) (omega arith) (hk.found b u v q₁)

      -- as it was, but for its owner
      was : (b : ℕ) (u : Ref) (v : Own) → Ψ' b ≡ some (hty u v) → (v₀ : Own) × (Ψ b ≡ some (hty u v₀))
      was b u v q = go (ℕ_discrete b a)
        where
          go : Dec (b ≡ a) → (v₀ : Own) × (Ψ b ≡ some (hty u v₀))
          go (yes z) = let q₁ : Ψ' a ≡ some (hty u v) = rw z at q in let et : t ≡ u = cc in (w₀, rw (z, ← et) p₀)
          go (no z) = (v, sym (els b z) ∙ q)

      two : (b c : ℕ) (t u : Ref) (v w : Own) → Ψ' b ≡ some (hty t v) → Ψ' c ≡ some (hty u w) → b < c → element_at b (size_at H' b) ≤ c
      two b c t u v w q r l =
          let x = was b t v q in
          let y = was c u w r in
          let i = hk.apart b c t u x.0 y.0 x.1 y.1 l in
          let e : size_at H' b ≡ size_at H b = size_of b t v q in
          omega arith

  -- a field or element is stored
  pub written : (a : ℕ) (t : Ref) (w : Own) (j v : ℕ) → Ψ a ≡ some (hty t w) → j < size_at H a → VD P Ψ (from_cell (slot_desc P t j) v) (slot_desc P t j) → HOK P Ψ (store H (element_at a j) v)
  unfolding type_at
  written a t w j v p l x =
      changed Ψ (store H i v) a t w w p p (λ b n. refl) (keeps_self 0 Ψ)
      (record {
        type = rw (head 0 (omega arith) near, head 1 (omega arith) refl) b.type;
        ready = ap (λ (n : ℕ). eqb n 1) (head 3 (omega arith) refl) ∙ b.ready;
        inside = let e : size_at (store H i v) a ≡ size_at H a = sz in let i = b.inside in omega (arith, store-used H (element_at a j) v);
        size = size-at P t (size_at (store H i v) a) (size_at H a) sz b.size;
        content = inner;
      })
      sz (λ c u o n q. record { kept = λ k m. unstored H i v (c + k) (λ e. apart_cells a c t u w o p q n k (4 + j) m (omega arith) (omega arith)) }) (store-used H i v) (store_cells H i v)
    where
      i : ℕ
      i = element_at a j

      b : Block P Ψ H a t w
      b = hk.found a t w p

      near : a + 0 ≡ a
      near = omega arith

      head : (k : ℕ) → k < 4 → {m : ℕ} → a + k ≡ m → cell (store H (element_at a j) v) m ≡ cell H m
      head k h e = unstored H (element_at a j) v _ (λ z. omega arith)

      sz : size_at (store H (element_at a j) v) a ≡ size_at H a
      sz = head 2 (omega arith) refl

      inner : (k : ℕ) → k < size_at (store H (element_at a j) v) a → VD P Ψ (from_cell (slot_desc P t k) (cell (store H (element_at a j) v) (element_at a k))) (slot_desc P t k)
      inner k m = go (ℕ_discrete k j)
        where
          m' : k < size_at H a
          m' = rw sz at m

          go : Dec (k ≡ j) → VD P Ψ (from_cell (slot_desc P t k) (cell (store H (element_at a j) v) (element_at a k))) (slot_desc P t k)
          go (yes z) = rw (z, stored H (element_at a j) v (let i = b.inside in let n = hk.enough in omega arith)) x
          go (no z) = rw (unstored H (element_at a j) v (element_at a k) (λ e. z (omega arith))) (b.content k m')

  -- an object becomes ready
  pub readied : {d : ℕ} (a : ℕ) (t : Ref) (e : ℕ) (K : Key) → Ψ a ≡ some (hty t (born e K)) → Keeps d Ψ (upd Ψ a (hty t ready)) → HOK P (upd Ψ a (hty t ready)) (mark_ready H a)
  unfolding mark_ready type_at
  readied a t e K p k =
      changed (upd Ψ a (hty t ready)) (store H (a + 3) 1) a t (born e K) ready p (upd_same Ψ a (hty t ready)) (λ c n. upd_else Ψ a c (hty t ready) n) k
      (record {
        type = rw (head 0 near (λ z. omega arith), head 1 refl (λ z. omega arith)) b.type;
        ready = ap (λ (n : ℕ). eqb n 1) (stored H (a + 3) 1 (let i = b.inside in let n = hk.enough in omega arith));
        inside = let e : size_at (store H (a + 3) 1) a ≡ size_at H a = sz in let i = b.inside in omega (arith, store-used H (a + 3) 1);
        size = size-at P t (size_at (store H (a + 3) 1) a) (size_at H a) sz b.size;
        content = λ j m. let m' : j < size_at H a = rw sz at m in rw (unstored H (a + 3) 1 (element_at a j) (λ z. omega arith)) (keep_vd k (b.content j m'));
      })
      sz (λ c u o n q. record { kept = λ j m. unstored H (a + 3) 1 (c + j) (λ z. apart_cells a c t u (born e K) o p q n j 3 m (omega arith) z) }) (store-used H (a + 3) 1) (store_cells H (a + 3) 1)
    where
      b : Block P Ψ H a t (born e K)
      b = hk.found a t (born e K) p

      near : a + 0 ≡ a
      near = omega arith

      head : (k : ℕ) {m : ℕ} → a + k ≡ m → (m ≡ a + 3 → ⊥) → cell (store H (a + 3) 1) m ≡ cell H m
      head k e n = unstored H (a + 3) 1 _ n

      sz : size_at (store H (a + 3) 1) a ≡ size_at H a
      sz = head 2 refl (λ z. omega arith)

  -- an object that is not ready gets another owner
  pub lent : {d : ℕ} (a : ℕ) (t : Ref) (e : ℕ) (K : Key) (e' : ℕ) (K' : Key) → Ψ a ≡ some (hty t (born e K)) → Keeps d Ψ (upd Ψ a (hty t (born e' K'))) → HOK P (upd Ψ a (hty t (born e' K'))) H
  lent a t e K e' K' p k =
      changed (upd Ψ a (hty t (born e' K'))) H a t (born e K) (born e' K') p (upd_same Ψ a (hty t (born e' K'))) (λ c n. upd_else Ψ a c (hty t (born e' K')) n) k
      (record { type = b.type; ready = b.ready; inside = b.inside; size = b.size; content = λ j m. keep_vd k (b.content j m) })
      refl (λ c u o n q. record { kept = λ j m. refl }) refl refl
    where
      b : Block P Ψ H a t (born e K)
      b = hk.found a t (born e K) p

  -- one block more
  pub grown : (t : Ref) (n : ℕ) (w : Own) (r : ℕ) → T (has_room H n) → eqb r 1 ≡ is_ready w → ref_of (base_of t) (dimensions t) ≡ t → SizeOk P t n → HOK P (upd Ψ H.used (hty t w)) (allocate H t n r)
  unfolding has_room
  grown t n w r room re again sz = record { found = at; apart = two; enough = omega (arith, h, alloc_used H t n r h, alloc_cells H t n r h) }
    where
      h : H.used + need n ≤ length H.cells
      h = leb→le (H.used + need n) (length H.cells) room

      free : Ψ H.used ≡ none
      free = vacant H.used (omega arith)

      k : Keeps 0 Ψ (upd Ψ H.used (hty t w))
      k = keeps_more 0 Ψ H.used (hty t w) free

      same : (a : ℕ) (u : Ref) (v : Own) → Ψ a ≡ some (hty u v) → Same H (allocate H t n r) a (size_at H a)
      same a u v p = let i = (hk.found a u v p).inside in record { kept = λ j m. alloc_old H t n r h (a + j) (omega arith) }

      new : Block P (upd Ψ H.used (hty t w)) (allocate H t n r) H.used t w
      new = record {
        type = alloc_type H t n r h again;
        ready = ap (λ (v : ℕ). eqb v 1) (alloc_ready H t n r h) ∙ re;
        inside = let e = alloc_size H t n r h in omega (arith, alloc_used H t n r h);
        size = size-at P t (size_at (allocate H t n r) H.used) n (alloc_size H t n r h) sz;
        content = λ j m. let m' : j < n = rw (alloc_size H t n r h) at m in rw (alloc_new H t n r h j m') (zero_ok (slot_desc P t j));
      }

      at : (a : ℕ) (u : Ref) (v : Own) → upd Ψ H.used (hty t w) a ≡ some (hty u v) → Block P (upd Ψ H.used (hty t w)) (allocate H t n r) a u v
      at a u v p = go (eqb a H.used) refl p
        where
          go : (b : Bool) → eqb a H.used ≡ b → cond b (some (hty t w)) (Ψ a) ≡ some (hty u v) → Block P (upd Ψ H.used (hty t w)) (allocate H t n r) a u v
          go true q e = let z : a ≡ H.used = eqb→eq a H.used (rw q tt) in let et : t ≡ u = cc in let ew : w ≡ v = cc in rw (z, ← et, ← ew) new
          go false q e = kept_block k (same a u v e) (omega (arith, alloc_used H t n r h)) (hk.found a u v e)

      two : (a b : ℕ) (u u' : Ref) (v v' : Own) → upd Ψ H.used (hty t w) a ≡ some (hty u v) → upd Ψ H.used (hty t w) b ≡ some (hty u' v') → a < b → element_at a (size_at (allocate H t n r) a) ≤ b
      two a b u u' v v' p q l = go (ℕ_discrete a H.used) (ℕ_discrete b H.used)
        where
          old : (c : ℕ) (u : Ref) (v : Own) → upd Ψ H.used (hty t w) c ≡ some (hty u v) → (c ≡ H.used → ⊥) → Ψ c ≡ some (hty u v)
          old c u v p n = sym (upd_else Ψ H.used c (hty t w) n) ∙ p

          go : Dec (a ≡ H.used) → Dec (b ≡ H.used) → element_at a (size_at (allocate H t n r) a) ≤ b
          go (yes x) (yes y) = absurd (omega arith)
          go (yes x) (no y) = let i = (hk.found b u' v' (old b u' v' q y)).inside in absurd (omega arith)
          go (no x) (yes y) = let p' = old a u v p x in let i = (hk.found a u v p').inside in let e = same_size (same a u v p') in omega arith
          go (no x) (no y) = let p' = old a u v p x in let i = hk.apart a b u u' v v' p' (old b u' v' q y) l in let e = same_size (same a u v p') in omega arith

  -- what has its type passes the machine's test
  pub fits_ok : {v : Val} {D : Desc} → VD P Ψ v D → T (value_fits P H D v)
  fits_ok vdint = tt
  fits_ok vdnul = tt
  fits_ok (vdref {a} e p q) = let b = hk.found a e ready p in rw (b.ready, b.type) q

  -- what passes the machine's test has the type
  pub passes : {v : Val} {t : Ref} → VD P Ψ v (dref t) → (D : Desc) → T (value_fits P H D v) → VD P Ψ v D
  passes vdnul dint h = absurd h
  passes vdnul (dref u) h = vdnul
  passes (vdref e p q) dint h = absurd h
  passes (vdref {a} e p q) (dref u) h = let b = hk.found a e ready p in vdref e p (rw (b.ready, b.type) at h)
