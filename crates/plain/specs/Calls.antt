-- The calls as the code has them: a window of 64 slots and tags for each depth, a record of six words for each call that waits. Assumes nothing.
use Rattle.std.specs.Prelude.{◌≡◌, ℕ, zero, suc, ◌+◌, ◌*◌, ◌/◌, ◌^◌, ◌<◌, ◌≤◌, ◌⊎◌, List, [], ◌∷◌, ◌++◌, length, take, drop, ◌≢◌, slice_index}
use Rattle.std.proofs.Common.{sym, subst, ◌∙◌, inl, inr, arith, zero-add, add-zero, length-take-le, take_at, drop_at, refl, ap}
use Rattle.kit.specs.Lists.{part-part, length_back}
use Rattle.kit.specs.Pick.{side}
use Rattle.kit.specs.Words.{word, put_word, word_same, word_other, length_put}
use Rattle.classfiles.specs.BlockWords.{take_put}
use Rattle.plain.specs.Machine.{Call, call}
use Rattle.plain.specs.Windows.{locs_of, ops_of}
use Rattle.plain.specs.declared.frames.Frame.{Frame}

abbrev pub window_at : List ℕ → ℕ → List ℕ
window_at l d = take 64 (drop (64 * d) l)

-- the record at depth d, of those from word a on
unfoldable pub frame_at : List ℕ → ℕ → ℕ → Frame
frame_at t a d = record {
  class = word t (a + 6 * d);
  method = word t (a + 6 * d + 1);
  offset = word t (a + 6 * d + 2);
  own = word t (a + 6 * d + 3);
  operands = word t (a + 6 * d + 4);
  locals = word t (a + 6 * d + 5);
}

-- a call with its values
abbrev pub call_of : Frame → List ℕ → List ℕ → Call
call_of k w g = call k.class k.method k.offset k.own (locs_of w g k.locals) (ops_of w g k.operands)

unfoldable pub call_at : List ℕ → ℕ → List ℕ → List ℕ → ℕ → Call
call_at t a s g d = call_of (frame_at t a d) (window_at s d) (window_at g d)

-- the calls below depth d, the innermost first
unfoldable pub waiting : List ℕ → ℕ → List ℕ → List ℕ → ℕ → List Call
waiting t a s g zero = []
waiting t a s g (suc d) = call_at t a s g d ∷ waiting t a s g d

pub length-waiting : (t : List ℕ) (a : ℕ) (s g : List ℕ) (d : ℕ) → length (waiting t a s g d) ≡ d
unfolding waiting
length-waiting t a s g zero = refl
length-waiting t a s g (suc d) = ap suc (length-waiting t a s g d)

-- ---- what stores leave
-- a window lies in the front that ends above it
front_window : (l : List ℕ) (d e : ℕ) → e < d → take 64 (drop (64 * e) (take (64 * d) l)) ≡ window_at l e
front_window l d e h = part-part 0 (64 * d) (64 * e) 64 l (omega arith) ∙ ap (λ (n : ℕ). take 64 (drop n l)) (zero-add (64 * e))

pub window_kept : (l l' : List ℕ) (d e : ℕ) → take (64 * d) l ≡ take (64 * d) l' → e < d → window_at l e ≡ window_at l' e
window_kept l l' d e h b = sym (front_window l d e b) ∙ ap (λ (m : List ℕ). take 64 (drop (64 * e) m)) h ∙ front_window l' d e b

module _ (t t' : List ℕ) (a : ℕ) (s s' g g' : List ℕ) where
  waiting_by : (d : ℕ) → ((e : ℕ) → e < d → frame_at t a e ≡ frame_at t' a e) → ((e : ℕ) → e < d → window_at s e ≡ window_at s' e) → ((e : ℕ) → e < d → window_at g e ≡ window_at g' e)
      → waiting t a s g d ≡ waiting t' a s' g' d
  unfolding waiting call_at
  waiting_by zero f p q = refl
  waiting_by (suc d) f p q =
      rw (waiting_by d (λ e b. f e (omega arith)) (λ e b. p e (omega arith)) (λ e b. q e (omega arith)), f d (omega arith), p d (omega arith), q d (omega arith))

  -- the records below d and the slots in front of window d decide
  pub waiting_kept : (d : ℕ) → ((e : ℕ) → e < d → frame_at t a e ≡ frame_at t' a e) → take (64 * d) s ≡ take (64 * d) s' → take (64 * d) g ≡ take (64 * d) g'
      → waiting t a s g d ≡ waiting t' a s' g' d
  waiting_kept d f p q = waiting_by d f (λ e b. window_kept s s' d e p b) (λ e b. window_kept g g' d e q b)

-- a window that came back as m, in the checker's form of what a `&mut` part leaves
module _ (l m : List ℕ) (d : ℕ) (h : length m ≡ 64) (f : 64 * d + 64 ≤ length l) where
  abbrev back : List ℕ
  back = take (64 * d) l ++ (m ++ drop 64 (drop (64 * d) l))

  in_front : length (take (64 * d) l) ≡ 64 * d
  in_front = length-take-le (64 * d) l (omega arith)

  pub part-front : take (64 * d) back ≡ take (64 * d) l
  part-front = take_at (take (64 * d) l) (m ++ drop 64 (drop (64 * d) l)) (64 * d) in_front

  pub part_window : window_at back d ≡ m
  part_window =
      ap (take 64) (drop_at (take (64 * d) l) (m ++ drop 64 (drop (64 * d) l)) (64 * d) in_front) ∙ take_at m (drop 64 (drop (64 * d) l)) 64 h

  pub part_length : length back ≡ length l
  part_length = length_back l m (64 * d) 64 h f

-- ---- a record put
pub record Saved (t t' : List ℕ) (a d : ℕ) (k : Frame) : Type 0 where
  pub here : frame_at t' a d ≡ k
  pub others : (e : ℕ) → (e ≢ d) → frame_at t' a e ≡ frame_at t a e
  pub front : take (4 * a) t' ≡ take (4 * a) t
  pub size : length t' ≡ length t

-- a call at depth d that waits with its window kept
pub waiting_more : (t t' : List ℕ) (a : ℕ) (s s' g g' : List ℕ) (d : ℕ) (k : Frame) → Saved t t' a d k → take (64 * suc d) s' ≡ take (64 * suc d) s → take (64 * suc d) g' ≡ take (64 * suc d) g
    → waiting t' a s' g' (suc d) ≡ call_of k (window_at s d) (window_at g d) ∷ waiting t a s g d
unfolding waiting call_at
waiting_more t t' a s s' g g' d k h p q =
    rw (
      h.here,
      window_kept s' s (suc d) d p (omega arith),
      window_kept g' g (suc d) d q (omega arith),
      waiting_by t' t a s' s g' g d (λ e b. h.others e (λ z. omega arith)) (λ e b. window_kept s' s (suc d) e p (omega arith)) (λ e b. window_kept g' g (suc d) e q (omega arith)),
    )

-- ---- words put in a row
puts : List ℕ → ℕ → List ℕ → List ℕ
puts t b [] = t
puts t b (v ∷ vs) = puts (put_word t b v) (b + 1) vs

Small : List ℕ → Type 0
Small [] = Unit {0}
Small (v ∷ vs) = (v < 2 ^ 32) × Small vs

length_puts : (t : List ℕ) (b : ℕ) (vs : List ℕ) → length (puts t b vs) ≡ length t
unfolding puts
length_puts t b [] = refl
length_puts t b (v ∷ vs) = length_puts (put_word t b v) (b + 1) vs ∙ length_put t b v

puts_other : (t : List ℕ) (b : ℕ) (vs : List ℕ) (j : ℕ) → ((j < b) ⊎ (b + length vs ≤ j)) → word (puts t b vs) j ≡ word t j
unfolding puts
puts_other t b [] j h = refl
puts_other t b (v ∷ vs) j (inl h) = puts_other (put_word t b v) (b + 1) vs j (inl (omega arith)) ∙ word_other t b v j (λ e. omega arith)
puts_other t b (v ∷ vs) j (inr h) = puts_other (put_word t b v) (b + 1) vs j (inr (omega arith)) ∙ word_other t b v j (λ e. omega arith)

puts_front : (t : List ℕ) (b : ℕ) (vs : List ℕ) (a : ℕ) → a ≤ b → take (4 * a) (puts t b vs) ≡ take (4 * a) t
unfolding puts
puts_front t b [] a h = refl
puts_front t b (v ∷ vs) a h = puts_front (put_word t b v) (b + 1) vs a (omega arith) ∙ take_put a t b v h

puts_at : (t : List ℕ) (b : ℕ) (vs : List ℕ) (i : ℕ) → i < length vs → b + length vs ≤ length t / 4 → Small vs → word (puts t b vs) (b + i) ≡ slice_index vs i
unfolding puts Small
puts_at t b [] i h l m = absurd (omega arith)
puts_at t b (v ∷ vs) zero h l m =
    rw (add-zero b) (puts_other (put_word t b v) (b + 1) vs b (inl (omega arith)) ∙ word_same t b v (omega arith) m.0)
puts_at t b (v ∷ vs) (suc i) h l m =
    let e : b + suc i ≡ b + 1 + i = omega arith in
    rw e (puts_at (put_word t b v) (b + 1) vs i (omega arith) (rw (length_put t b v) (omega arith)) m.1)

abbrev fields_of : Frame → List ℕ
fields_of k = k.class ∷ k.method ∷ k.offset ∷ k.own ∷ k.operands ∷ k.locals ∷ []

frame_is : (k : Frame) (a b c d e f : ℕ) → a ≡ k.class → b ≡ k.method → c ≡ k.offset → d ≡ k.own → e ≡ k.operands → f ≡ k.locals
    → record { class = a; method = b; offset = c; own = d; operands = e; locals = f } ≡ k
frame_is k a b c d e f p q r s t u = rw (p, q, r, s, t, u)

module _ (t : List ℕ) (a d : ℕ) (k : Frame) (room : a + 6 * d + 6 ≤ length t / 4) (small : Small (fields_of k)) where
  at : (i : ℕ) → i < 6 → word (puts t (a + 6 * d) (fields_of k)) (a + 6 * d + i) ≡ slice_index (fields_of k) i
  at i h = puts_at t (a + 6 * d) (fields_of k) i h (omega arith) small

  apart : (e i : ℕ) → (e ≢ d) → i < 6 → (a + 6 * e + i < a + 6 * d) ⊎ (a + 6 * d + 6 ≤ a + 6 * e + i)
  apart e i n h = go (side e d)
    where
      go : (e < d) ⊎ (d ≤ e) → (a + 6 * e + i < a + 6 * d) ⊎ (a + 6 * d + 6 ≤ a + 6 * e + i)
      go (inl l) = inl (omega arith)
      go (inr l) = inr (omega arith)

  away : (e i : ℕ) → (e ≢ d) → i < 6 → word (puts t (a + 6 * d) (fields_of k)) (a + 6 * e + i) ≡ word t (a + 6 * e + i)
  away e i n h = puts_other t (a + 6 * d) (fields_of k) (a + 6 * e + i) (apart e i n h)

  puts_saved : Saved t (puts t (a + 6 * d) (fields_of k)) a d k
  unfolding frame_at
  puts_saved = record {
    here = frame_is k _ _ _ _ _ _ (ap (word (puts t (a + 6 * d) (fields_of k))) (sym (add-zero (a + 6 * d))) ∙ at 0 (omega arith)) (at 1 (omega arith)) (at 2 (omega arith)) (at 3 (omega arith)) (at 4 (omega arith)) (at 5 (omega arith));
    others = λ e n. frame_is (frame_at t a e) _ _ _ _ _ _
        (ap (word (puts t (a + 6 * d) (fields_of k))) (sym (add-zero (a + 6 * e))) ∙ away e 0 n (omega arith) ∙ ap (word t) (add-zero (a + 6 * e)))
        (away e 1 n (omega arith)) (away e 2 n (omega arith)) (away e 3 n (omega arith)) (away e 4 n (omega arith)) (away e 5 n (omega arith));
    front = puts_front t (a + 6 * d) (fields_of k) a (omega arith);
    size = length_puts t (a + 6 * d) (fields_of k);
  }

-- the six words as the code puts them
pub record_put : (t t1 t2 t3 t4 t5 t6 : List ℕ) (a d : ℕ) (k : Frame) → a + 6 * d + 6 ≤ length t / 4
    → k.class < 2 ^ 32 → k.method < 2 ^ 32 → k.offset < 2 ^ 32 → k.own < 2 ^ 32 → k.operands < 2 ^ 32 → k.locals < 2 ^ 32
    → t1 ≡ put_word t (a + 6 * d) k.class → t2 ≡ put_word t1 (a + 6 * d + 1) k.method → t3 ≡ put_word t2 (a + 6 * d + 2) k.offset
    → t4 ≡ put_word t3 (a + 6 * d + 3) k.own → t5 ≡ put_word t4 (a + 6 * d + 4) k.operands → t6 ≡ put_word t5 (a + 6 * d + 5) k.locals → Saved t t6 a d k
unfolding puts Small
record_put t t1 t2 t3 t4 t5 t6 a d k room m1 m2 m3 m4 m5 m6 e1 e2 e3 e4 e5 e6 =
    let b = a + 6 * d in
    let n2 : b + 1 + 1 ≡ b + 2 = omega arith in
    let n3 : b + 2 + 1 ≡ b + 3 = omega arith in
    let n4 : b + 3 + 1 ≡ b + 4 = omega arith in
    let n5 : b + 4 + 1 ≡ b + 5 = omega arith in
    let q : puts t b (fields_of k) ≡ t6 = rw (e6, e5, e4, e3, e2, e1, n2, n3, n4, n5) in
    subst (λ (u : List ℕ). Saved t u a d k) q (puts_saved t a d k room (m1, (m2, (m3, (m4, (m5, (m6, tt)))))))
