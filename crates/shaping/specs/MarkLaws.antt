-- Laws of marks: the scan's turns, and what a mark says of an offset. Assumes nothing.
use Rattle.std.specs.Prelude.{ℕ, ◌+◌, ◌<◌, ◌≤◌, ◌≡◌, Bool, true, false, cond, not, ◌⊎◌, eqb, length, get_or, set, take, drop, replicate}
use Rattle.std.proofs.Common.{sym, subst, ◌∙◌, inl, inr, arith, take-take, length-take-le, eq-eqb, ne_eqb, refl, ap, List, [], ◌∷◌, ◌++◌, get_or-set_same, get_or-set_other}
use Rattle.std.proofs.lemmas.List.{length-replicate, take-set-le, take-append-le}
use Rattle.kit.specs.Pick.{side}
use Rattle.kit.specs.Lists.{length_part, length_back, get_or-back_in, get_or-replicate_same}
use Rattle.reader.specs.Program.{Program, Method}
use Rattle.rules.specs.Instruction.{Instr, is_new}
use Rattle.rules.specs.Opcodes.{code_of, instruction, size_at}
use Rattle.rules.specs.Lines.{Line, line, lines, is_start, is_new_at}
use Rattle.rules.specs.Sites.{front}
use Rattle.shaping.specs.Marks.{mark_at, mark_in, Cleared, Marked}
use Rattle.shaping.specs.LineLaws.{rest, rest_all, rest_more, rest-before, lines_after}

-- ---- what a mark says
pub start_is : (ls : List Line) (j : ℕ) → is_start ls j ≡ not (eqb (mark_in ls j) 0)
unfolding is_start mark_in
start_is [] j = refl
start_is (line o i n ∷ ls) j = go (eqb o j) (is_new i) (start_is ls j)
  where
    go : (a b : Bool) → is_start ls j ≡ not (eqb (mark_in ls j) 0) → cond a true (is_start ls j) ≡ not (eqb (cond a (cond b 2 1) (mark_in ls j)) 0)
    go true true r = refl
    go true false r = refl
    go false b r = r

pub new_is : (ls : List Line) (j : ℕ) → is_new_at ls j ≡ eqb (mark_in ls j) 2
unfolding is_new_at mark_in
new_is [] j = refl
new_is (line o i n ∷ ls) j = go (eqb o j) (is_new i) (new_is ls j)
  where
    go : (a b : Bool) → is_new_at ls j ≡ eqb (mark_in ls j) 2 → cond a b (is_new_at ls j) ≡ eqb (cond a (cond b 2 1) (mark_in ls j)) 2
    go true true r = refl
    go true false r = refl
    go false b r = r

-- ---- clearing and storing them
pub cleared : (t : List ℕ) (n : ℕ) → n ≤ 4096 → 262144 ≤ length t
    → Cleared n t (take 256640 t ++ (replicate n 0 ++ drop n (drop 256640 t)))
unfolding mark_at
cleared t n h l =
    let p : length {A = ℕ} (replicate n 0) ≡ n = length-replicate n 0 in
    let f : 256640 + n ≤ length t = omega arith in
    record {
      zeros = λ j k. get_or-back_in t (replicate n 0) 256640 n p f j 0 k ∙ get_or-replicate_same n j 0;
      front = front-back t (replicate n 0 ++ drop n (drop 256640 t)) (omega arith);
      long = length_back t (replicate n 0) 256640 n p f;
    }
  where
    front-back : (t m : List ℕ) → 256640 ≤ length t → front (take 256640 t ++ m) ≡ front t
    front-back t m h = take-append-le 187008 (take 256640 t) m (rw (length-take-le 256640 t h) (omega arith)) ∙ take-take 187008 256640 t (omega arith)

module _ (t : List ℕ) (o v : ℕ) where
  pub marked_front : front (set t (256640 + o) v) ≡ front t
  marked_front = take-set-le 187008 t (256640 + o) v (omega arith)

  pub marked_same : 256640 + o < length t → mark_at (set t (256640 + o) v) o ≡ v
  unfolding mark_at
  marked_same h = get_or-set_same t (256640 + o) v 0 h

  pub marked_other : (j : ℕ) → (j ≡ o → ⊥) → mark_at (set t (256640 + o) v) j ≡ mark_at t j
  unfolding mark_at
  marked_other j n = get_or-set_other t (256640 + o) (256640 + j) v 0 (λ e. n (omega arith))

-- ---- the scan at o: the lines before it are marked, and what comes is not
module _ (P : Program) (M : Method) where
  pub record Marking (t : List ℕ) (o : ℕ) : Type 0 where
    pub done : (j : ℕ) → j < o → j < length (code_of M) → mark_at t j ≡ mark_in (lines P M) j
    pub clean : (j : ℕ) → o ≤ j → j < length (code_of M) → mark_at t j ≡ 0
    pub later : (j : ℕ) → o ≤ j → mark_in (rest P M o) j ≡ mark_in (lines P M) j

  pub marking_start : (t : List ℕ) → ((j : ℕ) → j < length (code_of M) → mark_at t j ≡ 0) → Marking t 0
  marking_start t z = record {
    done = λ j h l. absurd (omega arith);
    clean = λ j h l. z j l;
    later = λ j h. ap (λ (ls : List Line). mark_in ls j) (sym (rest_all P M));
  }

  pub marking_end : (t : List ℕ) (o : ℕ) → length (code_of M) ≤ o → Marking t o → Marked (lines P M) (length (code_of M)) t
  marking_end t o h m = record { at = λ j l. m.done j (omega arith) l; past = λ j l. lines_after P M j l }

  module _ (t : List ℕ) (o n v : ℕ) (i : Instr) (h : o < length (code_of M)) (en : n ≡ size_at (code_of M) o) (z : n ≡ 0 → ⊥) (ei : i ≡ instruction P M o) (ev : v ≡ cond (is_new i) 2 1) (b : 256640 + o < length t) where
    more : rest P M o ≡ line o (instruction P M o) (o + size_at (code_of M) o) ∷ rest P M (o + size_at (code_of M) o)
    more = rest_more P M o h (λ e. z (en ∙ e))

    here : mark_in (rest P M o) o ≡ v
    unfolding mark_in
    here = ap (λ (ls : List Line). mark_in ls o) more ∙ rw (eq-eqb o o refl, ← ei) (sym ev)

    skip : (j : ℕ) → (j ≡ o → ⊥) → mark_in (rest P M o) j ≡ mark_in (rest P M (o + n)) j
    unfolding mark_in
    skip j d =
        ap (λ (ls : List Line). mark_in ls j) more ∙ rw (ne_eqb o j (λ e. d (sym e)), en)

    pub marking_turn : Marking t o → Marking (set t (256640 + o) v) (o + n)
    marking_turn m = record {
      done = λ j k l. by j k l (side j o) (side o j);
      clean = λ j k l. marked_other t o v j (λ e. z (omega arith)) ∙ m.clean j (omega arith) l;
      later = λ j k. sym (skip j (λ e. z (omega arith))) ∙ m.later j (omega arith);
    }
      where
        by : (j : ℕ) → j < o + n → j < length (code_of M) → (j < o) ⊎ (o ≤ j) → (o < j) ⊎ (j ≤ o) → mark_at (set t (256640 + o) v) j ≡ mark_in (lines P M) j
        by j k l (inl p) q = marked_other t o v j (λ e. omega arith) ∙ m.done j p l
        by j k l (inr p) (inl q) =
            marked_other t o v j (λ e. omega arith) ∙ m.clean j p l ∙ sym (rest-before P M (o + n) j k)
            ∙ sym (skip j (λ e. omega arith)) ∙ m.later j p
        by j k l (inr p) (inr q) =
            let e : o ≡ j = omega arith in
            subst (λ (a : ℕ). mark_at (set t (256640 + o) v) a ≡ mark_in (lines P M) a) e (marked_same t o v b ∙ sym here ∙ m.later o (omega arith))

-- ---- what the code reads of a mark b: of n offsets, all instructions start there
module _ (ls : List Line) (n o : ℕ) (t : List ℕ) (m : Marked ls n t) where
  pub start_past : n ≤ o → false ≡ is_start ls o
  start_past h = sym (start_is ls o ∙ rw (m.past o h))

  pub new_past : n ≤ o → false ≡ is_new_at ls o
  new_past h = sym (new_is ls o ∙ rw (m.past o h))

  module _ (b : ℕ) (e : b ≡ get_or t (256640 + o) 0) (h : o < n) where
    pub start_read : not (eqb b 0) ≡ is_start ls o
    unfolding mark_at
    start_read = rw (e, m.at o h) (sym (start_is ls o))

    pub new_read : eqb b 2 ≡ is_new_at ls o
    unfolding mark_at
    new_read = rw (e, m.at o h) (sym (new_is ls o))

-- as the checker hands the part back
pub clear_is : (t m : List ℕ) (n k : ℕ) → k ≡ n → n ≤ 4096 → 262144 ≤ length t → m ≡ replicate (length (take k (drop 256640 t))) 0
    → Cleared n t (take 256640 t ++ (m ++ drop k (drop 256640 t)))
clear_is t m n k e h l q =
    let p : m ≡ replicate n 0 = q ∙ ap (λ (j : ℕ). replicate j 0) (ap (λ (j : ℕ). length (take j (drop 256640 t))) e ∙ length_part 256640 n t (omega arith)) in
    rw (p, e) (cleared t n h l)
