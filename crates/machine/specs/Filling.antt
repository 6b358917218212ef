-- The table of virtual calls as it is filled, word after word. Assumes nothing.
use Rattle.std.specs.Prelude.{Option, Some, None, IfSome, ℕ, ◌+◌, ◌-◌, ◌*◌, ◌/◌, ◌%◌, ◌^◌, ◌<◌, ◌≤◌, ◌≡◌, refl, Bool, true, false, not, List, ◌⊎◌, length, take}
use Rattle.std.proofs.Common.{sym, ap, subst, ◌∙◌, inl, inr, arith, ne_eqb, length-take, take-take, get_or-take}
use Rattle.std.proofs.lemmas.Bool.{not-true}
use Rattle.kit.specs.Bools.{not_so}
use Rattle.kit.specs.Pick.{side}
use Rattle.kit.specs.Words.{word, put_word, word_same, word_other, word-take}
use Rattle.reader.specs.BuiltIns.{first_class}
use Rattle.classfiles.specs.Blocks.{block_size, classes_in}
use Rattle.classfiles.specs.Bundle.{ClassFile}
use Rattle.texts.specs.Names.{Text, is_init}
use Rattle.reader.specs.Program.{Signature, signature, method, program_of, below, method_sigs, nowhere, spot, lookup}
use Rattle.reader.specs.Linked.{parents_at, files_in}
use Rattle.reader.specs.Lookup.{hit_of, class-count}
use Rattle.reader.specs.MemberRows.{block_at, row_count, row_sig, sig_by}
use Rattle.reader.specs.MemberAt.{method-sig}
use Rattle.reader.specs.Whole.{Tables}
use Rattle.reader.specs.Prints.{print_of, prints_end, prints_word, word_of, print_texts, same_block, PrintedAt, Printed, FewRows, AllPrinted}
use Rattle.reader.specs.declared.lookup.Hit.{Hit}
use Rattle.rules.specs.Ancestry.{lineage, below_lineage}
use Rattle.shaping.specs.Resolving.{seek-fits}
use Rattle.shaping.specs.Kept.{tables_kept}
use Rattle.rules.specs.Sites.{front}
use Rattle.verifier.specs.Besides.{Besides, besides_none, besides_put, besides_then, besides_word, besides_front}
use Rattle.shaping.specs.Phases.{Readied, readied_kept, row_there}
use Rattle.running.specs.Standing.{method_by}
use Rattle.running.specs.Dispatching.{spot_word, spot_of, Dispatch}

abbrev pub table_at : ℕ
table_at = 48800

abbrev pub table_size : ℕ
table_size = 16384

-- the blocks lie in the front
pub front_long : (t : List ℕ) → 262144 ≤ length t → 16 * block_size ≤ length (front t)
front_long t h = omega (arith, length-take 187008 t)

-- ---- the tables and the members' prints, which stand behind the front
abbrev pub wide : List ℕ → List ℕ
wide t = take prints_end t

module _ (t : List ℕ) where
  wide-take : (k : ℕ) → k ≤ 187008 → take k (wide t) ≡ take k (front t)
  wide-take k l = take-take k prints_end t (omega arith) ∙ sym (take-take k 187008 t l)

  pub wide_files : (b : List ℕ) (n : ℕ) → files_in b n (wide t) ≡ files_in b n (front t)
  wide_files b n = ap (λ (l : List ℕ). classes_in b l n) (wide-take parents_at (omega arith))

  wide-block : (c : ℕ) → c < 16 → block_at (wide t) c ≡ block_at (front t) c
  wide-block c l = same_block (front t) (wide t) (wide-take parents_at (omega arith)) c l

  pub wide_rows : (n c i : ℕ) → n ≤ 16 → c < n → i < row_count (block_at (front t) c) true → i < row_count (block_at (wide t) c) true
  wide_rows n c i m l h = rw (wide-block c (omega arith)) h

  pub wide-tables : (b : List ℕ) (n : ℕ) → Tables b n (front t) → Tables b n (wide t)
  wide-tables b n h = tables_kept b n (front t) (wide t) h (wide-take 103040 (omega arith)) (λ p a z. get_or-take prints_end t p 0 (omega arith) ∙ sym (get_or-take 187008 t p 0 z))

  pub wide_long : 262144 ≤ length t → 16 * block_size ≤ length (wide t)
  wide_long h = omega (arith, length-take prints_end t)

  pub wide_printed : (b : List ℕ) (n : ℕ) → n ≤ 16 → 262144 ≤ length t → Printed b n t → Printed b n (wide t)
  wide_printed b n m h p = record { at = λ c l method. one c (omega arith) method (p.at c l method) }
    where
      one : (c : ℕ) → c < 16 → (method : Bool) → PrintedAt b t c method → PrintedAt b (wide t) c method
      one c l method q =
          let e : block_at (wide t) c ≡ block_at t c = same_block t (wide t) (take-take parents_at prints_end t (omega arith)) c l in
          record {
            long = omega (arith, length-take prints_end t);
            few = rw e q.few;
            at = λ j o.
                let y : j < row_count (block_at t c) method = rw e at o in
                word-take prints_end t (prints_word c method + j) (omega (arith, (word_of c method l).1, q.few)) ∙ q.at j y ∙ ap (λ (k : List ℕ). print_of (row_sig b k method j)) (sym e);
          }

-- before they are written
pub few_rows : (b : List ℕ) (n : ℕ) (t : List ℕ) → Readied b n t → (n ≤ 16) × (prints_end ≤ length t) × FewRows n t
few_rows b n t h = (h.prepared.tables.most, omega (arith, h.long), record { at = λ c l method. few c l method })
  where
    same : (c : ℕ) → c < n → block_at t c ≡ block_at (front t) c
    same c l = same_block (front t) t (sym (take-take parents_at 187008 t (omega arith))) c (omega (arith, h.prepared.tables.most))

    few : (c : ℕ) → c < n → (method : Bool) → row_count (block_at t c) method ≤ 64
    few c l true = rw (same c l) (h.prepared.tables.limited.methods c l)
    few c l false = rw (same c l) (omega (arith, h.prepared.tables.limited.fields c l))

-- ---- one word
pub record SmallHit (h : Hit) : Type 0 where
  pub class : h.class < 32
  pub index : h.index < 64

pub packed_none : spot_of 0 ≡ nowhere
unfolding spot_of
packed_none = refl

spot_packed : (c j : ℕ) → j < 64 → spot_of (1 + 64 * c + j) ≡ spot c j
unfolding spot_of
spot_packed c j l =
    let p : (1 + 64 * c + j - 1) / 64 ≡ c = omega arith in
    let q : (1 + 64 * c + j - 1) % 64 ≡ j = omega arith in
    rw (ne_eqb (1 + 64 * c + j) 0 (λ z. omega arith), p, q)

pub packed_some : (h : Hit) → SmallHit h → spot_of (1 + 64 * h.class + h.index) ≡ spot h.class h.index
packed_some h s = spot_packed h.class h.index s.index

-- the word v stands for the method i of class o as an object of class c has it, in the program of the front f
abbrev pub Chosen : List ℕ → ℕ → List ℕ → ℕ → ℕ → ℕ → ℕ → Type 0
Chosen b n f c o i v = spot_of v ≡ lookup (program_of (files_in b n f)) method_sigs (method_by b n f (first_class + o) i).sig (first_class + c)

-- what its choice asks
pub record Asks (b : List ℕ) (n : ℕ) (f : List ℕ) (c o i : ℕ) : Type 0 where
  pub tables : Tables b n f
  pub printed : Printed b n f
  pub long : 16 * block_size ≤ length f
  pub class : c < n
  pub owner : o < n
  pub row : i < row_count (block_at f o) true

module _ (b : List ℕ) (n : ℕ) (f : List ℕ) (h : Tables b n f) where
  pub sought_small : (g : Signature) (from : ℕ) (r : Option Hit) → hit_of r ≡ lookup (program_of (files_in b n f)) method_sigs g from → IfSome r SmallHit
  sought_small g from None e = tt
  sought_small g from (Some r) e =
      let x = seek-fits b n f h.most h.limited g (Some r) from (is_init g.name) e refl in
      record { class = x.0; index = x.1 }

  -- the print that stands for method i is that of its texts
  pub asked_print : (c o i a : ℕ) (p d : Text) → Asks b n f c o i → a ≡ word f (prints_word o true + i) → p ≡ (row_sig b (block_at f o) true i).name → d ≡ (row_sig b (block_at f o) true i).descriptor
      → a ≡ print_of (signature p d)
  asked_print c o i a p d q e x y = print_texts b f o true i a p d (q.printed.at o q.owner true) q.row e x y

  pub chosen_by : (c o i : ℕ) (p d : Text) (r : Option Hit) (v : ℕ) → o < n → i < row_count (block_at f o) true → p ≡ (row_sig b (block_at f o) true i).name → d ≡ (row_sig b (block_at f o) true i).descriptor
      → hit_of r ≡ lookup (program_of (files_in b n f)) method_sigs (signature p d) (first_class + c)
      → spot_of v ≡ hit_of r → Chosen b n f c o i v
  chosen_by c o i p d r v l g x y e q =
      q ∙ e ∙ ap (λ (k : Signature). lookup (program_of (files_in b n f)) method_sigs k (first_class + c)) (sig_by b (block_at f o) true i p d x y ∙ sym (method-sig b n f h.most o l i g))

-- ---- all words below m
pub record Filled (b : List ℕ) (n : ℕ) (f : List ℕ) (m : ℕ) (t : List ℕ) : Type 0 where
  pub at : (c o i : ℕ) → c < n → o < n → i < row_count (block_at f o) true → below (program_of (files_in b n f)) (first_class + c) (first_class + o) ≡ true → spot_word c o i < m
      → Chosen b n f c o i (word t (spot_word c o i))

-- and nothing else is changed
pub record Filling (b : List ℕ) (n : ℕ) (t : List ℕ) (m : ℕ) (u : List ℕ) : Type 0 where
  pub filled : Filled b n (front t) m u
  pub beside : Besides table_at table_size t u

module _ (b : List ℕ) (n : ℕ) (t : List ℕ) (m : ℕ) (u : List ℕ) (h : Filling b n t m u) where
  pub same_front : front u ≡ front t
  same_front = besides_front table_at table_size t u h.beside (omega arith)

  pub filling_now : Filled b n (front u) m u
  filling_now = subst (λ (f : List ℕ). Filled b n f m u) (sym same_front) h.filled

  pub filling_readied : Readied b n t → Readied b n u
  filling_readied r = readied_kept b n t u r same_front h.beside.long

  -- the prints stand before the table
  pub filling_printed : n ≤ 16 → Printed b n t → Printed b n u
  filling_printed m p = record { at = λ c l method. one c (omega arith) method (p.at c l method) }
    where
      one : (c : ℕ) → c < 16 → (method : Bool) → PrintedAt b t c method → PrintedAt b u c method
      one c l method q =
          let e : block_at u c ≡ block_at t c = same_block t u (sym (take-take parents_at 187008 u (omega arith)) ∙ ap (take parents_at) same_front ∙ take-take parents_at 187008 t (omega arith)) c l in
          record {
            long = omega (arith, q.long, h.beside.long);
            few = rw e q.few;
            at = λ j o.
                let y : j < row_count (block_at t c) method = rw e at o in
                besides_word table_at table_size t u h.beside (prints_word c method + j) (inl (omega (arith, (word_of c method l).1, q.few)))
                ∙ q.at j y ∙ ap (λ (k : List ℕ). print_of (row_sig b k method j)) (sym e);
          }

  pub filling_then : (k : ℕ) (v : List ℕ) → Filling b n u k v → Filling b n t k v
  filling_then k v g = record {
    filled = subst (λ (f : List ℕ). Filled b n f k v) same_front g.filled;
    beside = besides_then table_at table_size t u v h.beside g.beside;
  }

pub filling_from : (b : List ℕ) (n : ℕ) (t : List ℕ) (m k : ℕ) → m ≡ k → Filled b n (front t) m t → Filling b n t k t
filling_from b n t m k e h = record { filled = subst (λ (i : ℕ). Filled b n (front t) i t) e h; beside = besides_none table_at table_size t }

-- no word that is asked for stands between
module _ (b : List ℕ) (n : ℕ) (f t : List ℕ) (tables : Tables b n f) where
  filled_on : (m k : ℕ) → Filled b n f m t
      → ((c o i : ℕ) → c < n → o < n → i < row_count (block_at f o) true → below (program_of (files_in b n f)) (first_class + c) (first_class + o) ≡ true → m ≤ spot_word c o i → spot_word c o i < k → ⊥)
      → Filled b n f k t
  filled_on m k h none = record { at = λ c o i lc lo li p l. go c o i lc lo li p l (side (spot_word c o i) m) }
    where
      go : (c o i : ℕ) → c < n → o < n → i < row_count (block_at f o) true → below (program_of (files_in b n f)) (first_class + c) (first_class + o) ≡ true → spot_word c o i < k
          → (spot_word c o i < m) ⊎ (m ≤ spot_word c o i) → Chosen b n f c o i (word t (spot_word c o i))
      go c o i lc lo li p l (inl y) = h.at c o i lc lo li p y
      go c o i lc lo li p l (inr y) = absurd (none c o i lc lo li p y l)

  few : (o i : ℕ) → o < n → i < row_count (block_at f o) true → i < 64
  few o i l h = omega (arith, tables.limited.methods o l)

  -- the other methods of class o are none
  pub filled_row : (c o i k : ℕ) → c < n → o < n → k ≡ row_count (block_at f o) true → k ≤ i → Filled b n f (spot_word c o i) t → Filled b n f (spot_word c (o + 1) 0) t
  filled_row c o i k lc lo e g h = filled_on (spot_word c o i) (spot_word c (o + 1) 0) h none
    where
      none : (c' o' i' : ℕ) → c' < n → o' < n → i' < row_count (block_at f o') true → below (program_of (files_in b n f)) (first_class + c') (first_class + o') ≡ true
          → spot_word c o i ≤ spot_word c' o' i' → spot_word c' o' i' < spot_word c (o + 1) 0 → ⊥
      none c' o' i' hc ho hi p a z =
          let m = tables.most in
          let w : i' < 64 = few o' i' ho hi in
          let x : c' ≡ c = omega arith in
          let y : o' ≡ o = omega arith in
          let v : i' < row_count (block_at f o) true = subst (λ (j : ℕ). i' < row_count (block_at f j) true) y hi in
          omega arith

  -- nor those of a class that c is not below
  pub filled_apart : (c o : ℕ) (r : Bool) → c < n → o < n → r ≡ below (lineage f 25728 (11 + n)) (11 + c) (11 + o) → not r ≡ true → Filled b n f (spot_word c o 0) t → Filled b n f (spot_word c (o + 1) 0) t
  filled_apart c o r lc lo e q h = filled_on (spot_word c o 0) (spot_word c (o + 1) 0) h none
    where
      apart : below (program_of (files_in b n f)) (first_class + c) (first_class + o) ≡ false
      apart =
          sym (below_lineage (program_of (files_in b n f)) f 25728 (11 + n) (record { count = sym (class-count b n f tables.most); parent = λ k z. tables.parents.at k z }) (11 + c) (11 + o))
          ∙ sym e ∙ not-true r q

      none : (c' o' i' : ℕ) → c' < n → o' < n → i' < row_count (block_at f o') true → below (program_of (files_in b n f)) (first_class + c') (first_class + o') ≡ true
          → spot_word c o 0 ≤ spot_word c' o' i' → spot_word c' o' i' < spot_word c (o + 1) 0 → ⊥
      none c' o' i' hc ho hi p a z =
          let m = tables.most in
          let w : i' < 64 = few o' i' ho hi in
          let x : c' ≡ c = omega arith in
          let y : o' ≡ o = omega arith in
          not_so (sym apart ∙ ap (λ (j : ℕ). below (program_of (files_in b n f)) (first_class + j) (first_class + o)) (sym x) ∙ ap (λ (j : ℕ). below (program_of (files_in b n f)) (first_class + c') (first_class + j)) (sym y) ∙ p)

  pub filled_class : (c o : ℕ) → c < n → n ≤ o → Filled b n f (spot_word c o 0) t → Filled b n f (spot_word (c + 1) 0 0) t
  filled_class c o lc g h = filled_on (spot_word c o 0) (spot_word (c + 1) 0 0) h none
    where
      none : (c' o' i' : ℕ) → c' < n → o' < n → i' < row_count (block_at f o') true → below (program_of (files_in b n f)) (first_class + c') (first_class + o') ≡ true
          → spot_word c o 0 ≤ spot_word c' o' i' → spot_word c' o' i' < spot_word (c + 1) 0 0 → ⊥
      none c' o' i' hc ho hi p a y =
          let m = tables.most in
          let w : i' < 64 = few o' i' ho hi in
          let x : c' ≡ c = omega arith in
          omega arith

  pub filled_none : Filled b n f (spot_word 0 0 0) t
  filled_none = record { at = λ c o i lc lo li p l. absurd (omega arith) }

  -- one more
  pub filled_put : (c o i w : ℕ) → c < n → o < n → i < row_count (block_at f o) true → 65184 ≤ length t / 4 → w < 2 ^ 32 → Chosen b n f c o i w → Filled b n f (spot_word c o i) t
      → Filled b n f (spot_word c o (i + 1)) (put_word t (spot_word c o i) w)
  filled_put c o i w lc lo li long small e h = record { at = λ c' o' i' hc ho hi p l. go c' o' i' hc ho hi p l (side (spot_word c' o' i') (spot_word c o i)) }
    where
      go : (c' o' i' : ℕ) → c' < n → o' < n → i' < row_count (block_at f o') true → below (program_of (files_in b n f)) (first_class + c') (first_class + o') ≡ true → spot_word c' o' i' < spot_word c o (i + 1)
          → (spot_word c' o' i' < spot_word c o i) ⊎ (spot_word c o i ≤ spot_word c' o' i') → Chosen b n f c' o' i' (word (put_word t (spot_word c o i) w) (spot_word c' o' i'))
      go c' o' i' hc ho hi p l (inl y) = ap spot_of (word_other t (spot_word c o i) w (spot_word c' o' i') (λ z. omega arith)) ∙ h.at c' o' i' hc ho hi p y
      go c' o' i' hc ho hi p l (inr y) =
          let m = tables.most in
          let v : i' < 64 = few o' i' ho hi in
          let u : i < 64 = few o i lo li in
          let x : c' ≡ c = omega arith in
          let z : o' ≡ o = omega arith in
          let q : i' ≡ i = omega arith in
          rw (x, z, q) (ap spot_of (word_same t (spot_word c o i) w (omega arith) small) ∙ e)

  pub put_beside : (c o i w : ℕ) (t₀ : List ℕ) → c < n → o < n → i < row_count (block_at f o) true → Besides table_at table_size t₀ t → Besides table_at table_size t₀ (put_word t (spot_word c o i) w)
  put_beside c o i w t₀ lc lo li h =
      let m = tables.most in
      let u : i < 64 = few o i lo li in
      besides_put table_at table_size (spot_word c o i) w t₀ t (omega arith) (omega arith) h

-- what one word asks
pub record Puts (b : List ℕ) (n : ℕ) (t : List ℕ) (c o i : ℕ) : Type 0 where
  pub ready : Readied b n t
  pub printed : Printed b n t
  pub class : c < n
  pub owner : o < n
  pub row : i < row_count (block_at (front t) o) true
  pub filled : Filled b n (front t) (spot_word c o i) t

module _ (b : List ℕ) (n : ℕ) (t : List ℕ) (c o i : ℕ) (h : Puts b n t c o i) where
  abbrev tables : Tables b n (front t)
  tables = h.ready.prepared.tables

  pub puts_small : (c < 16) × (o < 16) × (i < 64)
  puts_small = (omega (arith, h.class, tables.most), omega (arith, h.owner, tables.most), few b n (front t) t tables o i h.owner h.row)

  pub puts_asks : Asks b n (wide t) c o i
  puts_asks = record {
    tables = wide-tables t b n tables;
    printed = wide_printed t b n tables.most h.ready.long h.printed;
    long = wide_long t h.ready.long;
    class = h.class;
    owner = h.owner;
    row = wide_rows t n o i tables.most h.owner h.row;
  }

  pub puts_more : (v : List ℕ) (w : ℕ) → w < 2 ^ 32 → Chosen b n (wide t) c o i w → v ≡ put_word t (spot_word c o i) w → Filling b n t (spot_word c o (i + 1)) v
  puts_more v w small q z =
      let here : Chosen b n (front t) c o i w = q ∙ ap (λ (f : List ClassFile). lookup (program_of f) method_sigs (method (program_of f) (first_class + o) i).sig (first_class + c)) (wide_files t b n) in
      rw z (record {
        filled = filled_put b n (front t) t tables c o i w h.class h.owner h.row (omega (arith, h.ready.long)) small here h.filled;
        beside = put_beside b n (front t) t tables c o i w t h.class h.owner h.row (besides_none table_at table_size t);
      })

-- what the loops do
module _ (b : List ℕ) (n : ℕ) (t : List ℕ) (r : Readied b n t) where
  pub puts_now : (u : List ℕ) (c o i k : ℕ) → Printed b n t → c < n → o < n → k ≡ row_count (block_at (front t) o) true → i < k → Filling b n t (spot_word c o i) u → Puts b n u c o i
  puts_now u c o i k p lc lo e l h = record {
    ready = filling_readied b n t (spot_word c o i) u h r;
    printed = filling_printed b n t (spot_word c o i) u h r.prepared.tables.most p;
    class = lc;
    owner = lo;
    row = row_there t u o k i e (same_front b n t (spot_word c o i) u h) l;
    filled = filling_now b n t (spot_word c o i) u h;
  }

  pub row_end : (u : List ℕ) (c o i k : ℕ) → c < n → o < n → k ≡ row_count (block_at (front t) o) true → k ≤ i → Filling b n t (spot_word c o i) u → Filling b n t (spot_word c (o + 1) 0) u
  row_end u c o i k lc lo e l h = record { filled = filled_row b n (front t) u r.prepared.tables c o i k lc lo e l h.filled; beside = h.beside }

  pub row_apart : (c o : ℕ) (q : Bool) → c < n → o < n → q ≡ below (lineage (front t) 25728 (11 + n)) (11 + c) (11 + o) → not q ≡ true → Filled b n (front t) (spot_word c o 0) t → Filling b n t (spot_word c (o + 1) 0) t
  row_apart c o q lc lo e z h = record { filled = filled_apart b n (front t) t r.prepared.tables c o q lc lo e z h; beside = besides_none table_at table_size t }

  pub class_end : (u : List ℕ) (c o : ℕ) → c < n → n ≤ o → Filling b n t (spot_word c o 0) u → Filling b n t (spot_word (c + 1) 0 0) u
  class_end u c o lc g h = record { filled = filled_class b n (front t) u r.prepared.tables c o lc g h.filled; beside = h.beside }

  pub table_start : Filling b n t (spot_word 0 0 0) t
  table_start = record { filled = filled_none b n (front t) t r.prepared.tables; beside = besides_none table_at table_size t }

  pub table_end : (u : List ℕ) (c : ℕ) → n ≤ c → Filling b n t (spot_word c 0 0) u → Dispatch b n u
  table_end u c g h = record {
    at = λ c' o i lc lo li p.
        let z : i < 64 = few b n (front u) u (filling_readied b n t (spot_word c 0 0) u h r).prepared.tables o i lo li in
        let m = r.prepared.tables.most in
        (filling_now b n t (spot_word c 0 0) u h).at c' o i lc lo li p (omega arith);
  }

-- ---- the prints, then the table: what is so of the scratch afterwards
pub record Tabled (b : List ℕ) (n : ℕ) (t u : List ℕ) : Type 0 where
  pub dispatch : Dispatch b n u
  pub kept : front u ≡ front t
  pub long : length u ≡ length t

pub tabled_by : (b : List ℕ) (n : ℕ) (t u v : List ℕ) → AllPrinted b n t u → Dispatch b n v → Besides table_at table_size u v → Tabled b n t v
tabled_by b n t u v p d h = record { dispatch = d; kept = besides_front table_at table_size u v h (omega arith) ∙ p.front; long = h.long ∙ p.long }

pub printed_readied : (b : List ℕ) (n : ℕ) (t u : List ℕ) → Readied b n t → AllPrinted b n t u → Readied b n u
printed_readied b n t u r p = readied_kept b n t u r p.front p.long
