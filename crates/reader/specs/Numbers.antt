-- Class names and their numbers, as the code finds them. Assumes nothing.
use Rattle.std.specs.Prelude.{◌≡◌, Bool, not, ◌⊎◌, take, drop}
use Rattle.std.proofs.Common.{Bor, ◌∙◌, inl, inr, zero-add, add-one, drop-cons, drop_of_length-le, ℕ, zero, suc, ◌+◌, ◌-◌, ◌*◌, ◌<◌, ◌≤◌, refl, sym, ap, List, [], ◌∷◌, ◌++◌, map, true, false, cond, arith, length, get_or}
use Rattle.std.proofs.Math.ListN.{get_or-append}
use Rattle.std.proofs.lemmas.List.{get_or_at}
use Rattle.kit.specs.Lists.{eq_list}
use Rattle.kit.specs.Pick.{side}
use Rattle.kit.specs.Scan.{first_not}
use Rattle.kit.specs.Words.{word}
use Rattle.texts.specs.Reading.{u2_at}
use Rattle.texts.specs.Names.{Text}
use Rattle.classfiles.specs.Pool.{class_text}
use Rattle.classfiles.specs.Bundle.{ClassFile}
use Rattle.reader.specs.BuiltIns.{BuiltIn, built_ins, first_class}
use Rattle.reader.specs.Program.{number_in, class_names}
use Rattle.classfiles.specs.Blocks.{block_size, this_word, listed, pool_of, class_in, classes_in}
use Rattle.classfiles.specs.BlockWords.{length-listed}

-- class c of the blocks in t
abbrev pub class_at : List ℕ → List ℕ → ℕ → ClassFile
class_at s t c = class_in s (take block_size (drop (block_size * c) t))

unfoldable pub built_in_names : List Text
built_in_names = map (λ (b : BuiltIn). b.name) built_ins

unfoldable pub low_names : List Text
low_names = take 6 built_in_names

unfoldable pub high_names : List Text
high_names = drop 6 built_in_names

unfoldable pub bundle_names : List ClassFile → List Text
bundle_names fs = map (λ (f : ClassFile). f.name) fs

unfoldable pub other_name : List ℕ → List ℕ → Text → ℕ → Bool
other_name s t x c = not (eq_list (class_at s t c).name x)

-- ---- a list by its elements
module _ {A : Type 0} where
  pub listed_at : (f : ℕ → A) (n i : ℕ) (d : A) → i < n → get_or (listed f n) i d ≡ f i
  unfolding listed
  listed_at f zero i d h = absurd (omega arith)
  listed_at f (suc n) i d h = go (side i n) (λ l. listed_at f n i d l)
    where
      go : (i < n) ⊎ (n ≤ i) → (i < n → get_or (listed f n) i d ≡ f i) → get_or (listed f n ++ (f n ∷ [])) i d ≡ f i
      go (inl l) rec = get_or-append (listed f n) (f n ∷ []) d i (omega (arith, length-listed f n)) ∙ rec l
      go (inr l) rec =
          let e : i ≡ n = omega arith in
          rw e (get_or_at (listed f n) (f n) [] d n (length-listed f n))

map-append : {A B : Type 0} (g : A → B) (xs ys : List A) → map g (xs ++ ys) ≡ map g xs ++ map g ys
map-append g [] ys = refl
map-append {A} {B} g (x ∷ xs) ys = ap (λ (l : List B). g x ∷ l) (map-append g xs ys)

pub map-listed : {A B : Type 0} (g : A → B) (f : ℕ → A) (n : ℕ) → map g (listed f n) ≡ listed (λ i. g (f i)) n
unfolding listed
map-listed g f zero = refl
map-listed {A} {B} g f (suc n) = map-append g (listed f n) (f n ∷ []) ∙ ap (λ (l : List B). l ++ (g (f n) ∷ [])) (map-listed g f n)

-- ---- the number of a name
-- where the test h fails first, counted from k on
number_from : (ns : List Text) (x : Text) (h : ℕ → Bool) (k : ℕ) → ((i : ℕ) → i < length ns → h (k + i) ≡ not (eq_list (get_or ns i []) x))
    → first_not h (length ns) k ≡ k + number_in ns x
unfolding first_not number_in
number_from [] x h k e = omega arith
number_from (n ∷ ns) x h k e =
    go (eq_list n x) here (number_from ns x h (suc k) (λ i l. let z : suc k + i ≡ k + suc i = omega arith in ap h z ∙ e (suc i) (omega arith)))
  where
    here : h k ≡ not (eq_list n x)
    here = let z : k + 0 ≡ k = omega arith in ap h (sym z) ∙ e 0 (omega arith)

    go : (t : Bool) → h k ≡ not t → first_not h (length ns) (suc k) ≡ suc k + number_in ns x → cond (h k) (first_not h (length ns) (suc k)) k ≡ k + cond t 0 (suc (number_in ns x))
    go true z next = rw z (omega arith)
    go false z next = rw z (next ∙ omega arith)

pub number_first : (s t : List ℕ) (n : ℕ) (x : Text) → first_not (other_name s t x) n 0 ≡ number_in (bundle_names (classes_in s t n)) x
unfolding bundle_names classes_in other_name
number_first s t n x =
    ap (λ (m : ℕ). first_not (other_name s t x) m 0) (sym (length-listed (λ i. (class_at s t i).name) n))
    ∙ number_from (listed (λ i. (class_at s t i).name) n) x (other_name s t x) 0
    (λ i l. let h : i < n = omega (arith, length-listed (λ i. (class_at s t i).name) n) in
    ap (other_name s t x) (zero-add i) ∙ ap (λ (y : Text). not (eq_list y x)) (sym (listed_at (λ i. (class_at s t i).name) n i [] h)))
    ∙ zero-add (number_in (listed (λ i. (class_at s t i).name) n) x)
    ∙ ap (λ (ns : List Text). number_in ns x) (sym (map-listed (λ (f : ClassFile). f.name) (λ i. class_at s t i) n))

pub number-le : (ns : List Text) (x : Text) → number_in ns x ≤ length ns
unfolding number_in
number-le [] x = omega arith
number-le (n ∷ ns) x = go (eq_list n x) (number-le ns x)
  where
    go : (t : Bool) → number_in ns x ≤ length ns → cond t 0 (suc (number_in ns x)) ≤ suc (length ns)
    go true h = omega arith
    go false h = omega arith

module _ (xs ys : List Text) (x : Text) where
  pub number-front : number_in xs x < length xs → number_in (xs ++ ys) x ≡ number_in xs x
  unfolding number_in
  number-front = go xs
    where
      go : (zs : List Text) → number_in zs x < length zs → number_in (zs ++ ys) x ≡ number_in zs x
      go [] h = absurd (omega arith)
      go (z ∷ zs) h = at (eq_list z x) h (go zs)
        where
          at : (t : Bool) → cond t 0 (suc (number_in zs x)) < suc (length zs) → (number_in zs x < length zs → number_in (zs ++ ys) x ≡ number_in zs x)
              → cond t 0 (suc (number_in (zs ++ ys) x)) ≡ cond t 0 (suc (number_in zs x))
          at true l rec = refl
          at false l rec = ap suc (rec (omega arith))

  pub number-back : length xs ≤ number_in xs x → number_in (xs ++ ys) x ≡ length xs + number_in ys x
  unfolding number_in
  number-back = go xs
    where
      go : (zs : List Text) → length zs ≤ number_in zs x → number_in (zs ++ ys) x ≡ length zs + number_in ys x
      go [] h = omega arith
      go (z ∷ zs) h = at (eq_list z x) h (go zs)
        where
          at : (t : Bool) → suc (length zs) ≤ cond t 0 (suc (number_in zs x)) → (length zs ≤ number_in zs x → number_in (zs ++ ys) x ≡ length zs + number_in ys x)
              → cond t 0 (suc (number_in (zs ++ ys) x)) ≡ suc (length zs) + number_in ys x
          at true l rec = absurd (omega arith)
          at false l rec = ap suc (rec (omega arith)) ∙ omega arith

-- lent names searched from the front, of which i have passed
abbrev pub lent : List (Bor Text) → List Text
lent ts = map (λ (b : Bor Text). b.now) ts

lent-length : (ts : List (Bor Text)) → length (lent ts) ≡ length ts
lent-length [] = refl
lent-length (t ∷ ts) = ap suc (lent-length ts)

lent-at : (ts : List (Bor Text)) (d : Bor Text) (j : ℕ) → j < length ts → get_or (lent ts) j [] ≡ (get_or ts j d).now
lent-at [] d j l = absurd (omega arith)
lent-at (t ∷ ts) d zero l = refl
lent-at (t ∷ ts) d (suc j) l = lent-at ts d j (omega arith)

module _ (ts : List (Bor Text)) (x : Text) (i : ℕ) (v : i + number_in (drop i (lent ts)) x ≡ number_in (lent ts) x) where
  module _ (d : Bor Text) (l : i < length ts) (q : Bool) (e : q ≡ eq_list (get_or ts i d).now x) where
    from-here : i + number_in (get_or (lent ts) i [] ∷ drop (suc i) (lent ts)) x ≡ number_in (lent ts) x
    from-here = ap (λ (xs : List Text). i + number_in xs x) (sym (drop-cons (lent ts) i [] (omega (arith, lent-length ts)))) ∙ v

    same_at : q ≡ eq_list (get_or (lent ts) i []) x
    same_at = e ∙ ap (λ (t : Text). eq_list t x) (sym (lent-at ts d i l))

    pub name_here : q ≡ true → i ≡ number_in (lent ts) x
    unfolding number_in
    name_here f = let z : i ≡ i + 0 = omega arith in z ∙ (rw (sym same_at ∙ f) at from-here)

    pub name_on : q ≡ false → i + 1 + number_in (drop (i + 1) (lent ts)) x ≡ number_in (lent ts) x
    unfolding number_in
    name_on f = let z = rw (sym same_at ∙ f) at from-here in rw (add-one i) (omega (arith, z))

  pub name_past : (n : ℕ) → n ≡ length ts → n ≤ i → i ≤ n → n ≡ number_in (lent ts) x
  unfolding number_in
  name_past n h l g =
      let y : drop i (lent ts) ≡ [] = drop_of_length-le (lent ts) (omega (arith, lent-length ts)) in
      let w : n ≡ i + 0 = omega arith in
      w ∙ (rw y at v)

-- the built-in names, of which the first six are looked at first
module _ (x : Text) (k : ℕ) (h : k ≡ number_in low_names x) where
  pub low_name : k < 6 → k ≡ number_in built_in_names x
  unfolding built_in_names low_names high_names built_ins
  low_name l = h ∙ sym (number-front low_names high_names x (omega arith))

  pub high_name : (j : ℕ) → j ≡ number_in high_names x → 6 ≤ k → 6 + j ≡ number_in built_in_names x
  unfolding built_in_names low_names high_names built_ins
  high_name j e l = ap (λ (m : ℕ). 6 + m) e ∙ sym (number-back low_names high_names x (omega arith))

pub high_le : (x : Text) (j : ℕ) → j ≡ number_in high_names x → j ≤ 5
unfolding built_in_names high_names built_ins
high_le x j e = omega (arith, number-le high_names x)

-- the built-in names, then the bundle's
module _ (fs : List ClassFile) (x : Text) (k : ℕ) (h : k ≡ number_in built_in_names x) where
  pub built_in_name : k < first_class → k ≡ number_in (class_names fs) x
  unfolding class_names built_in_names bundle_names built_ins
  built_in_name l = h ∙ sym (number-front built_in_names (bundle_names fs) x (omega arith))

  pub bundle-name : (j : ℕ) → j ≡ number_in (bundle_names fs) x → first_class ≤ k → first_class + j ≡ number_in (class_names fs) x
  unfolding class_names built_in_names bundle_names built_ins
  bundle-name j e l = ap (λ (m : ℕ). first_class + m) e ∙ sym (number-back built_in_names (bundle_names fs) x (omega arith))

-- ---- names in a block
pub name_as : (s b : List ℕ) (p i : ℕ) (x : Text) → p ≡ word b this_word → i ≡ u2_at s p → x ≡ class_text (pool_of s b) i → x ≡ (class_in s b).name
unfolding class_in
name_as s b p i x h e t = t ∙ ap (class_text (pool_of s b)) (e ∙ ap (u2_at s) h)

-- the part that a block is lent as
pub part-block : (t : List ℕ) (c : ℕ) → take (6432 * c + 6432 - 6432 * c) (drop (6432 * c) t) ≡ take block_size (drop (block_size * c) t)
part-block t c = let z : 6432 * c + 6432 - 6432 * c ≡ 6432 = omega arith in ap (λ (n : ℕ). take n (drop (6432 * c) t)) z

pub other_as : (s t x : List ℕ) (c : ℕ) (p : Text) (q : Bool) → p ≡ (class_at s t c).name → q ≡ eq_list p x → not q ≡ other_name s t x c
unfolding other_name
other_as s t x c p q h e = ap not (e ∙ ap (λ (y : List ℕ). eq_list y x) h)
