-- Phase B's claims on members, as the code finds them: row by row. Assumes nothing.
use Rattle.std.specs.Prelude.{Result, Ok, Err, ℕ, suc, ◌+◌, ◌*◌, ◌<◌, ◌≤◌, ◌≡◌, Bool, cond, not, length, get_or, drop}
use Rattle.std.proofs.Common.{◌∙◌, add-one, drop_of_length-le, drop-cons, sym, ap, List, [], ◌∷◌, ◌++◌, true, false, eqb}
use Rattle.std.proofs.lemmas.Bool.{not-true, not-false}
use Rattle.kit.specs.Claims.{Claim, claim, Ruling, pass, fail, verdict, then, pass_then, fail_then, verdict-append, verdict_yes, verdict_no, verdict_none}
use Rattle.texts.specs.Faults.{number}
use Rattle.texts.specs.declared.faults.Refusal as faults
use Rattle.texts.specs.declared.faults.Refusal.TheVariants.{Twice, Missing}
use Rattle.kit.specs.Words.{word}
use Rattle.reader.specs.Verdicts.{fault, Refusal, in_class, Verdict, each}
use Rattle.classfiles.specs.Descriptors.{known_desc}
use Rattle.classfiles.specs.Members.{Member}
use Rattle.classfiles.specs.Attributes.{member_of}
use Rattle.classfiles.specs.Bundle.{ClassFile}
use Rattle.reader.specs.BuiltIns.{first_class}
use Rattle.reader.specs.Program.{Signature, Program, no_field, class, method, class_count, program_of, index_of, field_sigs, method_sigs, lookup}
use Rattle.reader.specs.Link.{all_known, agrees, field_claims, method_claims}
use Rattle.classfiles.specs.Blocks.{field_rows, method_rows, field_count, method_count, pool_of, row_in, rows_in, class_in}
use Rattle.classfiles.specs.BlockWords.{length-listed}
use Rattle.reader.specs.Numbers.{class_at, listed_at}
use Rattle.reader.specs.Linked.{files_in}
use Rattle.reader.specs.MemberRows.{block_at, rows_word, count_word, row_start, row_count, row_at, row_sig, first_at}
use Rattle.reader.specs.Lookup.{sigs_at}
use Rattle.reader.specs.MemberAt.{method-sig, field-sig}

-- what the code's answer says of a member of class i that starts at p
abbrev pub rule_at : ℕ → ℕ → Result (Unit {0}) faults.Refusal → Verdict
rule_at i p (Ok u) = pass
rule_at i p (Err k) = fail (in_class i (fault (number k) p))

-- of methods or of fields
abbrev pub claims_of : Program → ℕ → Bool → ℕ → Member → List (Claim Refusal)
claims_of P i true j m = method_claims P i j m
claims_of P i false j m = field_claims P i j m

abbrev pub members_of : Bool → ClassFile → List Member
members_of true f = f.methods
members_of false f = f.fields

-- what a member's 9 asks
unfoldable pub member_known : Program → ℕ → Bool → ℕ → Bool
member_known P i true j =
    let M = method P (first_class + i) j in
    cond (all_known P (M.params ++ M.results)) (agrees P M.static (lookup P method_sigs M.sig (class P (first_class + i)).parent)) false
member_known P i false j = known_desc (class_count P) (get_or (class P (first_class + i)).fields j no_field).type

-- ---- row j
module _ (s : List ℕ) (n : ℕ) (t : List ℕ) (m : n ≤ 16) (c : ℕ) (h : c < n) (j : ℕ) where
  abbrev P₀ : Program
  P₀ = program_of (files_in s n t)

  abbrev b₀ : List ℕ
  b₀ = block_at t c

  method_first : j < row_count b₀ true → eqb (index_of (method P₀ (first_class + c) j).sig (method_sigs (class P₀ (first_class + c)))) j ≡ first_at s b₀ true j
  unfolding first_at
  method_first l =
      ap (λ (g : Signature). eqb (index_of g (method_sigs (class P₀ (first_class + c)))) j) (method-sig s n t m c h j l)
      ∙ ap (λ (gs : List Signature). eqb (index_of (row_sig s b₀ true j) gs) j) (sigs_at s n t m true c h)

  field_first : j < row_count b₀ false → eqb (index_of (get_or (class P₀ (first_class + c)).fields j no_field).sig (field_sigs (class P₀ (first_class + c)))) j ≡ first_at s b₀ false j
  unfolding first_at
  field_first l =
      ap (λ (g : Signature). eqb (index_of g (field_sigs (class P₀ (first_class + c)))) j) (field-sig s n t m c h j l)
      ∙ ap (λ (gs : List Signature). eqb (index_of (row_sig s b₀ false j) gs) j) (sigs_at s n t m false c h)

  -- the two claims
  abbrev two : Bool → List (Claim Refusal)
  two a =
      claim (in_class c (fault 8 (row_start b₀ a j))) (first_at s b₀ a j) ∷ claim (in_class c (fault 9 (row_start b₀ a j))) (member_known P₀ c a j) ∷ []

  method-claims : j < row_count b₀ true → method_claims P₀ c j (row_at s b₀ true j) ≡ two true
  unfolding method_claims member_known row_at row_in member_of row_start
  method-claims l =
      ap (λ (x : Bool). claim (in_class c (fault 8 (row_start b₀ true j))) x ∷ claim (in_class c (fault 9 (row_start b₀ true j))) (member_known P₀ c true j) ∷ []) (method_first l)

  field-claims : j < row_count b₀ false → field_claims P₀ c j (row_at s b₀ false j) ≡ two false
  unfolding field_claims member_known row_at row_in member_of row_start
  field-claims l =
      ap (λ (x : Bool). claim (in_class c (fault 8 (row_start b₀ false j))) x ∷ claim (in_class c (fault 9 (row_start b₀ false j))) (member_known P₀ c false j) ∷ []) (field_first l)

  claims_by : (a : Bool) → j < row_count b₀ a → claims_of P₀ c a j (row_at s b₀ a j) ≡ two a
  claims_by true l = method-claims l
  claims_by false l = field-claims l

module _ (s : List ℕ) (n : ℕ) (t : List ℕ) (m : n ≤ 16) (c : ℕ) (h : c < n) (method : Bool) (j : ℕ) (l : j < row_count (block_at t c) method) where
  abbrev P : Program
  P = program_of (files_in s n t)

  abbrev b : List ℕ
  b = block_at t c

  claims_are : claims_of P c method j (row_at s b method j)
      ≡ claim (in_class c (fault 8 (row_start b method j))) (first_at s b method j) ∷ claim (in_class c (fault 9 (row_start b method j))) (member_known P c method j) ∷ []
  claims_are = claims_by s n t m c h j method l

  module _ (u : Bool) (e : u ≡ first_at s b method j) where
    pub member_double : not u ≡ true → rule_at c (row_start b method j) (Err Twice) ≡ verdict (claims_of P c method j (row_at s b method j))
    member_double f = sym (ap verdict claims_are ∙ verdict_no _ _ _ (sym e ∙ not-true u f))

    module _ (f : not u ≡ false) (k : Bool) (g : k ≡ member_known P c method j) where
      first_holds : verdict (claims_of P c method j (row_at s b method j)) ≡ verdict (claim (in_class c (fault 9 (row_start b method j))) (member_known P c method j) ∷ [])
      first_holds = ap verdict claims_are ∙ verdict_yes _ _ _ (sym e ∙ not-false u f)

      pub member_unknown : k ≡ false → rule_at c (row_start b method j) (Err Missing) ≡ verdict (claims_of P c method j (row_at s b method j))
      member_unknown z = sym (first_holds ∙ verdict_no _ _ _ (sym g ∙ z))

      pub member_fine : k ≡ true → (v : Unit {0}) → rule_at c (row_start b method j) (Ok v) ≡ verdict (claims_of P c method j (row_at s b method j))
      member_fine z v = sym (first_holds ∙ verdict_yes _ _ _ (sym g ∙ z) ∙ verdict_none)

-- ---- the members of class c are its rows
module _ (s t : List ℕ) (c : ℕ) where
  pub length_members : (method : Bool) → length (members_of method (class_at s t c)) ≡ row_count (block_at t c) method
  unfolding class_in rows_in row_count count_word
  length_members true = length-listed (λ i. row_in s (pool_of s (block_at t c)) (block_at t c) (method_rows + 6 * i)) (word (block_at t c) method_count)
  length_members false = length-listed (λ i. row_in s (pool_of s (block_at t c)) (block_at t c) (field_rows + 6 * i)) (word (block_at t c) field_count)

  pub member_is : (method : Bool) (j : ℕ) (d : Member) → j < row_count (block_at t c) method → get_or (members_of method (class_at s t c)) j d ≡ row_at s (block_at t c) method j
  unfolding class_in rows_in row_count count_word row_at rows_word
  member_is true j d l = listed_at (λ i. row_in s (pool_of s (block_at t c)) (block_at t c) (method_rows + 6 * i)) (word (block_at t c) method_count) j d l
  member_is false j d l = listed_at (λ i. row_in s (pool_of s (block_at t c)) (block_at t c) (field_rows + 6 * i)) (word (block_at t c) field_count) j d l

-- ---- a loop over the items of a list, of which j have passed
module _ {A K : Type 0} (f : ℕ → A → List (Claim K)) (xs : List A) (j : ℕ) (X : Ruling K) (v : verdict (each f j (drop j xs)) ≡ X) where
  pub each_end : length xs ≤ j → pass ≡ X
  unfolding each verdict
  each_end h = sym (ap (λ (l : List A). verdict (each f j l)) (drop_of_length-le xs h)) ∙ v

  each_split : (d : A) → j < length xs → then (verdict (f j (get_or xs j d))) (verdict (each f (j + 1) (drop (j + 1) xs))) ≡ X
  unfolding each
  each_split d h =
      ap (λ (i : ℕ). then (verdict (f j (get_or xs j d))) (verdict (each f i (drop i xs)))) (add-one j)
      ∙ sym (verdict-append (f j (get_or xs j d)) (each f (suc j) (drop (suc j) xs)))
      ∙ sym (ap (λ (l : List A). verdict (each f j l)) (drop-cons xs j d h)) ∙ v

  pub each_fail : (d : A) (r : Ruling K) (k : K) → j < length xs → r ≡ verdict (f j (get_or xs j d)) → r ≡ fail k → r ≡ X
  each_fail d r k h e z = z ∙ sym (fail_then _ _ k (sym e ∙ z)) ∙ each_split d h

  pub each_pass : (d : A) (r : Ruling K) → j < length xs → r ≡ verdict (f j (get_or xs j d)) → r ≡ pass → verdict (each f (j + 1) (drop (j + 1) xs)) ≡ X
  each_pass d r h e z = sym (pass_then _ _ (sym e ∙ z)) ∙ each_split d h
