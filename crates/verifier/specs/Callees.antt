-- What an instruction's surroundings are by the tables: a callee's types, what this method returns, and the class that a new names.
-- Assumes nothing.
use Rattle.std.specs.Prelude.{ℕ, zero, suc, ◌+◌, ◌-◌, ◌*◌, ◌^◌, ◌/◌, ◌%◌, ◌<◌, ◌≤◌, ◌≡◌, refl, Option, Some, None, cond, List, [], ◌∷◌, ◌++◌, reverse, ◌⊎◌, ltb, length, get_or, take}
use Rattle.std.proofs.Common.{ap, ◌∙◌, inl, inr, arith, get_or-take, sym, lt-ltb, le-ltb, eq-eqb, ne_eqb}
use Rattle.std.proofs.lemmas.List.{reverse-append}
use Rattle.kit.specs.Pick.{side}
use Rattle.kit.specs.Words.{word, put_word, word_same, word_other}
use Rattle.classfiles.specs.BlockWords.{take_put, listed_same}
use Rattle.reader.specs.BuiltIns.{first_class}
use Rattle.classfiles.specs.Descriptors.{Desc, dint}
use Rattle.reader.specs.TypeCodes.{codes_in, params_in, results_in, result_of, desc_of as code_desc}
use Rattle.reader.specs.Program.{Program, method}
use Rattle.rules.specs.Types.{Ty, ty_of, tys_of}
use Rattle.rules.specs.TypeWords.{type_of}
use Rattle.rules.specs.InstructionWords.{desc_of}
use Rattle.rules.specs.Slots.{slot, stack_at}
use Rattle.rules.specs.SlotLaws.{slot_is, take_less}
use Rattle.rules.specs.Forms.{gives_of}
use Rattle.rules.specs.Groups.{results_of}
use Rattle.rules.specs.declared.types.Ty as code
use Rattle.rules.specs.declared.calls.Params.{Params}

-- how many methods bundle class c has, as its block says
abbrev pub methods_in : List ℕ → ℕ → ℕ
methods_in t c = word t (1608 * c + 1028)

-- the number of the entry of method j of class c, of n classes of the bundle; 1024 where it has none
unfoldable pub entry_of : List ℕ → ℕ → ℕ → ℕ → ℕ
entry_of t n c j =
    cond (ltb c first_class) 1024
    (cond (ltb c (first_class + n)) (cond (ltb j 64) (cond (ltb j (methods_in t (c - first_class))) (64 * (c - first_class) + j) 1024) 1024) 1024)

unfoldable pub params_of : List ℕ → ℕ → List Desc
params_of t k = cond (ltb k 1024) (params_in t k) []

unfoldable pub back_of : List ℕ → ℕ → List Desc
back_of t k = cond (ltb k 1024) (results_in t k) []

-- the entries are the types of the program's methods
pub record Typed (t : List ℕ) (P : Program) (n : ℕ) : Type 0 where
  pub params : (c j : ℕ) → (method P c j).params ≡ params_of t (entry_of t n c j)
  pub results : (c j : ℕ) → (method P c j).results ≡ back_of t (entry_of t n c j)

-- ---- where the entry stands
module _ (t : List ℕ) (n c j : ℕ) where
  pub entry_built_in : c < 11 → 1024 ≡ entry_of t n c j
  unfolding entry_of
  entry_built_in h = sym (rw (lt-ltb c 11 h))

  module _ (g : 11 ≤ c) where
    pub entry_past : 11 + n ≤ c → 1024 ≡ entry_of t n c j
    unfolding entry_of
    entry_past h = sym (rw (le-ltb c 11 g, le-ltb c (11 + n) h))

    module _ (h : c < 11 + n) where
      pub entry_far : 64 ≤ j → 1024 ≡ entry_of t n c j
      unfolding entry_of
      entry_far l = sym (rw (le-ltb c 11 g, lt-ltb c (11 + n) h, le-ltb j 64 l))

      module _ (l : j < 64) (w : ℕ) (e : w ≡ word t (1608 * (c - 11) + 1028)) where
        pub entry_none : w ≤ j → 1024 ≡ entry_of t n c j
        unfolding entry_of
        entry_none m = sym (rw (le-ltb c 11 g, lt-ltb c (11 + n) h, lt-ltb j 64 l, ← e, le-ltb j w m))

        pub entry_is : j < w → 64 * (c - 11) + j ≡ entry_of t n c j
        unfolding entry_of
        entry_is m = sym (rw (le-ltb c 11 g, lt-ltb c (11 + n) h, lt-ltb j 64 l, ← e, lt-ltb j w m))

-- ---- what comes back
module _ (t : List ℕ) (k : ℕ) where
  pub back_past : 1024 ≤ k → [] ≡ back_of t k
  unfolding back_of
  back_past h = sym (rw (le-ltb k 1024 h))

  module _ (h : k < 1024) (v : ℕ) (e : result_of v ≡ results_in t k) where
    pub back_is : result_of v ≡ back_of t k
    unfolding back_of
    back_is = e ∙ sym (rw (lt-ltb k 1024 h))

    pub back_none : v ≡ 256 → [] ≡ back_of t k
    unfolding result_of
    back_none z = sym (rw (eq-eqb v 256 z)) ∙ back_is

    pub back_some : (v ≡ 256 → ⊥) → code_desc v ∷ [] ≡ back_of t k
    unfolding result_of
    back_some z = sym (rw (ne_eqb v 256 z)) ∙ back_is

-- what the code's result stands for, as a descriptor and as a type
pub record Back (g : Option code.Ty) (ds : List Desc) : Type 0 where
  pub results : results_of g ≡ ds
  pub gives : gives_of g ≡ tys_of ds

pub back-nothing : (ds : List Desc) → [] ≡ ds → Back None ds
back-nothing ds e = record { results = e; gives = ap tys_of e }

pub back_value : (ds : List Desc) (w : code.Ty) (d : Desc) → d ∷ [] ≡ ds → desc_of w.word ≡ d → type_of w.word ≡ ty_of d → Back (Some w) ds
back_value ds w d e p q =
    record { results = ap (λ (y : Desc). y ∷ []) p ∙ e; gives = ap (λ (y : Ty). y ∷ []) q ∙ ap tys_of e }

-- ---- parameters as words
-- nothing changes but the 32 words from x on; of what stands before them, no byte
pub record Beside (x : ℕ) (t u : List ℕ) : Type 0 where
  pub kept : (j : ℕ) → (j < x) ⊎ (x + 32 ≤ j) → word u j ≡ word t j
  pub front : take (4 * x) u ≡ take (4 * x) t

-- the first n of them are the types of a list
pub record Listed (x n : ℕ) (ds : List Desc) (d : Desc) (u : List ℕ) : Type 0 where
  pub types : (j : ℕ) → j < n → slot u (x + j) ≡ ty_of (get_or ds j d)

pub beside_none : (x : ℕ) (t : List ℕ) → Beside x t t
beside_none x t = record { kept = λ j s. refl; front = refl }

pub beside_put : (x i w : ℕ) (t u v : List ℕ) → Beside x t u → i < 32 → v ≡ put_word u (x + i) w → Beside x t v
beside_put x i w t u v b h e = record { kept = kept; front = ap (take (4 * x)) e ∙ take_put x u (x + i) w (omega arith) ∙ b.front }
  where
    kept : (j : ℕ) → (j < x) ⊎ (x + 32 ≤ j) → word v j ≡ word t j
    kept j (inl l) = ap (λ (z : List ℕ). word z j) e ∙ word_other u (x + i) w j (λ z. omega arith) ∙ b.kept j (inl l)
    kept j (inr l) = ap (λ (z : List ℕ). word z j) e ∙ word_other u (x + i) w j (λ z. omega arith) ∙ b.kept j (inr l)

pub listed_none : (x : ℕ) (ds : List Desc) (d : Desc) (u : List ℕ) → Listed x 0 ds d u
listed_none x ds d u = record { types = λ j l. absurd (omega arith) }

pub listed_put : (x i w : ℕ) (ds : List Desc) (d : Desc) (u v : List ℕ) → Listed x i ds d u → v ≡ put_word u (x + i) w → w < 2 ^ 32 → x + i < length u / 4
    → type_of w ≡ ty_of (get_or ds i d) → Listed x (i + 1) ds d v
listed_put x i w ds d u v l e f h t = record { types = λ j k. types j k (side j i) }
  where
    at_word : (j : ℕ) → word v j ≡ word (put_word u (x + i) w) j
    at_word j = ap (λ (z : List ℕ). word z j) e

    as_slot : (a b : ℕ) → a ≡ b → type_of a ≡ type_of b
    as_slot a b z = ap type_of z

    types : (j : ℕ) → j < i + 1 → (j < i) ⊎ (i ≤ j) → slot v (x + j) ≡ ty_of (get_or ds j d)
    types j k (inl m) =
        sym (slot_is v (x + j)) ∙ as_slot _ _ (at_word (x + j) ∙ word_other u (x + i) w (x + j) (λ z. omega arith)) ∙ slot_is u (x + j) ∙ l.types j m
    types j k (inr m) =
        let z : j ≡ i = omega arith in
        sym (slot_is v (x + j)) ∙ as_slot _ _ (ap (λ (y : ℕ). word v (x + y)) z ∙ at_word (x + i) ∙ word_same u (x + i) w h f) ∙ t ∙ ap (λ (y : ℕ). ty_of (get_or ds y d)) (sym z)

pub length_tys : (ds : List Desc) → length (tys_of ds) ≡ length ds
length_tys [] = refl
length_tys (d ∷ ds) = ap suc (length_tys ds)

-- all of them: the arguments as a call takes them, the last first
take_snoc : (ds : List Desc) (n : ℕ) (d : Desc) → n < length ds → take (suc n) ds ≡ take n ds ++ (get_or ds n d ∷ [])
take_snoc [] n d h = absurd (omega arith)
take_snoc (e ∷ ds) zero d h = refl
take_snoc (e ∷ ds) (suc n) d h = ap (λ (l : List Desc). e ∷ l) (take_snoc ds n d (omega arith))

tys_append : (ds es : List Desc) → tys_of (ds ++ es) ≡ tys_of ds ++ tys_of es
tys_append [] es = refl
tys_append (d ∷ ds) es = ap (λ (l : List Ty). ty_of d ∷ l) (tys_append ds es)

pub taken_last : (ds : List Desc) (n : ℕ) (d : Desc) → n < length ds → reverse (tys_of (take (suc n) ds)) ≡ ty_of (get_or ds n d) ∷ reverse (tys_of (take n ds))
taken_last ds n d h =
    ap (λ (y : List Desc). reverse (tys_of y)) (take_snoc ds n d h) ∙ ap reverse (tys_append (take n ds) (get_or ds n d ∷ [])) ∙ reverse-append (tys_of (take n ds)) (ty_of (get_or ds n d) ∷ [])

listed-taken : (x n : ℕ) (ds : List Desc) (d : Desc) (u : List ℕ) → Listed x n ds d u → n ≤ length ds → stack_at u x n ≡ reverse (tys_of (take n ds))
unfolding stack_at
listed-taken x zero ds d u l h = refl
listed-taken x (suc n) ds d u l h =
    let r : stack_at u x n ≡ reverse (tys_of (take n ds)) = listed-taken x n ds d u (record { types = λ j k. l.types j (omega arith) }) (omega arith) in
    let p : slot u (x + n) ≡ ty_of (get_or ds n d) = l.types n (omega arith) in
    let q : slot u (x + n) ∷ stack_at u x n ≡ ty_of (get_or ds n d) ∷ reverse (tys_of (take n ds)) = cc in
    q ∙ sym (taken_last ds n d (omega arith))

pub take_all : (ds : List Desc) → take (length ds) ds ≡ ds
take_all [] = refl
take_all (d ∷ ds) = ap (λ (l : List Desc). d ∷ l) (take_all ds)

pub listed-all : (x n : ℕ) (ds : List Desc) (d : Desc) (u : List ℕ) → Listed x n ds d u → n ≡ length ds → stack_at u x n ≡ reverse (tys_of ds)
listed-all x n ds d u l e = listed-taken x n ds d u l (omega arith) ∙ ap (λ (k : ℕ). reverse (tys_of (take k ds))) e ∙ ap (λ (y : List Desc). reverse (tys_of y)) (take_all ds)

-- the table's part is the same
pub params_same : (t u : List ℕ) (k : ℕ) → k < 1024 → take 187040 u ≡ take 187040 t → params_in u k ≡ params_in t k
unfolding params_in codes_in
params_same t u k h e =
    let b : (i : ℕ) → i < 187040 → get_or u i 0 ≡ get_or t i 0 = λ i l. sym (get_or-take 187040 u i 0 l) ∙ ap (λ (z : List ℕ). get_or z i 0) e ∙ get_or-take 187040 t i 0 l in
    let c : get_or u (168576 + 18 * k) 0 ≡ get_or t (168576 + 18 * k) 0 = b (168576 + 18 * k) (omega arith) in
    rw c (listed_same (λ i. code_desc (get_or u (168576 + 18 * k + 1 + i) 0)) (λ i. code_desc (get_or t (168576 + 18 * k + 1 + i) 0)) (get_or t (168576 + 18 * k) 0 % 32) (λ i l. ap code_desc (b (168576 + 18 * k + 1 + i) (omega arith))))

module _ (t : List ℕ) (k : ℕ) where
  pub params_none : 1024 ≤ k → params_of t k ≡ []
  unfolding params_of
  params_none h = rw (le-ltb k 1024 h)

  pub params_some : k < 1024 → params_of t k ≡ params_in t k
  unfolding params_of
  params_some h = rw (lt-ltb k 1024 h)

  -- how many there are
  pub count_none : 1024 ≤ k → 0 ≡ length (params_of t k)
  count_none h = sym (ap length (params_none h))

  pub count_some : (n : ℕ) → k < 1024 → n ≡ length (params_in t k) → n ≡ length (params_of t k)
  count_some n h e = e ∙ sym (ap length (params_some h))

-- the words hold the parameters of entry k
pub record Ready (t u : List ℕ) (k : ℕ) (a : Params) : Type 0 where
  pub types : stack_at u a.at a.count ≡ reverse (tys_of (params_of t k))
  pub at : a.at ≡ 65256
  pub count : a.count < 32
  pub beside : Beside 65256 t u

pub ready_none : (t : List ℕ) (k : ℕ) (a : Params) → a ≡ record { at = 65256; count = 0 } → 1024 ≤ k → Ready t t k a
unfolding stack_at
ready_none t k a e h =
    rw e (record { types = sym (ap (λ (ds : List Desc). reverse (tys_of ds)) (params_none t k h)); at = refl; count = omega arith; beside = beside_none 65256 t })

pub ready_some : (t u : List ℕ) (k n : ℕ) (a : Params) → a ≡ record { at = 65256; count = n } → k < 1024 → n ≡ length (params_in t k) → n < 32
    → Beside 65256 t u → Listed 65256 n (params_in t k) dint u → Ready t u k a
ready_some t u k n a e h l m b p =
    rw e (record {
      types = listed-all 65256 n (params_in t k) dint u p l ∙ ap (λ (ds : List Desc). reverse (tys_of ds)) (sym (params_some t k h));
      at = refl;
      count = m;
      beside = b;
    })

-- the table as it is read while the words are written
module _ (t u : List ℕ) (k : ℕ) (b : Beside 65256 t u) (h : k < 1024) where
  pub params_beside : params_in u k ≡ params_in t k
  params_beside = params_same t u k h (take_less 187040 261024 t u (omega arith) b.front)

  pub count_beside : (n i : ℕ) → n ≡ length (params_in t k) → i < n → i < length (params_in u k)
  count_beside n i e l = let z : length (params_in u k) ≡ length (params_in t k) = ap length params_beside in omega arith

  pub type_beside : (i w v : ℕ) → type_of w ≡ ty_of (code_desc v) → code_desc v ≡ get_or (params_in u k) i dint → type_of w ≡ ty_of (get_or (params_in t k) i dint)
  type_beside i w v p q = p ∙ ap ty_of (q ∙ ap (λ (ds : List Desc). get_or ds i dint) params_beside)
