-- What phase A lets pass: how many pool entries, fields and methods a class has, and how many parameters a method. Assumes nothing.
use Rattle.std.specs.Prelude.{◌≡◌, Bool, cond, ltb, eqb, get_or, take}
use Rattle.std.proofs.Common.{sym, ap, subst, ◌∙◌, ℕ, zero, suc, ◌+◌, ◌-◌, ◌*◌, ◌<◌, ◌≤◌, refl, List, [], ◌∷◌, true, false, arith, length, length-take, ltb-false}
use Rattle.std.proofs.lemmas.Bool.{eqb-false}
use Rattle.kit.specs.Lists.{eq_list, length_part}
use Rattle.kit.specs.Scan.{first_not}
use Rattle.kit.specs.Words.{word}
use Rattle.classfiles.specs.Limits.{max_stack_limit, max_locals_limit, max_code, max_table_entries, max_pool_count, max_fields, max_methods, max_parameters, max_classes, max_bundle, max_dimensions}
use Rattle.texts.specs.Reading.{Res, ok, bad, and_then, pre, many, sum_at, u2_at, u4_at, num2_at, num4_at, skip_at, short_at, u2, u4, part}
use Rattle.texts.specs.Ends.{Holds, holds_of, then-holds, any-holds, cond-holds, skip_holds}
use Rattle.texts.specs.Names.{Text, Code, class_name, is_init}
use Rattle.classfiles.specs.Descriptors.{MethodType, semicolon, method_type_at}
use Rattle.classfiles.specs.declared.descriptors.Arity.{Arity}
use Rattle.classfiles.specs.Shapes.{arity, seen, named_shape, base_shape, type_shape, params_shape, results_shape, method_shape, method-shape}
use Rattle.classfiles.specs.Pool.{Constant, text, constants, entry_fault, checked_at, judged_at, entry_at, tags_at, pool_at, utf8_index_at}
use Rattle.classfiles.specs.Table.{pool_in, length-pool, length-constants}
use Rattle.classfiles.specs.Members.{Found, none, once, twice, another, Handler, Body, Member, inners_at, code_at, handler_at, table_at, body_at, attribute_at, access_at, name_at, slots, method_type_ok, descriptor_at, attributes_at, member_at}
use Rattle.classfiles.specs.Attributes.{found_of, handlers_from, table_from, body_of, member_of}
use Rattle.classfiles.specs.Bundle.{ClassFile, magic_at, version_at, class_access_at, this_at, super_at, interfaces_at, members_at, class_file_at, class_files_at, bundle_at}
use Rattle.reader.specs.Program.{method_type_or}
use Rattle.classfiles.specs.Blocks.{block_size, pool_word, method_rows, pool_of, row_in, class_in, classes_in}
use Rattle.reader.specs.Numbers.{class_at}
use Rattle.reader.specs.Chains.{counted, there}
use Rattle.reader.specs.MemberRows.{block_at, rows_word, row_count, row_at}
use Rattle.reader.specs.MemberClaims.{length_members, member_is}
use Rattle.reader.specs.Access.{Limited}

-- ---- what a reading gives, by its parts
module _ {A : Type 0} where
  self_holds : (x : Res A) → Holds (λ v e. x ≡ ok v e) x
  self_holds (ok v e) = refl
  self_holds (bad n p) = tt

  test_holds : (Q : A → ℕ → Type 0) (t : Bool) (x y : Res A) → (t ≡ true → Holds Q x) → (t ≡ false → Holds Q y) → Holds Q (cond t x y)
  test_holds Q true x y h k = h refl
  test_holds Q false x y h k = k refl

  -- every item of a list
  abbrev pub Every : (A → Type 0) → List A → Type 0
  Every Q l = (i : ℕ) (d : A) → i < length l → Q (get_or l i d)

  every_cons : (Q : A → Type 0) (a : A) (l : List A) → Q a → Every Q l → Every Q (a ∷ l)
  every_cons Q a l h k zero d g = h
  every_cons Q a l h k (suc i) d g = k i d (omega arith)

  abbrev Items : (A → Type 0) → ℕ → List A → ℕ → Type 0
  Items Q n l e = (length l ≡ n) × Every Q l

  pre_items : (Q : A → Type 0) (n : ℕ) (a : A) (x : Res (List A)) → Q a → Holds (Items Q n) x → Holds (Items Q (suc n)) (pre (a ∷ []) x)
  unfolding pre
  pre_items Q n a (ok l e) h k = (ap suc k.0, every_cons Q a l h k.1)
  pre_items Q n a (bad m p) h k = tt

  many_items : (Q : A → Type 0) (f : ℕ → Res A) → ((q : ℕ) → Holds (λ v e. Q v) (f q)) → (n q : ℕ) → Holds (Items Q n) (many f n q)
  unfolding many
  many_items Q f h zero q = (refl, λ i d g. absurd (omega arith))
  many_items Q f h (suc n) q = then-holds (λ v e. Q v) (Items Q (suc n)) (f q) _ (h q) (λ v e k. pre_items Q n v (many f n e) k (many_items Q f h n e))

short_holds : (s : List ℕ) (e n p most q : ℕ) → Holds (λ v a. v ≤ most) (short_at s e n p most q)
unfolding short_at
short_holds s e n p most q =
    any-holds (λ v a. v ≤ most) (num2_at s e n p q) _ (λ v a. test_holds (λ w b. w ≤ most) (ltb most v) _ _ (λ t. tt) (λ t. ltb-false most v t))

-- ---- the place of a fault has no part in what is read
abbrev Leads : {A : Type 0} → Res A → Res A → Type 0
Leads x y = Holds (λ v e. y ≡ ok v e) x

then_leads : {A B : Type 0} (x y : Res A) (f g : A → ℕ → Res B) → Leads x y → ((v : A) (e : ℕ) → Leads (f v e) (g v e)) → Leads (and_then x f) (and_then y g)
unfolding and_then
then_leads (ok v e) y f g h k = rw h (k v e)
then_leads (bad n p) y f g h k = tt

cond_leads : {A : Type 0} (t : Bool) (x y u v : Res A) → Leads x y → Leads u v → Leads (cond t x u) (cond t y v)
cond_leads true x y u v h k = h
cond_leads false x y u v h k = k

module _ (t : Text) (p q : ℕ) where
  named_leads : (i z : ℕ) → Leads (named_shape t p i z) (named_shape t q i z)
  unfolding named_shape
  named_leads i z =
      cond_leads (ltb z (length t)) _ _ _ _ (cond_leads (class_name (part t i (z - i))) (ok 0 (z + 1)) (ok 0 (z + 1)) (bad 7 p) (bad 7 q) refl tt) tt

  base_leads : (i : ℕ) → Leads (base_shape t p i) (base_shape t q i)
  unfolding base_shape
  base_leads i =
      cond_leads (eqb (get_or t i 0) 73) (ok 0 (i + 1)) (ok 0 (i + 1)) _ _ refl
      (cond_leads (eqb (get_or t i 0) 76) _ _ (bad 7 p) (bad 7 q) (named_leads (i + 1) (semicolon t (i + 1))) tt)

  type_leads : (k i : ℕ) → Leads (type_shape t p k i) (type_shape t q k i)
  unfolding type_shape
  type_leads zero i = base_leads i
  type_leads (suc k) i = cond_leads (eqb (get_or t i 0) 91) _ _ _ _ (type_leads k (i + 1)) (base_leads i)

  params_leads : (n c i : ℕ) → Leads (params_shape t p n c i) (params_shape t q n c i)
  unfolding params_shape
  params_leads zero c i = tt
  params_leads (suc n) c i =
      cond_leads (eqb (get_or t i 0) 41) (ok c (i + 1)) (ok c (i + 1)) _ _ refl
      (then_leads (type_shape t p max_dimensions i) (type_shape t q max_dimensions i) _ _ (type_leads max_dimensions i) (λ v e. params_leads n (c + 1) e))

  results_leads : (i : ℕ) → Leads (results_shape t p i) (results_shape t q i)
  unfolding results_shape
  results_leads i =
      cond_leads (eqb (get_or t i 0) 86) (ok 0 (i + 1)) (ok 0 (i + 1)) _ _ refl
      (then_leads (type_shape t p max_dimensions i) (type_shape t q max_dimensions i) _ _ (type_leads max_dimensions i) (λ v e. refl))

  method_leads : Leads (method_shape t p) (method_shape t q)
  unfolding method_shape
  method_leads =
      cond_leads (eqb (get_or t 0 0) 40) _ _ (bad 7 p) (bad 7 q)
      (then_leads (params_shape t p (length t) 0 1) (params_shape t q (length t) 0 1) _ _ (params_leads (length t) 0 1)
      (λ n a. then_leads (results_shape t p a) (results_shape t q a) _ _ (results_leads a) (λ m e. cond_leads (eqb e (length t)) (ok (arity n m) e) (ok (arity n m) e) (bad 7 p) (bad 7 q) refl tt)))
      tt

one_more : (n : ℕ) → (n ≡ 0 → ⊥) → suc (n - 1) ≡ n
one_more zero h = absurd (h refl)
one_more (suc n) h = omega arith

-- ---- Code
pub record Fits (b : Body) : Type 0 where
  pub stack : b.max_stack ≤ max_stack_limit
  pub locals : b.max_locals ≤ max_locals_limit
  pub some : 0 < length b.code
  pub code : length b.code ≤ max_code
  pub table : length b.table ≤ max_table_entries

abbrev pub BodyFits : Found Body → Type 0
BodyFits none = Unit {0}
BodyFits (once b) = Fits b
BodyFits twice = Unit {0}

another-fits : (f g : Found Body) → BodyFits f → BodyFits g → BodyFits (another f g)
unfolding another
another-fits none none h k = tt
another-fits (once b) none h k = h
another-fits twice none h k = tt
another-fits none (once a) h k = k
another-fits (once b) (once a) h k = tt
another-fits twice (once a) h k = tt
another-fits none twice h k = tt
another-fits (once b) twice h k = tt
another-fits twice twice h k = tt

sum_fits : (f : ℕ → Res (Found Body)) → ((q : ℕ) → Holds (λ v e. BodyFits v) (f q)) → (n : ℕ) (b : Found Body) (q : ℕ) → BodyFits b → Holds (λ v e. BodyFits v) (sum_at f another n b q)
unfolding sum_at
sum_fits f h zero b q k = k
sum_fits f h (suc n) b q k =
    then-holds (λ v e. BodyFits v) (λ v e. BodyFits v) (f q) _ (h q) (λ a e g. sum_fits f h n (another b a) e (another-fits b a k g))

length_cut : (s : List ℕ) (a n e : ℕ) → a + n ≤ e → e ≤ length s → length (part s a n) ≡ n
unfolding part
length_cut s a n e h l = length_part a n s (omega arith)

module _ (s : List ℕ) (pool : List Constant) (e p : ℕ) (l : e ≤ length s) where
  code_fits : (q : ℕ) → Holds (λ c a. (0 < length c) × (length c ≤ max_code)) (code_at s pool e p q)
  unfolding code_at
  code_fits q =
      any-holds C (num4_at s e 7 p q) _ (λ n a. test_holds C (eqb n 0) _ _ (λ z. tt) (λ z. test_holds C (ltb max_code n) _ _ (λ y. tt) (λ y.
      then-holds (λ v d. (v ≡ a) × (d ≡ a + n) × (d ≤ e)) C (skip_at e 7 p n a) _ (skip_holds e 7 p n a) (λ b d h.
      let w : length (part s b n) ≡ n = length_cut s b n e (omega (arith, h.0, h.1, h.2)) l in
      (omega (arith, one_more n (eqb-false n 0 z)), omega (arith, ltb-false max_code n y))))))
    where
      C : List ℕ → ℕ → Type 0
      C c a = (0 < length c) × (length c ≤ max_code)

  table_fits : (q : ℕ) → Holds (λ t a. length t ≤ max_table_entries) (table_at s pool e p q)
  unfolding table_at handler_at
  table_fits q =
      then-holds (λ v a. v ≤ max_table_entries) L (short_at s e 7 p max_table_entries q) _ (short_holds s e 7 p max_table_entries q) (λ n a h.
      any-holds L (skip_at e 7 p (8 * n) a) _ (λ b d. few n h (many (handler_at s pool e p) n b) (many_items (λ _. Unit {0}) (handler_at s pool e p) (λ r. tt) n b)))
    where
      L : List Handler → ℕ → Type 0
      L t a = length t ≤ max_table_entries

      few : (n : ℕ) → n ≤ max_table_entries → (x : Res (List Handler)) → Holds (Items (λ _. Unit {0}) n) x → Holds L x
      few n h (ok v e) k = omega (arith, k.0)
      few n h (bad m p) k = tt

  body-fits : (q : ℕ) → Holds (λ v a. BodyFits v) (body_at s pool e p q)
  unfolding body_at
  body-fits q =
      then-holds (λ v a. v ≤ max_stack_limit) B (short_at s e 7 p max_stack_limit q) _ (short_holds s e 7 p max_stack_limit q) (λ stack a hs.
      then-holds (λ v a. v ≤ max_locals_limit) B (short_at s e 7 p max_locals_limit a) _ (short_holds s e 7 p max_locals_limit a) (λ locals b hl.
      then-holds (λ c a. (0 < length c) × (length c ≤ max_code)) B (code_at s pool e p b) _ (code_fits b) (λ code c hc.
      then-holds (λ t a. length t ≤ max_table_entries) B (table_at s pool e p c) _ (table_fits c) (λ table d ht.
      any-holds B (inners_at s pool e p d) _ (λ frames f. cond-holds B (eqb f e) (ok (once (record { max_stack = stack; max_locals = locals; code = code; table = table; frames = frames })) f) (bad 7 p) (record { stack = hs; locals = hl; some = hc.0; code = hc.1; table = ht }) tt)))))
    where
      B : Found Body → ℕ → Type 0
      B v a = BodyFits v

module _ (s : List ℕ) (pool : List Constant) where
  attribute-fits : (q : ℕ) → Holds (λ v a. BodyFits v) (attribute_at s pool true q)
  unfolding attribute_at
  attribute-fits q =
      any-holds B (utf8_index_at s pool q) _ (λ i a. any-holds B (u4 s a) _ (λ n b.
      then-holds (λ v d. (v ≡ b) × (d ≡ b + n) × (d ≤ length s)) B (skip_at (length s) 2 b n b) _ (skip_holds (length s) 2 b n b) (λ c d h.
      cond-holds B (eq_list (text pool i) Code) (body_at s pool d q c) (ok none d) (body-fits s pool d q h.2 c) tt)))
    where
      B : Found Body → ℕ → Type 0
      B v a = BodyFits v

  attributes_fits : (q : ℕ) → Holds (λ v a. BodyFits v) (attributes_at s pool true q)
  unfolding attributes_at
  attributes_fits q = any-holds (λ v a. BodyFits v) (u2 s q) _ (λ n a. sum_fits (attribute_at s pool true) attribute-fits n none a tt)

-- ---- parameters
abbrev pub FewParams : Text → Type 0
FewParams t = (number : Text → ℕ) → length (method_type_or (method_type_at number t 0)).params ≤ max_parameters

abbrev count_in : Res Arity → ℕ
count_in (ok a e) = a.params
count_in (bad n p) = 0

params_few : (t : Text) (q : ℕ) (m : MethodType) (e : ℕ) → method_type_at (λ x. 0) t q ≡ ok m e → length m.params ≤ max_parameters → FewParams t
unfolding seen
params_few t q m e h l number = go (method_type_at number t 0) (method-shape number t 0)
  where
    there' : method_shape t 0 ≡ ok (arity (length m.params) (length m.results)) e
    there' =
        holds_of (λ v d. method_shape t 0 ≡ ok v d) (method_shape t q) _ e (method_leads t q 0)
        (sym (method-shape (λ x. 0) t q) ∙ ap (seen (λ (y : MethodType). arity (length y.params) (length y.results))) h)

    go : (r : Res MethodType) → seen (λ (y : MethodType). arity (length y.params) (length y.results)) r ≡ method_shape t 0 → length (method_type_or r).params ≤ max_parameters
    go (ok y d) z = let w : length y.params ≡ length m.params = ap count_in (z ∙ there') in omega arith
    go (bad n p) z = omega arith

-- a method as phase A lets it pass
abbrev pub MethodFits : Member → Type 0
MethodFits m = FewParams m.descriptor × BodyFits m.body

module _ (s : List ℕ) (pool : List Constant) where
  slots_few : (access n : ℕ) (ps : MethodType) → slots s pool access ps.params ≤ n → length ps.params ≤ n
  unfolding slots
  slots_few access n ps h = omega arith

  descriptor_few : (access : ℕ) (name : Text) (q : ℕ) → Holds (λ t e. FewParams t) (descriptor_at s pool true access name q)
  unfolding descriptor_at method_type_ok
  descriptor_few access name q =
      any-holds (λ t e. FewParams t) (utf8_index_at s pool q) _ (λ i a.
      then-holds (λ m e. method_type_at (λ x. 0) (text pool i) q ≡ ok m e) (λ t e. FewParams t) (method_type_at (λ x. 0) (text pool i) q) _ (self_holds (method_type_at (λ x. 0) (text pool i) q))
      (λ m e h. test_holds (λ t e. FewParams t) (ltb max_parameters (slots s pool access m.params)) _ _ (λ z. tt)
      (λ z. let k : FewParams (text pool i) = params_few (text pool i) q m e h (slots_few access max_parameters m (ltb-false max_parameters (slots s pool access m.params) z)) in
      cond-holds (λ t e. FewParams t) (is_init name) _ _ (cond-holds (λ t e. FewParams t) (eqb (length m.results) 0) (ok (text pool i) a) (bad 7 q) k tt) k)))

  method-fits : (q : ℕ) → Holds (λ m e. MethodFits m) (member_at s pool true q)
  unfolding member_at
  method-fits q =
      any-holds (λ m e. MethodFits m) (access_at s pool true q) _ (λ access a.
      any-holds (λ m e. MethodFits m) (name_at s pool true access q a) _ (λ name b.
      then-holds (λ t e. FewParams t) (λ m e. MethodFits m) (descriptor_at s pool true access name b) _ (descriptor_few access name b) (λ descriptor c h.
      then-holds (λ v e. BodyFits v) (λ m e. MethodFits m) (attributes_at s pool true c) _ (attributes_fits s pool c) (λ body e k. (h, k)))))

  section_few : (Q : Member → Type 0) (method : Bool) (most q : ℕ) → ((p : ℕ) → Holds (λ m e. Q m) (member_at s pool method p)) → Holds (λ l e. (length l ≤ most) × Every Q l) (members_at s pool method most q)
  unfolding members_at
  section_few Q method most q h =
      then-holds (λ v a. v ≤ most) (λ l e. (length l ≤ most) × Every Q l) (short_at s (length s) 2 q most q) _ (short_holds s (length s) 2 q most q)
      (λ n a l. few n a l (many (member_at s pool method) n a) (many_items Q (member_at s pool method) h n a))
    where
      few : (n a : ℕ) → n ≤ most → (x : Res (List Member)) → Holds (Items Q n) x → Holds (λ l e. (length l ≤ most) × Every Q l) x
      few n a l (ok v e) k = (omega (arith, k.0), k.1)
      few n a l (bad m p) k = tt

-- ---- pools
checked_few : (tags : List ℕ) (pool : List Constant) (e n : ℕ) → length pool ≤ n → Holds (λ p a. length p ≤ n) (checked_at tags pool e)
unfolding checked_at judged_at
checked_few tags pool e n h =
    let i = first_not (λ j. eqb (entry_fault pool j) 0) (length pool) 0 in
    cond-holds (λ p a. length p ≤ n) (ltb i (length pool)) (bad (entry_fault pool i) (get_or tags i 0)) (ok pool e) tt h

pool_few : (s : List ℕ) (q : ℕ) → Holds (λ p e. length p ≤ max_pool_count) (pool_at s q)
unfolding pool_at tags_at
pool_few s q =
    any-holds P (u2 s q) _ (λ n a. test_holds P (eqb n 0) _ _ (λ z. tt) (λ z. test_holds P (ltb max_pool_count n) _ _ (λ y. tt) (λ y.
    then-holds (Items (λ _. Unit {0}) (suc (n - 1))) P (pre (0 ∷ []) (many (entry_at s) (n - 1) a)) _
    (pre_items (λ _. Unit {0}) (n - 1) 0 (many (entry_at s) (n - 1) a) tt (many_items (λ _. Unit {0}) (entry_at s) (λ p. any p) (n - 1) a))
    (λ tags e h. checked_few tags (constants s tags) e max_pool_count (omega (arith, length-constants s tags, h.0, one_more n (eqb-false n 0 z), ltb-false max_pool_count n y))))))
  where
    P : List Constant → ℕ → Type 0
    P p e = length p ≤ max_pool_count

    any : (p : ℕ) → Holds (λ v e. Unit {0}) (entry_at s p)
    any p = all (entry_at s p)
      where
        all : (x : Res ℕ) → Holds (λ v e. Unit {0}) x
        all (ok v e) = tt
        all (bad n p) = tt

-- ---- class files
pub record Modest (f : ClassFile) : Type 0 where
  pub pool : length f.pool ≤ max_pool_count
  pub fields : length f.fields ≤ max_fields
  pub methods : length f.methods ≤ max_methods
  pub each : Every MethodFits f.methods

module _ (s : List ℕ) where
  abbrev M : ClassFile → ℕ → Type 0
  M f e = Modest f

  class_modest : (q : ℕ) → Holds M (class_file_at s q)
  unfolding class_file_at
  class_modest q =
      any-holds M (magic_at s q) _ (λ _ a. any-holds M (version_at s a) _ (λ _ b.
      then-holds (λ p e. length p ≤ max_pool_count) M (pool_at s b) _ (pool_few s b) (λ pool c hp.
      any-holds M (class_access_at s c) _ (λ _ d. any-holds M (this_at s pool d) _ (λ name e. any-holds M (super_at s pool e) _ (λ super f. any-holds M (interfaces_at s f) _ (λ _ g.
      then-holds (λ l e. (length l ≤ max_fields) × Every (λ _. Unit {0}) l) M (members_at s pool false max_fields g) _ (section_few s pool (λ _. Unit {0}) false max_fields g (λ p. all (member_at s pool false p))) (λ fields h hf.
      then-holds (λ l e. (length l ≤ max_methods) × Every MethodFits l) M (members_at s pool true max_methods h) _ (section_few s pool MethodFits true max_methods h (method-fits s pool)) (λ methods i hm.
      any-holds M (attributes_at s pool false i) _ (λ _ j. record { pool = hp; fields = hf.0; methods = hm.0; each = hm.1 }))))))))))
    where
      all : {A : Type 0} (x : Res A) → Holds (λ v e. Unit {0}) x
      all (ok v e) = tt
      all (bad n p) = tt

  abbrev Files : List ClassFile → ℕ → Type 0
  Files fs e = Every Modest fs

  pre_modest : (f : ClassFile) (x : Res (List ClassFile)) → Modest f → Holds Files x → Holds Files (pre (f ∷ []) x)
  unfolding pre
  pre_modest f (ok fs e) h k = every_cons Modest f fs h k
  pre_modest f (bad n p) h k = tt

  files_modest : (n q : ℕ) → Holds Files (class_files_at s n q)
  unfolding class_files_at
  files_modest zero q = cond-holds Files (eqb q (length s)) _ _ (λ i d g. absurd (omega arith)) (any-holds Files (magic_at s q) _ (λ _ a. tt))
  files_modest (suc n) q =
      cond-holds Files (eqb q (length s)) _ _ (λ i d g. absurd (omega arith))
      (then-holds M Files (class_file_at s q) _ (class_modest q) (λ k e h. pre_modest k (class_files_at s n e) h (files_modest n e)))

  bundle_modest : Holds Files (bundle_at s)
  unfolding bundle_at
  bundle_modest =
      cond-holds Files (eqb (length s) 0) (bad 1 0) _ tt (cond-holds Files (ltb max_bundle (length s)) (bad 1 0) (class_files_at s max_classes 0) tt (files_modest max_classes 0))

-- ---- the blocks that phase A leaves
module _ (s t : List ℕ) (n e : ℕ) (h : bundle_at s ≡ ok (classes_in s t n) e) where
  class_at_modest : (c : ℕ) → c < n → Modest (class_at s t c)
  class_at_modest c l =
      subst Modest (there s t n c (class_at s t c) l)
      (holds_of (Files s) (bundle_at s) (classes_in s t n) e (bundle_modest s) h c (class_at s t c) (rw (counted s t n) l))

  pub limited : n ≤ 16 → 16 * block_size ≤ length t → Limited n t
  unfolding class_in pool_of
  limited m k = record {
    pool = λ c l. pooled c l (class_at_modest c l).pool;
    fields = λ c l. rw (← length_members s t c false) (class_at_modest c l).fields;
    methods = λ c l. rw (← length_members s t c true) (class_at_modest c l).methods;
  }
    where
      pooled : (c : ℕ) → c < n → length (pool_in s (take (4 * word (block_at t c) pool_word) (block_at t c))) ≤ max_pool_count → word (block_at t c) pool_word ≤ max_pool_count
      pooled c l g =
          omega (
            arith,
            length-pool s (take (4 * word (block_at t c) pool_word) (block_at t c)),
            length-take (4 * word (block_at t c) pool_word) (block_at t c),
            length_part (block_size * c) block_size t (omega arith),
          )

  pub method-fit : (c j : ℕ) → c < n → j < row_count (block_at t c) true → MethodFits (row_at s (block_at t c) true j)
  method-fit c j l g =
      subst MethodFits (member_is s t c true j (row_at s (block_at t c) true j) g)
      ((class_at_modest c l).each j (row_at s (block_at t c) true j) (rw (length_members s t c true) g))

-- ---- the same of the words of a method's row
pub record CodeLimits (s : List ℕ) (q : ℕ) : Type 0 where
  pub stack : u2_at s q ≤ max_stack_limit
  pub locals : u2_at s (q + 2) ≤ max_locals_limit
  pub some : 0 < length (part s (q + 8) (u4_at s (q + 4)))
  pub code : length (part s (q + 8) (u4_at s (q + 4))) ≤ max_code
  pub entries : u2_at s (table_from s q) ≤ max_table_entries

length_handlers : (s : List ℕ) (n q : ℕ) → length (handlers_from s n q) ≡ n
unfolding handlers_from
length_handlers s zero q = refl
length_handlers s (suc n) q = ap suc (length_handlers s n (q + 8))

body_limits : (s : List ℕ) (q : ℕ) (f : Found (List ℕ)) → Fits (body_of s q f) → CodeLimits s q
unfolding body_of
body_limits s q f h = record {
  stack = h.stack;
  locals = h.locals;
  some = h.some;
  code = h.code;
  entries = rw (← length_handlers s (u2_at s (table_from s q)) (table_from s q + 2)) h.table;
}

pub row_limits : (s b : List ℕ) (j : ℕ) → BodyFits (row_at s b true j).body → word b (method_rows + 6 * j + 1) ≡ 1 → CodeLimits s (word b (method_rows + 6 * j + 2))
unfolding row_at rows_word row_in member_of found_of
row_limits s b j h e =
    let f = cond (eqb (word b (method_rows + 6 * j + 3)) 0) none (cond (eqb (word b (method_rows + 6 * j + 3)) 1) (once (part s (word b (method_rows + 6 * j + 4)) (word b (method_rows + 6 * j + 5)))) twice) in
    body_limits s (word b (method_rows + 6 * j + 2)) f (rw e at h)
