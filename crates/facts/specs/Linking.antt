-- What reading and linking give: the record `Link`, from a bundle that was read.
use Prim.Native.Nat.{ℕ, zero, suc, ◌+◌, ◌-◌, ◌<◌, ◌≤◌}
use Rattle.std.specs.Prelude.{◌≡◌, false, eqb}
use Rattle.std.proofs.Math.Path.{refl, ap}
use Rattle.std.proofs.Common.{sym, ◌∙◌}
use mathlib.Core.List.{List, [], ◌∷◌, ◌++◌, map}
use native.Mathlib.Omega.{arith}
use Rattle.std.proofs.Math.Decide.{dec_lt}
use Rattle.std.proofs.Math.ListN.{length, get_or, length-append, get_or-append, get_or-eq_default}
use Rattle.std.proofs.lemmas.List.{length-map}
use Rattle.std.proofs.Math.Seq.{get_or-append-add}
use Rattle.std.proofs.Math.Dec.{T}
use Rattle.kit.specs.Claims.{Claim, AllT}
use Rattle.classfiles.specs.Limits.{max_classes}
use Rattle.reader.specs.Verdicts.{each}
use Rattle.texts.specs.Names.{Text, init}
use Rattle.classfiles.specs.Members.{Member, none}
use Rattle.classfiles.specs.Bundle.{ClassFile, zero'}
use Rattle.reader.specs.BuiltIns.{BuiltIn, built_ins, first_class, object, throwable}
use Rattle.reader.specs.Program.{Program, Class, Method, no_class, no_method, class, method, class_count, is_constructor, number_in, class_names, method_of, class_of, classes_from, built_ins_from, program_of, up_to, below, method_sigs, lookup, layout_to, layout}
use Rattle.reader.specs.Link.{chain_claims, all_known, agrees, field_claims, method_claims, member_claims}
use Rattle.facts.specs.Base.{AllT-left, AllT-right, second_of, right_of}
use Rattle.facts.specs.Parsing.{Each, each_at, results-length}
use Rattle.facts.specs.Files.{Read, File, bundle_read}
use Rattle.facts.specs.Shown.{Linked, WasRead}
use Rattle.facts.specs.Classes.{Link, up_refl}

abbrev no_file : ClassFile
no_file = record { start = 0; pool = []; name = []; super = zero'; fields = []; methods = [] }

abbrev no_member : Member
no_member = record { start = 0; access = 0; name = []; descriptor = []; body = none }

-- the claims of one item
each_claims : {A K : Type 0} (f : ℕ → A → List (Claim K)) (k : ℕ) (l : List A) → AllT (each f k l) → (i : ℕ) (d : A) → i < length l → AllT (f (k + i) (get_or l i d))
unfolding each
each_claims f k [] h i d b = absurd (omega arith)
each_claims f k (a ∷ l) h zero d b = let e : k + 0 ≡ k = omega arith in rw e (AllT-left (f k a) _ h)
each_claims f k (a ∷ l) h (suc i) d b = let e : k + suc i ≡ suc k + i = omega arith in rw e (each_claims f (suc k) l (AllT-right (f k a) _ h) i d (omega arith))

all_claims : {A K : Type 0} (f : ℕ → A → List (Claim K)) (l : List A) → AllT (each f 0 l) → (i : ℕ) (d : A) → i < length l → AllT (f i (get_or l i d))
all_claims f l h i d b = let e : 0 + i ≡ i = omega arith in rw e at (each_claims f 0 l h i d b)

-- for each built-in class
each_built : (Q : ℕ → Type 0) → Q 0 → Q 1 → Q 2 → Q 3 → Q 4 → Q 5 → Q 6 → Q 7 → Q 8 → Q 9 → Q 10 → (c : ℕ) → c < first_class → Q c
each_built Q q0 q1 q2 q3 q4 q5 q6 q7 q8 q9 q10 zero h = q0
each_built Q q0 q1 q2 q3 q4 q5 q6 q7 q8 q9 q10 (suc zero) h = q1
each_built Q q0 q1 q2 q3 q4 q5 q6 q7 q8 q9 q10 (suc (suc zero)) h = q2
each_built Q q0 q1 q2 q3 q4 q5 q6 q7 q8 q9 q10 (suc (suc (suc zero))) h = q3
each_built Q q0 q1 q2 q3 q4 q5 q6 q7 q8 q9 q10 (suc (suc (suc (suc zero)))) h = q4
each_built Q q0 q1 q2 q3 q4 q5 q6 q7 q8 q9 q10 (suc (suc (suc (suc (suc zero))))) h = q5
each_built Q q0 q1 q2 q3 q4 q5 q6 q7 q8 q9 q10 (suc (suc (suc (suc (suc (suc zero)))))) h = q6
each_built Q q0 q1 q2 q3 q4 q5 q6 q7 q8 q9 q10 (suc (suc (suc (suc (suc (suc (suc zero))))))) h = q7
each_built Q q0 q1 q2 q3 q4 q5 q6 q7 q8 q9 q10 (suc (suc (suc (suc (suc (suc (suc (suc zero)))))))) h = q8
each_built Q q0 q1 q2 q3 q4 q5 q6 q7 q8 q9 q10 (suc (suc (suc (suc (suc (suc (suc (suc (suc zero))))))))) h = q9
each_built Q q0 q1 q2 q3 q4 q5 q6 q7 q8 q9 q10 (suc (suc (suc (suc (suc (suc (suc (suc (suc (suc zero)))))))))) h = q10
each_built Q q0 q1 q2 q3 q4 q5 q6 q7 q8 q9 q10 (suc (suc (suc (suc (suc (suc (suc (suc (suc (suc (suc c))))))))))) h = absurd (omega arith)

-- a built-in class has only `<init>`
built_init : (k : ℕ) (bs : List BuiltIn) (c j : ℕ) → c < length bs → j < length (get_or (built_ins_from k bs) c no_class).methods → (get_or (get_or (built_ins_from k bs) c no_class).methods j no_method).sig.name ≡ init
unfolding built_ins_from
built_init k [] c j h l = absurd (omega arith)
built_init k (b ∷ bs) zero zero h l = refl
built_init k (b ∷ bs) zero (suc j) h l = absurd (omega arith)
built_init k (b ∷ bs) (suc c) j h l = built_init (suc k) bs c j (omega arith) l

-- it is not static
built_bound : (k : ℕ) (bs : List BuiltIn) (c j : ℕ) → (get_or (get_or (built_ins_from k bs) c no_class).methods j no_method).static ≡ false
unfolding built_ins_from
built_bound k [] c j = refl
built_bound k (b ∷ bs) zero zero = refl
built_bound k (b ∷ bs) zero (suc j) = refl
built_bound k (b ∷ bs) (suc c) j = built_bound (suc k) bs c j

built_length : (k : ℕ) (bs : List BuiltIn) → length (built_ins_from k bs) ≡ length bs
unfolding built_ins_from
built_length k [] = refl
built_length k (b ∷ bs) = ap suc (built_length (suc k) bs)

eleven : length (built_ins_from 0 built_ins) ≡ first_class
unfolding built_ins
eleven = built_length 0 built_ins

-- Object is its own parent and has no fields
first : ((get_or (built_ins_from 0 built_ins) 0 no_class).parent ≡ 0) × (length (get_or (built_ins_from 0 built_ins) 0 no_class).fields ≡ 0)
unfolding built_ins_from built_ins
first = (refl, refl)

classes-length : (num : Text → ℕ) (c : ℕ) (fs : List ClassFile) → length (classes_from num c fs) ≡ length fs
unfolding classes_from
classes-length num c [] = refl
classes-length num c (f ∷ fs) = ap suc (classes-length num (suc c) fs)

class_from : (num : Text → ℕ) (c : ℕ) (fs : List ClassFile) (i : ℕ) → i < length fs → get_or (classes_from num c fs) i no_class ≡ class_of num (c + i) (get_or fs i no_file)
unfolding classes_from
class_from num c [] i h = absurd (omega arith)
class_from num c (f ∷ fs) zero h = let e : c ≡ c + 0 = omega arith in ap (λ (k : ℕ). class_of num k f) e
class_from num c (f ∷ fs) (suc i) h = let e : suc c + i ≡ c + suc i = omega arith in class_from num (suc c) fs i (omega arith) ∙ ap (λ (k : ℕ). class_of num k (get_or fs i no_file)) e

-- a number whose parent is Object
far : (P : Program) (n c : ℕ) → 1 ≤ n → (class P c).parent ≡ 0 → T (up_to P n c object)
unfolding up_to
far P zero c h e = absurd (omega arith)
far P (suc n) c h e = right_of (eqb c object) _ (rw e (up_refl P n object))

near : (P : Program) (c : ℕ) → T (up_to P (class_count P) c object) → T (below P c object)
unfolding below
near P c h = h

module _ (fs : List ClassFile) where
  abbrev num : Text → ℕ
  num = number_in (class_names fs)

  count : class_count (program_of fs) ≡ first_class + length fs
  unfolding program_of
  count = length-append (built_ins_from 0 built_ins) (classes_from num first_class fs) ∙ omega (arith, eleven, classes-length num first_class fs)

  bundle-class : (i : ℕ) → class (program_of fs) (first_class + i) ≡ get_or (classes_from num first_class fs) i no_class
  unfolding program_of
  bundle-class i = ap (λ (k : ℕ). get_or (built_ins_from 0 built_ins ++ classes_from num first_class fs) (k + i) no_class) (sym eleven) ∙ get_or-append-add (built_ins_from 0 built_ins) (classes_from num first_class fs) i no_class

  built_class : (c : ℕ) → c < first_class → class (program_of fs) c ≡ get_or (built_ins_from 0 built_ins) c no_class
  unfolding program_of
  built_class c h = get_or-append (built_ins_from 0 built_ins) (classes_from num first_class fs) no_class c (omega (arith, eleven))

  no-class : (c : ℕ) → first_class + length fs ≤ c → class (program_of fs) c ≡ no_class
  no-class c h = get_or-eq_default (program_of fs).classes no_class (omega (arith, count))

  -- a class of the bundle
  file_class : (i : ℕ) → i < length fs → class (program_of fs) (first_class + i) ≡ class_of num (first_class + i) (get_or fs i no_file)
  file_class i h = bundle-class i ∙ class_from num first_class fs i h

  -- a method of the bundle, by its class's number
  record Mine (c j : ℕ) : Type 0 where
    pub file : ℕ
    pub is : c ≡ first_class + file
    pub inside : file < length fs
    pub there : j < length (get_or fs file no_file).methods
    pub made : method (program_of fs) c j ≡ method_of num c (get_or (get_or fs file no_file).methods j no_member)

  mine : (c j : ℕ) → first_class ≤ c → j < length (class (program_of fs) c).methods → Mine c j
  unfolding class_of
  mine c j h l = go (dec_lt c (first_class + length fs))
    where
      get_or_mapped : (g : Member → Method) (ms : List Member) (j : ℕ) → j < length ms → get_or (map g ms) j no_method ≡ g (get_or ms j no_member)
      get_or_mapped g [] j h = absurd (omega arith)
      get_or_mapped g (m ∷ ms) zero h = refl
      get_or_mapped g (m ∷ ms) (suc j) h = get_or_mapped g ms j (omega arith)

      from : (i : ℕ) → c ≡ first_class + i → i < length fs → Mine c j
      from i e b =
          let f : ClassFile = get_or fs i no_file in
          let k : class (program_of fs) c ≡ class_of num c f = rw e (file_class i b) in
          let m : j < length (map (method_of num c) f.methods) = rw k at l in
          let n : j < length f.methods = omega (arith, length-map f.methods (method_of num c)) in
          record { file = i; is = e; inside = b; there = n; made = rw k (get_or_mapped (method_of num c) f.methods j n) }

      go : Dec (c < first_class + length fs) → Mine c j
      go (no b) = let k : j < length no_class.methods = rw (no-class c (omega arith)) at l in absurd (omega arith)
      go (yes b) = from (c - first_class) (omega arith) (omega arith)

  -- chains of the built-in classes end at Object
  built_ends : (c : ℕ) → c < first_class → T (below (program_of fs) c object)
  unfolding below program_of built_ins_from built_ins up_to
  built_ends = each_built (λ c. T (below (program_of fs) c object)) tt tt tt tt tt tt tt tt tt tt tt

  -- all but Object are Throwables
  built_thrown : (c : ℕ) → c < first_class → throwable ≤ c → T (below (program_of fs) c throwable)
  unfolding below program_of built_ins_from built_ins up_to
  built_thrown = each_built (λ c. throwable ≤ c → T (below (program_of fs) c throwable)) (λ l. absurd (omega arith)) (λ l. tt) (λ l. tt) (λ l. tt) (λ l. tt) (λ l. tt) (λ l. tt) (λ l. tt) (λ l. tt) (λ l. tt) (λ l. tt)

  -- none of them has fields
  built_plain : (c : ℕ) → c < first_class → layout (program_of fs) c ≡ []
  unfolding layout program_of built_ins_from built_ins layout_to
  built_plain = each_built (λ c. layout (program_of fs) c ≡ []) refl refl refl refl refl refl refl refl refl refl refl

  ended : Linked fs → (c : ℕ) → T (below (program_of fs) c object)
  unfolding chain_claims
  ended l c = go (dec_lt c first_class) (dec_lt c (first_class + length fs))
    where
      go : Dec (c < first_class) → Dec (c < first_class + length fs) → T (below (program_of fs) c object)
      go (yes a) b = built_ends c a
      go (no a) (yes b) =
          let e : c ≡ first_class + (c - first_class) = omega arith in
          let x : T (below (program_of fs) (first_class + (c - first_class)) object) = (all_claims (chain_claims (program_of fs)) fs l.chains (c - first_class) no_file (omega arith)).0 in
          rw (← e) at x
      go (no a) (no b) = outside
        where
          at_none : (n : ℕ) → 1 ≤ n → T (up_to (program_of fs) n c object)
          at_none n h = far (program_of fs) n c h (ap (λ (C : Class). C.parent) (no-class c (omega arith)))

          outside : T (below (program_of fs) c object)
          outside = near (program_of fs) c (at_none (class_count (program_of fs)) (omega (arith, count)))

  pub link : Linked fs → Each File fs → length fs ≤ max_classes → Link (program_of fs)
  unfolding method_of member_claims method_claims
  link l r n = record {
    root = root;
    one = omega (arith, count);
    few = omega (arith, count);
    ends = ended l;
    bare = bare;
    plain = built_plain;
    thrown = λ c l h. built_thrown c h l;
    number = num;
    built = λ c j h k. rw (built_class c h) (built_init 0 built_ins c j (omega (arith, eleven, built_length 0 built_ins)) (rw (built_class c h) at k));
    owned = λ c j h k. ap (λ (m : Method). m.owner) (mine c j h k).made;
    params = λ c j h k. let x = mine c j h k in rw x.made refl;
    results = λ c j h k. let x = mine c j h k in rw x.made refl;
    over = over;
    bound = bound;
    void = void;
  }
    where
      root : (class (program_of fs) 0).parent ≡ 0
      root = ap (λ (C : Class). C.parent) (built_class 0 (omega arith)) ∙ first.0

      bare : length (class (program_of fs) 0).fields ≡ 0
      bare = ap (λ (C : Class). length C.fields) (built_class 0 (omega arith)) ∙ first.1

      over : (c j : ℕ) → first_class ≤ c → j < length (class (program_of fs) c).methods → T (agrees (program_of fs) (method (program_of fs) c j).static (lookup (program_of fs) method_sigs (method (program_of fs) c j).sig (class (program_of fs) c).parent))
      over c j h k =
          let x = mine c j h k in
          let f : ClassFile = get_or fs x.file no_file in
          let a = all_claims (member_claims (program_of fs)) fs l.members x.file no_file x.inside in
          let b = AllT-right (each (field_claims (program_of fs) x.file) 0 f.fields) _ a in
          let d = all_claims (method_claims (program_of fs) x.file) f.methods b j no_member x.there in
          rw x.is (second_of (all_known (program_of fs) _) _ d.1.0)

      bound : (c j : ℕ) → T (is_constructor (method (program_of fs) c j)) → (method (program_of fs) c j).static ≡ false
      bound c j t = go (dec_lt c first_class) (dec_lt j (length (class (program_of fs) c).methods))
        where
          go : Dec (c < first_class) → Dec (j < length (class (program_of fs) c).methods) → (method (program_of fs) c j).static ≡ false
          go (yes h) d = ap (λ (C : Class). (get_or C.methods j no_method).static) (built_class c h) ∙ built_bound 0 built_ins c j
          go (no h) (no k) = ap (λ (m : Method). m.static) (get_or-eq_default (class (program_of fs) c).methods no_method (omega arith))
          go (no h) (yes k) =
              let x = mine c j (omega arith) k in
              let m : Read (get_or (get_or fs x.file no_file).methods j no_member) = each_at (each_at r x.file no_file x.inside).methods j no_member x.there in
              ap (λ (m : Method). m.static) x.made ∙ m.bound (rw x.made at t)

      void : (c j : ℕ) → first_class ≤ c → j < length (class (program_of fs) c).methods → T (is_constructor (method (program_of fs) c j)) → (method (program_of fs) c j).results ≡ []
      void c j h k t =
          let x = mine c j h k in
          let m : Read (get_or (get_or fs x.file no_file).methods j no_member) = each_at (each_at r x.file no_file x.inside).methods j no_member x.there in
          let y = results-length (λ t. 0) num (get_or (get_or fs x.file no_file).methods j no_member).descriptor m.place 0 m.type m.end m.typed in
          ap (λ (m : Method). m.results) x.made ∙ empty _ (y ∙ m.void (rw x.made at t))
        where
          empty : {A : Type 0} (l : List A) → length l ≡ 0 → l ≡ []
          empty [] e = refl
          empty (a ∷ l) e = absurd (omega arith)

-- every bundle that was read is linked
pub linking : {s : List ℕ} {P : Program} → WasRead s P → Link P
linking {s} a =
    let b = bundle_read s a.files a.end a.read in
    rw a.is (link a.files a.linked b.0 b.1)
