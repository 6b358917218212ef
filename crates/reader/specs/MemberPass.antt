-- Linking's pass over members: what each function of it leaves, and the turns of its loops. Assumes nothing.
use Rattle.std.specs.Prelude.{Result, Ok, Err, OnOk, IsErrAnd, ℕ, ◌+◌, ◌*◌, ◌^◌, ◌<◌, ◌≤◌, ◌≡◌, refl, List, Bool, true, not, length, get_or, drop}
use Rattle.std.proofs.Common.{subst, ◌∙◌, arith, sym, ap, false}
use Rattle.kit.specs.Claims.{verdict, then, pass_then, fail_then, verdict-append}
use Rattle.reader.specs.Verdicts.{fault, in_class, Verdict, each}
use Rattle.texts.specs.Names.{Text}
use Rattle.classfiles.specs.Descriptors.{field_type_at, known_desc}
use Rattle.classfiles.specs.Members.{Member}
use Rattle.classfiles.specs.Attributes.{member_of}
use Rattle.classfiles.specs.Bundle.{ClassFile}
use Rattle.reader.specs.BuiltIns.{first_class}
use Rattle.reader.specs.Program.{Program, Field, no_field, class, method, number_in, class_names, field_of, desc_or, program_of, method_sigs, lookup}
use Rattle.reader.specs.Link.{agrees, member_claims}
use Rattle.classfiles.specs.Blocks.{block_size, row_in, class_in, classes_in}
use Rattle.reader.specs.Numbers.{class_at}
use Rattle.reader.specs.Chains.{counted, there}
use Rattle.reader.specs.Linked.{files_in, Parents, refused_as, ruling_of, on_ok, handed_on, files_front}
use Rattle.reader.specs.MemberRows.{block_at, row_start, row_count, row_at, row_sig, first_at}
use Rattle.reader.specs.Prints.{PrintedAt, Printed}
use Rattle.reader.specs.Lookup.{class-count}
use Rattle.reader.specs.MemberAt.{field_at}
use Rattle.reader.specs.MemberClaims.{rule_at, claims_of, members_of, member_known, member_double, member_unknown, member_fine, length_members, member_is, each_end, each_fail, each_pass}
use Rattle.reader.specs.TypeCodes.{desc_of, Described}
use Rattle.reader.specs.MethodTypes.{Front, Ready, TypesTo, front_none, front-then, front_aside, front-block, front-program, front-ready, known_by, types_none, types_more, types_fill}
use Rattle.reader.specs.declared.link.Refused.{Refused}
use Rattle.texts.specs.Faults.{number}
use Rattle.texts.specs.declared.faults.Refusal as faults
use Rattle.texts.specs.declared.faults.Refusal.TheVariants.{Twice, Missing}

abbrev pub program_in : List ℕ → ℕ → List ℕ → Program
program_in s n t = program_of (files_in s n t)

pub record MethodKnown (s : List ℕ) (n c j : ℕ) (r : Bool) (t u : List ℕ) : Type 0 where
  pub is : r ≡ member_known (program_in s n t) c true j
  pub front : Front t u
  pub types : TypesTo s n t (64 * c + j) → TypesTo s n u (64 * c + (j + 1))

-- how many entries there are when j members have passed
abbrev pub typed_to : ℕ → Bool → ℕ → ℕ
typed_to c true j = 64 * c + j
typed_to c false j = 64 * c

pub record MemberRuled (s : List ℕ) (n c : ℕ) (method : Bool) (j : ℕ) (r : Result (Unit {0}) faults.Refusal) (t u : List ℕ) : Type 0 where
  pub is : rule_at c (row_start (block_at t c) method j) r ≡ verdict (claims_of (program_in s n t) c method j (row_at s (block_at t c) method j))
  pub front : Front t u
  pub types : OnOk r (TypesTo s n t (typed_to c method j) → TypesTo s n u (typed_to c method (j + 1)))

-- the claims on class c's fields or methods
abbrev pub section_ruling : List ℕ → ℕ → ℕ → Bool → List ℕ → Verdict
section_ruling s n c method t = verdict (each (claims_of (program_in s n t) c method) 0 (members_of method (class_at s t c)))

pub record SectionRuled (s : List ℕ) (n c : ℕ) (method : Bool) (r : Result (Unit {0}) Refused) (t u : List ℕ) : Type 0 where
  pub is : ruling_of r ≡ section_ruling s n c method t
  pub front : Front t u
  pub types : OnOk r (TypesTo s n t (64 * c) → TypesTo s n u (typed_to c method (row_count (block_at t c) method)))

pub record ClassRuled (s : List ℕ) (n c : ℕ) (r : Result (Unit {0}) Refused) (t u : List ℕ) : Type 0 where
  pub is : ruling_of r ≡ verdict (member_claims (program_in s n t) c (class_at s t c))
  pub front : Front t u
  pub types : OnOk r (TypesTo s n t (64 * c) → TypesTo s n u (64 * (c + 1)))

pub record MembersRuled (s : List ℕ) (n : ℕ) (r : Result (Unit {0}) Refused) (t u : List ℕ) : Type 0 where
  pub is : ruling_of r ≡ verdict (each (member_claims (program_in s n t)) 0 (files_in s n t))
  pub front : Front t u
  pub types : OnOk r (TypesTo s n u (64 * n))

-- ---- one field
pub field_known_as : (s : List ℕ) (n : ℕ) (t : List ℕ) (c j v : ℕ) (p : Text) (r : Bool) → Ready s n t → c < n → j < row_count (block_at t c) false
    → p ≡ (row_sig s (block_at t c) false j).descriptor
    → desc_of v ≡ desc_or (field_type_at (number_in (class_names (classes_in s t n))) p 0)
    → r ≡ known_desc (first_class + n) (desc_of v) → r ≡ member_known (program_in s n t) c false j
unfolding member_known field_of row_at row_in member_of row_sig row_start
field_known_as s n t c j v p r a h l x e f =
    f ∙ ap (known_desc (first_class + n)) (e ∙ ap (λ (y : Text). desc_or (field_type_at (number_in (class_names (classes_in s t n))) y 0)) x
    ∙ ap (λ (fs : List ClassFile). desc_or (field_type_at (number_in (class_names fs)) (row_sig s (block_at t c) false j).descriptor 0)) (sym (files_front s t n a.most))
    ∙ ap (λ (F : Field). F.type) (sym (field_at s n t a.most c h j l)))
    ∙ ap (λ (k : ℕ). known_desc k (get_or (class (program_in s n t) (first_class + c)).fields j no_field).type) (sym (class-count s n t a.most))

-- ---- one method
module _ (s : List ℕ) (n : ℕ) (t u : List ℕ) (a : Ready s n t) (c j : ℕ) (h : c < n) (l : j < row_count (block_at t c) true) (p : Text) (x : p ≡ (row_sig s (block_at t c) true j).descriptor)
    (q : Bool) (d : Described s n p (64 * c + j) q t u) where
  moved : Front t u
  moved = front_aside (64 * c + j) t u (omega (arith, a.most, a.few c h true)) d.aside

  known_ready : Ready s n u
  known_ready = front-ready t u moved s n a

  known_row : j < row_count (block_at u c) true
  known_row = subst (λ (b : List ℕ). j < row_count b true) (sym (front-block t u moved c (omega (arith, a.most)))) l

  pub known_asked : (n ≤ 16) × (c < n) × (16 * block_size ≤ length u) × (j < row_count (block_at u c) true) × (j < 2 ^ 32) × Parents s n u × Printed s n u
  known_asked = (a.most, h, omega (arith, known_ready.long), known_row, omega (arith, a.few c h true), known_ready.parents, known_ready.printed)

  leaves : (r : Bool) → r ≡ member_known (program_in s n t) c true j → MethodKnown s n c j r t u
  leaves r e = record { is = e; front = moved; types = types_more s n t u a c j h l _ x q d }

  pub known_no : q ≡ false → MethodKnown s n c j false t u
  unfolding member_known
  known_no e = leaves false (sym (rw (sym (known_by s n t u a c j h l _ x q d) ∙ e)))

  pub known_yes : q ≡ true → (r : Bool)
      → r ≡ agrees (program_in s n u) (method (program_in s n u) (first_class + c) j).static (lookup (program_in s n u) method_sigs (method (program_in s n u) (first_class + c) j).sig (class (program_in s n u) (first_class + c)).parent)
      → MethodKnown s n c j r t u
  unfolding member_known
  known_yes e r f =
      leaves r (f ∙ ap (λ (P : Program). agrees P (method P (first_class + c) j).static (lookup P method_sigs (method P (first_class + c) j).sig (class P (first_class + c)).parent)) (front-program t u moved s n)
      ∙ sym (rw (sym (known_by s n t u a c j h l _ x q d) ∙ e)))

-- ---- one member
module _ (s : List ℕ) (n : ℕ) (t : List ℕ) (a : Ready s n t) (c : ℕ) (h : c < n) where
  pub ready-class : (c < 16) × (16 * block_size ≤ length t)
  ready-class = (omega (arith, a.most), omega (arith, a.long))

  module _ (method : Bool) (j : ℕ) (l : j < row_count (block_at t c) method) where
    pub ready-row : (c < 16) × (16 * block_size ≤ length t) × (j < 2 ^ 32)
    ready-row = (omega (arith, a.most), omega (arith, a.long), omega (arith, a.few c h method))

    pub ready_first : (c < 16) × PrintedAt s t c method × (j < row_count (block_at t c) method)
    ready_first = (omega (arith, a.most), a.printed.at c h method, l)

    module _ (q : Bool) (e : q ≡ first_at s (block_at t c) method j) where
      pub ruled_double : not q ≡ true → MemberRuled s n c method j (Err Twice) t t
      ruled_double f = record {
        is = member_double s n t a.most c h method j l q e f;
        front = front_none t;
        types = tt;
      }

      module _ (f : not q ≡ false) (k : Bool) where
        pub ruled_method : method ≡ true → (u : List ℕ) → MethodKnown s n c j k t u → (k ≡ true → (v : Unit {0}) → MemberRuled s n c method j (Ok v) t u) × (k ≡ false → MemberRuled s n c method j (Err Missing) t u)
        ruled_method z u g = (λ y v. fine y v, λ y. record { is = member_unknown s n t a.most c h method j l q e f k known y; front = g.front; types = tt })
          where
            known : k ≡ member_known (program_in s n t) c method j
            known = rw z g.is

            fine : k ≡ true → (v : Unit {0}) → MemberRuled s n c method j (Ok v) t u
            fine y v = record { is = member_fine s n t a.most c h method j l q e f k known y v; front = g.front; types = rw z g.types }

        pub ruled_field : method ≡ false → k ≡ member_known (program_in s n t) c false j → (k ≡ true → (v : Unit {0}) → MemberRuled s n c method j (Ok v) t t) × (k ≡ false → MemberRuled s n c method j (Err Missing) t t)
        ruled_field z g =
            (λ y v. fine y v, λ y. record { is = member_unknown s n t a.most c h method j l q e f k known y; front = front_none t; types = tt })
          where
            known : k ≡ member_known (program_in s n t) c method j
            known = rw z g

            fine : k ≡ true → (v : Unit {0}) → MemberRuled s n c method j (Ok v) t t
            fine y v = record { is = member_fine s n t a.most c h method j l q e f k known y v; front = front_none t; types = rw z (λ x. x) }

-- ---- the fields or the methods of class c, of which j have passed
pub record SectionTo (s : List ℕ) (n c : ℕ) (method : Bool) (j : ℕ) (t₀ t : List ℕ) : Type 0 where
  pub front : Front t₀ t
  pub rest : verdict (each (claims_of (program_in s n t₀) c method) j (drop j (members_of method (class_at s t₀ c)))) ≡ section_ruling s n c method t₀
  pub types : TypesTo s n t₀ (64 * c) → TypesTo s n t (typed_to c method j)

pub section_start : (s : List ℕ) (n c : ℕ) (method : Bool) (t : List ℕ) → SectionTo s n c method 0 t t
section_start s n c method t = record { front = front_none t; rest = refl; types = by method }
  where
    by : (a : Bool) → TypesTo s n t (64 * c) → TypesTo s n t (typed_to c a 0)
    by true x = let z : 64 * c ≡ 64 * c + 0 = omega arith in subst (TypesTo s n t) z x
    by false x = x

module _ (s : List ℕ) (n c : ℕ) (method : Bool) (j : ℕ) (t₀ t : List ℕ) (a : Ready s n t₀) (h : c < n) (i : SectionTo s n c method j t₀ t) where
  low : c < 16
  low = omega (arith, a.most)

  pub section_ready : Ready s n t
  section_ready = front-ready t₀ t i.front s n a

  module _ (k : ℕ) (e : k ≡ row_count (block_at t₀ c) method) where
    pub section_row : j < k → j < row_count (block_at t c) method
    section_row l = subst (λ (b : List ℕ). j < row_count b method) (sym (front-block t₀ t i.front c low)) (subst (λ (m : ℕ). j < m) e l)

    pub section_done : k ≤ j → j ≤ k → (v : Unit {0}) → SectionRuled s n c method (Ok v) t₀ t
    section_done l g v =
        let z : j ≡ row_count (block_at t₀ c) method = omega arith in
        record {
          is = each_end (claims_of (program_in s n t₀) c method) (members_of method (class_at s t₀ c)) j _ i.rest (omega (arith, length_members s t₀ c method));
          front = i.front;
          types = λ x. subst (λ (m : ℕ). TypesTo s n t (typed_to c method m)) z (i.types x);
        }

    module _ (l : j < k) (u : List ℕ) where
      abbrev P₀ : Program
      P₀ = program_in s n t₀

      member₀ : Member
      member₀ = row_at s (block_at t₀ c) method j

      inside : j < length (members_of method (class_at s t₀ c))
      inside = omega (arith, length_members s t₀ c method)

      pub section_asked : (r : Result (Unit {0}) faults.Refusal) → MemberRuled s n c method j r t u → (c < 16) × (16 * block_size ≤ length u) × (j < 2 ^ 32)
      section_asked r m = (low, omega (arith, a.long, i.front.long, m.front.long), omega (arith, a.few c h method))

      ruled₀ : (r : Result (Unit {0}) faults.Refusal) → MemberRuled s n c method j r t u → rule_at c (row_start (block_at t₀ c) method j) r ≡ verdict (claims_of P₀ c method j (get_or (members_of method (class_at s t₀ c)) j (row_at s (block_at t₀ c) method j)))
      ruled₀ r m =
          subst (λ (b : List ℕ). rule_at c (row_start b method j) r ≡ verdict (claims_of P₀ c method j (row_at s b method j))) (front-block t₀ t i.front c low)
          (subst (λ (P : Program). rule_at c (row_start (block_at t c) method j) r ≡ verdict (claims_of P c method j (row_at s (block_at t c) method j))) (front-program t₀ t i.front s n) m.is)
          ∙ ap (λ (x : Member). verdict (claims_of P₀ c method j x)) (sym (member_is s t₀ c method j (row_at s (block_at t₀ c) method j) (omega arith)))

      pub section_fault : (r : faults.Refusal) → MemberRuled s n c method j (Err r) t u → (p : ℕ) → p ≡ row_start (block_at u c) method j
          → SectionRuled s n c method (Err (record { refusal = r; class = c; place = p })) t₀ u
      section_fault r m p f = record {
        is =
            ap (λ (q : ℕ). rule_at c q (Err r)) (f ∙ ap (λ (b : List ℕ). row_start b method j) (front-block t₀ u both c low))
            ∙ each_fail (claims_of P₀ c method) (members_of method (class_at s t₀ c)) j _ i.rest _ _ (in_class c (fault (number r) (row_start (block_at t₀ c) method j))) inside (ruled₀ (Err r) m) refl;
        front = both;
        types = tt;
      }
        where
          both : Front t₀ u
          both = front-then t₀ t u i.front m.front

      pub section_next : (v : Unit {0}) → MemberRuled s n c method j (Ok v) t u → SectionTo s n c method (j + 1) t₀ u
      section_next v m = record {
        front = front-then t₀ t u i.front m.front;
        rest = each_pass (claims_of P₀ c method) (members_of method (class_at s t₀ c)) j _ i.rest _ _ inside (ruled₀ (Ok v) m) refl;
        types = λ x. m.types (i.types x);
      }

-- ---- a class: its fields, then its methods
module _ (s : List ℕ) (n c : ℕ) (t u : List ℕ) (a : Ready s n t) (h : c < n) where
  whole : verdict (member_claims (program_in s n t) c (class_at s t c)) ≡ then (section_ruling s n c false t) (section_ruling s n c true t)
  unfolding member_claims
  whole = verdict-append _ _

  pub class-ready : (f : Result (Unit {0}) Refused) → SectionRuled s n c false f t u → Ready s n u
  class-ready f x = front-ready t u x.front s n a

  pub class_stop : (e : Refused) → SectionRuled s n c false (Err e) t u → (r : Result (Unit {0}) Refused) → IsErrAnd r (λ z. z ≡ e) → ClassRuled s n c r t u
  class_stop e x r z = subst (λ (y : Result (Unit {0}) Refused). ClassRuled s n c y t u) (sym (handed_on r e z)) (record {
    is = sym (whole ∙ fail_then _ _ _ (sym x.is));
    front = x.front;
    types = tt;
  })

  pub class-both : (o : Unit {0}) (x : SectionRuled s n c false (Ok o) t u) (v : List ℕ) (g : Result (Unit {0}) Refused) → SectionRuled s n c true g u v → ClassRuled s n c g t v
  class-both o x v g y = record {
    is = y.is ∙ moved₁ ∙ sym (whole ∙ pass_then _ _ (sym x.is));
    front = both;
    types = on_ok g (λ w e. types_fill s n v c (λ d l. (front-ready t v both s n a).few d l true) (subst (λ (m : ℕ). TypesTo s n v (64 * c + m)) (ap (λ (b : List ℕ). row_count b true) (sym (front-block u v y.front c low₁))) (w (x.types e)))) y.types;
  }
    where
      low₁ : c < 16
      low₁ = omega (arith, a.most)

      both : Front t v
      both = front-then t u v x.front y.front

      moved₁ : section_ruling s n c true u ≡ section_ruling s n c true t
      moved₁ =
          ap (λ (P : Program). verdict (each (claims_of P c true) 0 (members_of true (class_at s u c)))) (front-program t u x.front s n)
          ∙ ap (λ (b : List ℕ). verdict (each (claims_of (program_in s n t) c true) 0 (members_of true (class_in s b)))) (front-block t u x.front c low₁)

-- ---- the classes, of which c have passed
pub record MembersTo (s : List ℕ) (n c : ℕ) (t₀ t : List ℕ) : Type 0 where
  pub front : Front t₀ t
  pub rest : verdict (each (member_claims (program_in s n t₀)) c (drop c (files_in s n t₀))) ≡ verdict (each (member_claims (program_in s n t₀)) 0 (files_in s n t₀))
  pub types : TypesTo s n t (64 * c)

pub members_start : (s : List ℕ) (n : ℕ) (t : List ℕ) → MembersTo s n 0 t t
members_start s n t = record { front = front_none t; rest = refl; types = types_none s n t }

module _ (s : List ℕ) (n c : ℕ) (t₀ t : List ℕ) (a : Ready s n t₀) (i : MembersTo s n c t₀ t) where
  files_length : length (files_in s n t₀) ≡ n
  files_length = ap (λ (fs : List ClassFile). length fs) (files_front s t₀ n a.most) ∙ counted s t₀ n

  pub members_ready : Ready s n t
  members_ready = front-ready t₀ t i.front s n a

  pub members_done : n ≤ c → c ≤ n → (v : Unit {0}) → MembersRuled s n (Ok v) t₀ t
  members_done l g v =
      let z : c ≡ n = omega arith in
      record {
        is = each_end (member_claims (program_in s n t₀)) (files_in s n t₀) c _ i.rest (omega (arith, files_length));
        front = i.front;
        types = subst (λ (m : ℕ). TypesTo s n t (64 * m)) z i.types;
      }

  module _ (h : c < n) (u : List ℕ) where
    class₀ : (r : Result (Unit {0}) Refused) → ClassRuled s n c r t u → ruling_of r ≡ verdict (member_claims (program_in s n t₀) c (get_or (files_in s n t₀) c (class_at s t₀ c)))
    class₀ r m =
        m.is ∙ ap (λ (P : Program). verdict (member_claims P c (class_at s t c))) (front-program t₀ t i.front s n)
        ∙ ap (λ (b : List ℕ). verdict (member_claims (program_in s n t₀) c (class_in s b))) (front-block t₀ t i.front c (omega (arith, a.most)))
        ∙ ap (λ (f : ClassFile). verdict (member_claims (program_in s n t₀) c f)) (sym (there s t₀ n c (class_at s t₀ c) h) ∙ ap (λ (fs : List ClassFile). get_or fs c (class_at s t₀ c)) (sym (files_front s t₀ n a.most)))

    pub members_fault : (e : Refused) → ClassRuled s n c (Err e) t u → (r : Result (Unit {0}) Refused) → IsErrAnd r (λ z. z ≡ e) → MembersRuled s n r t₀ u
    members_fault e m r z = subst (λ (y : Result (Unit {0}) Refused). MembersRuled s n y t₀ u) (sym (handed_on r e z)) (record {
      is = each_fail (member_claims (program_in s n t₀)) (files_in s n t₀) c _ i.rest _ _ (refused_as e) (omega (arith, files_length)) (class₀ (Err e) m) refl;
      front = front-then t₀ t u i.front m.front;
      types = tt;
    })

    pub members_next : (v : Unit {0}) → ClassRuled s n c (Ok v) t u → MembersTo s n (c + 1) t₀ u
    members_next v m = record {
      front = front-then t₀ t u i.front m.front;
      rest = each_pass (member_claims (program_in s n t₀)) (files_in s n t₀) c _ i.rest _ _ (omega (arith, files_length)) (class₀ (Ok v) m) refl;
      types = m.types i.types;
    }
