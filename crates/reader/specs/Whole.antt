-- Phases A and B whole: what `read` answers and what it leaves in the scratch. Assumes nothing.
use Rattle.std.specs.Prelude.{Result, Ok, Err, OnOk, IfOk, IsErrAnd, ℕ, ◌+◌, ◌*◌, ◌<◌, ◌≤◌, ◌≡◌, List, Bool, length, take}
use Rattle.std.proofs.Common.{◌∙◌, subst, arith, sym, ap, true, false, take_all}
use Rattle.kit.specs.Claims.{pass, verdict, then, then_assoc, pass_then, fail_then}
use Rattle.classfiles.specs.Limits.{max_parameters, unnamed}
use Rattle.reader.specs.Verdicts.{each}
use Rattle.texts.specs.Reading.{ok, bad}
use Rattle.classfiles.specs.Bundle.{ClassFile, bundle_at}
use Rattle.reader.specs.BuiltIns.{first_class}
use Rattle.reader.specs.Program.{method, method_of, program_of}
use Rattle.reader.specs.Link.{unique_class, member_claims, linked, Read, refused, program, or_refused, read_as, read_bundle}
use Rattle.classfiles.specs.Blocks.{classes_in}
use Rattle.reader.specs.Linked.{parents_at, files_in, Parents, refused_as, ruling_of, handed_on, class_ruling, ClassesLinked, files_front}
use Rattle.reader.specs.MemberRows.{block_at, row_count, row_at}
use Rattle.reader.specs.Prints.{prints_end, FewRows, Printed, AllPrinted, same_front, same_block}
use Rattle.reader.specs.MemberAt.{number_as, method-at}
use Rattle.reader.specs.TypeCodes.{types_at, types_end, params_in, results_in}
use Rattle.reader.specs.Access.{Limited}
use Rattle.reader.specs.MethodTypes.{Ready, TypesTo, fore_take, fore_block, fore_parents, front-take, front_parents, front_printed}
use Rattle.reader.specs.MemberPass.{program_in, MembersRuled}
use Rattle.reader.specs.FileLimits.{BodyFits, MethodFits, limited, method-fit}
use Rattle.texts.specs.declared.faults.Got.{Got}
use Rattle.texts.specs.declared.faults.Fault.{Fault}
use Rattle.reader.specs.declared.link.Refused.{Refused}
use Rattle.texts.specs.Faults.{number}

-- ---- phase B
pub record LinkedWhole (s : List ℕ) (n : ℕ) (r : Result (Unit {0}) Refused) (t u : List ℕ) : Type 0 where
  pub is : ruling_of r ≡ linked (files_in s n t) (program_in s n t)
  pub blocks : take parents_at u ≡ take parents_at t
  pub parents : OnOk r (Parents s n u)
  pub types : OnOk r (TypesTo s n u (64 * n))
  pub printed : OnOk r (Printed s n u)

always : {A E P : Type 0} (r : Result A E) → P → OnOk r P
always (Ok u) h = h
always (Err e) h = tt

pub same_limited : (n : ℕ) (t u : List ℕ) → n ≤ 16 → take parents_at u ≡ take parents_at t → Limited n t → Limited n u
same_limited n t u m e l = record {
  pool = λ c h. rw (same_block t u e c (omega arith)) (l.pool c h);
  fields = λ c h. rw (same_block t u e c (omega arith)) (l.fields c h);
  methods = λ c h. rw (same_block t u e c (omega arith)) (l.methods c h);
}

module _ (s : List ℕ) (n : ℕ) (t u : List ℕ) (m : n ≤ 16) where
  joined : linked (files_in s n t) (program_in s n t) ≡ then (class_ruling (files_in s n t)) (verdict (each (member_claims (program_in s n t)) 0 (files_in s n t)))
  unfolding linked class_ruling
  joined =
      sym (then_assoc (verdict (each (unique_class (files_in s n t)) 0 (files_in s n t))) _ _
      ∙ ap (then (verdict (each (unique_class (files_in s n t)) 0 (files_in s n t)))) (then_assoc _ _ _))

  pub whole_stop : (e : Refused) → ClassesLinked s n (Err e) t u → (r : Result (Unit {0}) Refused) → IsErrAnd r (λ z. z ≡ e) → LinkedWhole s n r t u
  whole_stop e x r z = subst (λ (y : Result (Unit {0}) Refused). LinkedWhole s n y t u) (sym (handed_on r e z)) (record {
    is = sym (joined ∙ fail_then _ _ _ (sym x.is));
    blocks = x.blocks;
    parents = tt;
    types = tt;
    printed = tt;
  })

  module _ (o : Unit {0}) (x : ClassesLinked s n (Ok o) t u) where
    pub whole_few : prints_end ≤ length t → length u ≡ length t → Limited n t → (n ≤ 16) × (prints_end ≤ length u) × FewRows n u
    whole_few l e h = (m, omega arith, record { at = λ c g method. few c g method })
      where
        limits : Limited n u
        limits = same_limited n t u m x.blocks h

        few : (c : ℕ) → c < n → (method : Bool) → row_count (block_at u c) method ≤ 64
        few c g true = limits.methods c g
        few c g false = omega (arith, limits.fields c g)

    module _ (f : FewRows n u) (v : List ℕ) (p : AllPrinted s n u v) where
      same : take types_at v ≡ take types_at u
      same = same_front types_end types_at u v (omega arith) p.front

      pub whole_ready : prints_end ≤ length u → Ready s n v
      whole_ready l = record {
        most = m;
        long = omega (arith, p.long);
        few = λ c g method. rw (fore_block u v same c (omega arith)) (f.at c g method);
        parents = fore_parents u v same s n m x.parents;
        printed = p.printed;
      }

      pub whole_members : (w : List ℕ) (r : Result (Unit {0}) Refused) → MembersRuled s n r v w → LinkedWhole s n r t w
      whole_members w r y = record {
        is =
            y.is ∙ ap (λ (fs : List ClassFile). verdict (each (member_claims (program_of fs)) 0 fs)) files
            ∙ sym (joined ∙ pass_then _ _ (sym x.is));
        blocks = front-take v w y.front parents_at (omega arith) ∙ before;
        parents = always r (front_parents v w y.front s n m (fore_parents u v same s n m x.parents));
        types = y.types;
        printed = always r (front_printed v w y.front s n m p.printed);
      }
        where
          before : take parents_at v ≡ take parents_at t
          before = fore_take u v same parents_at (omega arith) ∙ x.blocks

          files : files_in s n v ≡ files_in s n t
          files = ap (λ (l : List ℕ). classes_in s l n) before

-- ---- what is left in the scratch: n classes, their limits, their parents' numbers, and the types of their methods
pub record MethodTypes (s : List ℕ) (n : ℕ) (t : List ℕ) : Type 0 where
  pub params : (c j : ℕ) → c < n → j < row_count (block_at t c) true → params_in t (64 * c + j) ≡ (method (program_in s n t) (first_class + c) j).params
  pub results : (c j : ℕ) → c < n → j < row_count (block_at t c) true → results_in t (64 * c + j) ≡ (method (program_in s n t) (first_class + c) j).results

pub record Tables (s : List ℕ) (n : ℕ) (t : List ℕ) : Type 0 where
  pub most : n ≤ 16
  pub end : ℕ
  pub files : bundle_at s ≡ ok (files_in s n t) end
  pub passed : linked (files_in s n t) (program_in s n t) ≡ pass
  pub limited : Limited n t
  pub parents : Parents s n t
  pub types : MethodTypes s n t
  pub bodies : (c j : ℕ) → c < n → j < row_count (block_at t c) true → BodyFits (row_at s (block_at t c) true j).body

-- the answer as the meaning's
abbrev pub read_of : List ℕ → Result ℕ Refused → List ℕ → Read
read_of s (Ok n) t = program (program_in s n t)
read_of s (Err e) t = refused (refused_as e)

pub record IsReading (s : List ℕ) (r : Result ℕ Refused) (t : List ℕ) : Type 0 where
  pub is : read_of s r t ≡ read_bundle s
  pub tables : IfOk r (λ n. Tables s n t)
  pub printed : IfOk r (λ n. Printed s n t)

-- a refusal that `?` hands on
gives : (s t : List ℕ) (e : Refused) (r : Result ℕ Refused) → IsErrAnd r (λ z. z ≡ e) → IsReading s (Err e) t → IsReading s r t
gives s t e r h x = subst (λ (y : Result ℕ Refused). IsReading s y t) (sym (handed_on r e h)) x

pub read_bad : (s t : List ℕ) (f : Fault) → bad (number f.0) f.1 ≡ bundle_at s → (r : Result ℕ Refused) → IsErrAnd r (λ z. z ≡ record { refusal = f.0; class = unnamed; place = f.1 }) → IsReading s r t
unfolding read_bundle read_as
read_bad s t f e r h = gives s t _ r h (record { is = ap read_as e; tables = tt; printed = tt })

module _ (s t : List ℕ) (g : Got ℕ) (e : ok (classes_in s t g.val) g.at ≡ bundle_at s) (m : g.val ≤ 16) (l : prints_end ≤ length t) where
  pub read_limited : Limited g.val t
  read_limited = limited s t g.val g.at (sym e) m (omega arith)

  module _ (u : List ℕ) (r : Result (Unit {0}) Refused) (x : LinkedWhole s g.val r t u) where
    files_now : files_in s g.val u ≡ classes_in s t g.val
    files_now = ap (λ (y : List ℕ). classes_in s y g.val) x.blocks ∙ files_front s t g.val m

    read_now : bundle_at s ≡ ok (files_in s g.val u) g.at
    read_now = sym e ∙ ap (λ (fs : List ClassFile). ok fs g.at) (sym files_now)

    ruled_now : ruling_of r ≡ linked (files_in s g.val u) (program_in s g.val u)
    ruled_now = x.is ∙ ap (λ (fs : List ClassFile). linked fs (program_of fs)) (files_front s t g.val m ∙ sym files_now)

    fit : (c j : ℕ) → c < g.val → j < row_count (block_at u c) true → MethodFits (row_at s (block_at u c) true j)
    fit c j h k = method-fit s u g.val g.at (read_now ∙ ap (λ (fs : List ClassFile). ok fs g.at) (files_front s u g.val m)) c j h k

    types_whole : TypesTo s g.val u (64 * g.val) → MethodTypes s g.val u
    unfolding method_of
    types_whole y = record {
      params = λ c j h k. (y.at c j h k (under c j h k)).params ∙ take_all max_parameters (method (program_in s g.val u) (first_class + c) j).params (few c j h k);
      results = λ c j h k. (y.at c j h k (under c j h k)).results;
    }
      where
        limits : Limited g.val u
        limits = same_limited g.val t u m x.blocks read_limited

        under : (c j : ℕ) → c < g.val → j < row_count (block_at u c) true → 64 * c + j < 64 * g.val
        under c j h k = omega (arith, limits.methods c h)

        few : (c j : ℕ) → c < g.val → j < row_count (block_at u c) true → length (method (program_in s g.val u) (first_class + c) j).params ≤ max_parameters
        few c j h k =
            rw (method-at s g.val u m c h j k)
            ((fit c j h k).0 (number_as s g.val u))

  pub read_ok : (u : List ℕ) (v : Unit {0}) → LinkedWhole s g.val (Ok v) t u → IsReading s (Ok g.val) u
  unfolding read_bundle read_as or_refused
  read_ok u v x = record {
    is = ap (or_refused (program_in s g.val u)) (ruled_now u (Ok v) x) ∙ sym (ap read_as (read_now u (Ok v) x));
    tables = record {
      most = m;
      end = g.at;
      files = read_now u (Ok v) x;
      passed = sym (ruled_now u (Ok v) x);
      limited = same_limited g.val t u m x.blocks read_limited;
      parents = x.parents;
      types = types_whole u (Ok v) x x.types;
      bodies = λ c j h k. (fit u (Ok v) x c j h k).1;
    };
    printed = x.printed;
  }

  pub read_refused : (u : List ℕ) (e : Refused) → LinkedWhole s g.val (Err e) t u → (r : Result ℕ Refused) → IsErrAnd r (λ z. z ≡ e) → IsReading s r u
  unfolding read_bundle read_as or_refused
  read_refused u e x r z = gives s u e r z (record {
    is = ap (or_refused (program_in s g.val u)) (ruled_now u (Err e) x) ∙ sym (ap read_as (read_now u (Err e) x));
    tables = tt;
    printed = tt;
  })
