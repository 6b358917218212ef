-- All phases in order, and what a call leaves. Assumes nothing.
use Rattle.std.specs.Prelude.{ℕ, Result, Ok, Err, IfOk, IfErr, IsErrAnd, ◌^◌, ◌<◌, ◌≤◌, ◌≡◌, length, get_or, take, replicate}
use Rattle.std.proofs.Common.{◌∙◌, arith, take-take, lt-ltb, le-ltb, eq-eqb, ne_eqb, refl, sym, ap, subst, cond, List, eqb}
use Rattle.kit.specs.Claims.{Ruling, pass, fail}
use Rattle.classfiles.specs.Limits.{scratch_size, unnamed}
use Rattle.reader.specs.Verdicts.{fault, Refusal, in_method, numbers}
use Rattle.classfiles.specs.Bundle.{ClassFile}
use Rattle.reader.specs.Link.{Read, refused, program, or_refused, read_bundle}
use Rattle.classfiles.specs.Blocks.{classes_in}
use Rattle.reader.specs.Linked.{parents_at, files_in}
use Rattle.reader.specs.Program.{program_of}
use Rattle.reader.specs.FaultNumbers.{LowRead, read_low}
use Rattle.reader.specs.Whole.{IsReading}
use Rattle.reader.specs.Outlet.{answer, told, outcome, result_size, result_bytes, Exported, exported, export_of}
use Rattle.reader.specs.declared.link.Refused as reader
use Rattle.reader.specs.declared.outlet.Answer.{Answer}
use Rattle.shaping.specs.Verify.{over_classes, bundle_classes, shape, typing, shape_read, read_shaped, type_read, verdict_of, Verified, verified, wrong_size, verify_of}
use Rattle.rules.specs.Sites.{front}
use Rattle.shaping.specs.Located.{Prepared}
use Rattle.shaping.specs.Kept.{prepared_front}
use Rattle.shaping.specs.Phases.{Readied, program_now, shape_by, typing_by, verdict_as, of_all, Done}
use Rattle.texts.specs.Faults.{number}
use Rattle.shaping.specs.declared.phases.Refused.{Refused}

-- ---- phases A to C
abbrev pub refusal_of : Answer → Refusal
refusal_of r = in_method r.class r.method (fault r.number r.place)

-- the program of so many classes, or a refusal
abbrev pub shaped_as : List ℕ → List ℕ → Result ℕ Answer → Read
shaped_as s t (Ok n) = program (program_now s n t)
shaped_as s t (Err a) = refused (refusal_of a)

pub record IsShaped (s : List ℕ) (r : Result ℕ Answer) (t : List ℕ) : Type 0 where
  pub is : shaped_as s t r ≡ read_shaped s
  pub ready : IfOk r (λ n. Readied s n t)
  pub passes : IfOk r (λ n. of_all shape_by s n t ≡ pass)
  pub small : IfErr r (λ a. a.number < 2 ^ 32)

shape_now : (s : List ℕ) (n : ℕ) (t : List ℕ) → of_all shape_by s n t ≡ shape (program_now s n t)
unfolding shape shape_by
shape_now s n t = refl

pub typing_now : (s : List ℕ) (n : ℕ) (t : List ℕ) → of_all typing_by s n t ≡ typing (program_now s n t)
unfolding typing typing_by
typing_now s n t = refl

-- a refusal that `?` hands on
handed_back : (s : List ℕ) (P : Answer → Type 0) (r : Result ℕ Answer) (t : List ℕ) → IsErrAnd r P → ((a : Answer) → P a → IsShaped s (Err a) t) → IsShaped s r t
handed_back s P (Err a) t h k = k a h
handed_back s P (Ok n) t h k = absurd h

module _ (s t : List ℕ) where
  pub shaped_unread : (e : reader.Refused) → IsReading s (Err e) t → (r : Result ℕ Answer) → IsErrAnd r (λ a. a ≡ answer (number e.refusal) e.class unnamed e.place) → IsShaped s r t
  unfolding read_shaped shape_read
  shaped_unread e x r h = handed_back s (λ a. a ≡ answer (number e.refusal) e.class unnamed e.place) r t h (λ a w. rw w (record {
    is = sym (ap shape_read (sym x.is));
    ready = tt;
    passes = tt;
    small = let l : number e.refusal ≤ 9 = subst LowRead (sym x.is) (read_low s) in omega arith;
  }))

  module _ (n : ℕ) (x : IsReading s (Ok n) t) where
    module _ (u : List ℕ) (e : take 103040 u ≡ take 103040 t) (p : Prepared s n u) (long : 262144 ≤ length u) where
      pub shaped_readied : Readied s n u
      shaped_readied = record { prepared = prepared_front s n u p; long = long }

      program_is : read_bundle s ≡ program (program_now s n u)
      program_is = sym x.is ∙ ap (λ (fs : List ClassFile). program (program_of fs)) files
        where
          files : files_in s n t ≡ files_in s n (front u)
          files =
              ap (λ (l : List ℕ). classes_in s l n)
              (sym (take-take parents_at 103040 t (omega arith)) ∙ ap (take parents_at) (sym e) ∙ take-take parents_at 103040 u (omega arith) ∙ sym (take-take parents_at 187008 u (omega arith)))

      module _ (w : List ℕ) where
        pub shaped_passes : Done (of_all shape_by s n u) (Ok tt) u w → length w ≡ length u → IsShaped s (Ok n) w
        unfolding read_shaped shape_read or_refused
        shaped_passes d k = record {
          is =
              ap (λ (f : List ℕ). program (program_of (files_in s n f))) d.front
              ∙ ap (λ (R : Ruling Refusal). or_refused (program_now s n u) R) (d.is ∙ shape_now s n u)
              ∙ sym (ap shape_read program_is);
          ready = record { prepared = subst (Prepared s n) (sym d.front) (prepared_front s n u p); long = omega (arith, k, long) };
          passes = ap (λ (f : List ℕ). over_classes (shape_by (program_of (files_in s n f))) 0 (bundle_classes (program_of (files_in s n f)))) d.front ∙ sym d.is;
          small = tt;
        }

        pub shaped_fails : (e : Refused) → Done (of_all shape_by s n u) (Err e) u w → (r : Result ℕ Answer) → IsErrAnd r (λ a. (a ≡ answer (number e.refusal) e.class e.method e.place) × (a.number < 2 ^ 32)) → IsShaped s r w
        unfolding read_shaped shape_read or_refused
        shaped_fails e d r h = handed_back s (λ a. (a ≡ answer (number e.refusal) e.class e.method e.place) × (a.number < 2 ^ 32)) r w h (λ a z. record {
          is =
              ap (λ (b : Answer). refused (refusal_of b)) z.0
              ∙ ap (λ (R : Ruling Refusal). or_refused (program_now s n u) R) (d.is ∙ shape_now s n u)
              ∙ sym (ap shape_read program_is);
          ready = tt;
          passes = tt;
          small = z.1;
        })

-- ---- all phases: the answer's four numbers, and the scratch
pub record IsVerified (s t : List ℕ) (r : Answer) (u : List ℕ) : Type 0 where
  pub says : told r ≡ numbers (verify_of s t).answer
  pub leaves : u ≡ (verify_of s t).scratch
  pub small : r.number < 2 ^ 32

-- no two outcomes
pub one_verified : (s t : List ℕ) (r r' : Answer) (u u' : List ℕ) → IsVerified s t r u → IsVerified s t r' u' → (r ≡ r') × (u ≡ u')
one_verified s t r r' u u' a b =
    (ap (λ (l : List ℕ). answer (get_or l 0 0) (get_or l 1 0) (get_or l 2 0) (get_or l 3 0)) (a.says ∙ sym b.says), a.leaves ∙ sym b.leaves)

short_verified : (s t : List ℕ) → length t < scratch_size → verify_of s t ≡ verified (fail wrong_size) t
unfolding verify_of
short_verified s t h = rw (lt-ltb (length t) scratch_size h)

long_verified : (s t : List ℕ) → scratch_size ≤ length t → verify_of s t ≡ verified (verdict_of s) (replicate (length t) 0)
unfolding verify_of
long_verified s t h = rw (le-ltb (length t) scratch_size h)

pub verify_short : (s t : List ℕ) → length t < scratch_size → IsVerified s t (answer 20 unnamed unnamed 0) t
unfolding numbers
verify_short s t h = record { says = rw (short_verified s t h); leaves = rw (short_verified s t h); small = omega arith }

module _ (s t u v : List ℕ) (h : scratch_size ≤ length t) where
  zeros : (w : List ℕ) → length w ≡ length t → v ≡ replicate (length w) 0 → v ≡ (verify_of s t).scratch
  zeros w l z = z ∙ ap (λ (k : ℕ). replicate k 0) l ∙ sym (ap (λ (y : Verified). y.scratch) (long_verified s t h))

  pub verify_refused : (a : Answer) → IsShaped s (Err a) u → length u ≡ length t → v ≡ replicate (length u) 0 → IsVerified s t a v
  unfolding numbers verdict_of type_read
  verify_refused a x l z = record {
    says = sym (ap (λ (y : Verified). numbers y.answer) (long_verified s t h) ∙ ap (λ (y : Read). numbers (type_read y)) (sym x.is));
    leaves = zeros u l z;
    small = x.small;
  }

  module _ (n : ℕ) (x : IsShaped s (Ok n) u) (w : List ℕ) where
    typed : (d : Result (Unit {0}) Refused) → Done (of_all typing_by s n u) d u w → numbers (verdict_as d) ≡ numbers (verify_of s t).answer
    unfolding verdict_of type_read
    typed d y =
        ap numbers (y.is ∙ typing_now s n u)
        ∙ sym (ap (λ (q : Verified). numbers q.answer) (long_verified s t h) ∙ ap (λ (q : Read). numbers (type_read q)) (sym x.is))

    pub verify_accepts : Done (of_all typing_by s n u) (Ok tt) u w → length w ≡ length t → v ≡ replicate (length w) 0 → IsVerified s t (answer 0 unnamed unnamed 0) v
    unfolding numbers
    verify_accepts y l z = record { says = typed (Ok tt) y; leaves = zeros w l z; small = omega arith }

    pub verify_rejects : (e : Refused) → Done (of_all typing_by s n u) (Err e) u w → length w ≡ length t → v ≡ replicate (length w) 0 → (a : Answer) → a ≡ answer (number e.refusal) e.class e.method e.place → a.number < 2 ^ 32
        → IsVerified s t a v
    unfolding numbers
    verify_rejects e y l z a q b = record { says = ap told q ∙ typed (Err e) y; leaves = zeros w l z; small = b }

-- ---- the export: the verdict's number, the scratch and the result; a result of another size is 20 and nothing changes
unfoldable pub verify_export : List ℕ → List ℕ → List ℕ → Exported
verify_export s t o = cond (eqb (length o) result_size) (export_of (outcome (verify_of s t).answer (verify_of s t).scratch)) (exported 20 t o)

pub wrong_result : (s t o : List ℕ) → (length o ≡ result_size → ⊥) → exported 20 t o ≡ verify_export s t o
unfolding verify_export
wrong_result s t o h = rw (ne_eqb (length o) result_size h)

same_export : (n n' : ℕ) (t t' o o' : List ℕ) → n ≡ n' → t ≡ t' → o ≡ o' → exported n t o ≡ exported n' t' o'
same_export n n' t t' o o' p q r = cc

pub right_result : (s t u o v : List ℕ) (r : Answer) → length o ≡ result_size → IsVerified s t r u → v ≡ result_bytes (told r) → exported r.number u v ≡ verify_export s t o
unfolding verify_export
right_result s t u o v r h x e =
    rw (eq-eqb (length o) result_size h)
    (same_export _ _ _ _ _ _ (ap (λ (l : List ℕ). get_or l 0 0) x.says) x.leaves (e ∙ ap result_bytes x.says))
