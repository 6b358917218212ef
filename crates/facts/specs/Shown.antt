-- From a program that was read and shaped to what phases A to C have shown, as facts.
use Prim.Native.Nat.{ℕ, zero, suc, ◌+◌, ◌<◌}
use Rattle.std.specs.Prelude.{◌≡◌, refl, length, get_or}
use mathlib.Core.List.{List, [], ◌∷◌}
use Rattle.std.proofs.Common.{arith, get_or-drop}
use Rattle.kit.specs.Claims.{AllT, Ruling, pass, fail, verdict, relabel, then_pass_left, then_pass_right, relabel_pass, pass_all}
use Rattle.reader.specs.Verdicts.{Fault, Refusal, in_method, Verdict, each}
use Rattle.texts.specs.Reading.{Res, ok, bad}
use Rattle.reader.specs.BuiltIns.{first_class}
use Rattle.classfiles.specs.Bundle.{ClassFile, bundle_at}
use Rattle.reader.specs.Program.{Program, Class, Method, no_class, no_method, class, method, program_of}
use Rattle.reader.specs.Link.{unique_class, super_claims, chain_claims, member_claims, linked, Read, refused, program, or_refused, read_as, read_bundle}
use Rattle.rules.specs.Shape.{shape_claims}
use Rattle.shaping.specs.Verify.{over_methods, over_classes, bundle_classes, shape, shape_read, read_shaped}

-- what linking has shown of the class files fs
pub record Linked (fs : List ClassFile) : Type 0 where
  pub unique : AllT (each (unique_class fs) 0 fs)
  pub supers : AllT (each (super_claims fs) 0 fs)
  pub chains : AllT (each (chain_claims (program_of fs)) 0 fs)
  pub members : AllT (each (member_claims (program_of fs)) 0 fs)

-- phases A and B
pub record WasRead (s : List ℕ) (P : Program) : Type 0 where
  pub files : List ClassFile
  pub end : ℕ
  pub read : bundle_at s ≡ ok files end
  pub is : P ≡ program_of files
  pub linked : Linked files

pub record Shown (s : List ℕ) (P : Program) : Type 0 where
  pub read : WasRead s P
  pub shaped : (i j : ℕ) → j < length (class P (first_class + i)).methods → AllT (shape_claims P (method P (first_class + i) j))

-- the first refusal over all methods is none: each passes
module _ (judge : Method → Ruling Fault) where
  method_pass : (i j : ℕ) (Ms : List Method) → over_methods judge i j Ms ≡ pass → (k : ℕ) → k < length Ms → judge (get_or Ms k no_method) ≡ pass
  unfolding over_methods
  method_pass i j [] e k h = absurd (omega arith)
  method_pass i j (M ∷ Ms) e zero h = relabel_pass (in_method i j) (judge M) (then_pass_left (relabel (in_method i j) (judge M)) (over_methods judge i (suc j) Ms) e)
  method_pass i j (M ∷ Ms) e (suc k) h =
      method_pass i (suc j) Ms (then_pass_right (relabel (in_method i j) (judge M)) (over_methods judge i (suc j) Ms) e) k (omega arith)

  class_pass : (i : ℕ) (Cs : List Class) → over_classes judge i Cs ≡ pass → (c k : ℕ) → k < length (get_or Cs c no_class).methods → judge (get_or (get_or Cs c no_class).methods k no_method) ≡ pass
  unfolding over_classes
  class_pass i [] e c k h = absurd (omega arith)
  class_pass i (C ∷ Cs) e zero k h = method_pass i 0 C.methods (then_pass_left (over_methods judge i 0 C.methods) (over_classes judge (suc i) Cs) e) k h
  class_pass i (C ∷ Cs) e (suc c) k h = class_pass (suc i) Cs (then_pass_right (over_methods judge i 0 C.methods) (over_classes judge (suc i) Cs) e) c k h

  -- for the bundle's classes by their numbers
  pub all_pass : (P : Program) → over_classes judge 0 (bundle_classes P) ≡ pass → (i j : ℕ) → j < length (class P (first_class + i)).methods → judge (method P (first_class + i) j) ≡ pass
  all_pass P e i j h =
      let d : get_or (bundle_classes P) i no_class ≡ class P (first_class + i) = get_or-drop first_class P.classes i no_class in
      rw d at (class_pass 0 (bundle_classes P) e i j (rw d h))

-- phases B, and A before it
pub linked-all : (fs : List ClassFile) → linked fs (program_of fs) ≡ pass → Linked fs
unfolding linked
linked-all fs e =
    let a = then_pass_right (verdict (each (unique_class fs) 0 fs)) _ e in
    let b = then_pass_right (verdict (each (super_claims fs) 0 fs)) _ a in
    record {
      unique = pass_all _ (then_pass_left (verdict (each (unique_class fs) 0 fs)) _ e);
      supers = pass_all _ (then_pass_left (verdict (each (super_claims fs) 0 fs)) _ a);
      chains = pass_all _ (then_pass_left (verdict (each (chain_claims (program_of fs)) 0 fs)) _ b);
      members = pass_all _ (then_pass_right (verdict (each (chain_claims (program_of fs)) 0 fs)) _ b);
    }

no_read : {A : Type 0} (r : Refusal) (P : Program) → refused r ≡ program P → A
no_read r P e = let z : ◌≡◌ {A = ℕ} 0 1 = cc in absurd (omega arith)

reading : (s : List ℕ) (P : Program) → read_bundle s ≡ program P → WasRead s P
unfolding read_bundle read_as or_refused
reading s P e = go (bundle_at s) refl e
  where
    on : (fs : List ClassFile) (end : ℕ) → bundle_at s ≡ ok fs end → (v : Verdict) → linked fs (program_of fs) ≡ v → or_refused (program_of fs) v ≡ program P → WasRead s P
    on fs end p pass q e = record { files = fs; end = end; read = p; is = (cc); linked = linked-all fs q }
    on fs end p (fail r) q e = no_read r P e

    go : (r : Res (List ClassFile)) → bundle_at s ≡ r → read_as r ≡ program P → WasRead s P
    go (ok fs end) p e = on fs end p (linked fs (program_of fs)) refl e
    go (bad n q) p e = no_read _ P e

-- phase C
shaping : (s : List ℕ) (P : Program) → read_shaped s ≡ program P → (read_bundle s ≡ program P) × (shape P ≡ pass)
unfolding read_shaped shape_read or_refused
shaping s P e = go (read_bundle s) refl e
  where
    on : (Q : Program) → read_bundle s ≡ program Q → (v : Verdict) → shape Q ≡ v → or_refused Q v ≡ program P → (read_bundle s ≡ program P) × (shape P ≡ pass)
    on Q p pass q e = let z : Q ≡ P = cc in (rw z at p, rw z at q)
    on Q p (fail r) q e = no_read r P e

    go : (r : Read) → read_bundle s ≡ r → shape_read r ≡ program P → (read_bundle s ≡ program P) × (shape P ≡ pass)
    go (refused r) p e = no_read r P e
    go (program Q) p e = on Q p (shape Q) refl e

pub shown : (s : List ℕ) (P : Program) → read_shaped s ≡ program P → Shown s P
unfolding shape
shown s P e =
    let c = shaping s P e in
    record { read = reading s P c.0; shaped = λ i j h. pass_all _ (all_pass (λ M. verdict (shape_claims P M)) P c.1 i j h) }
