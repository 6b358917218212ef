-- Phase B, linking: duplicate class names; zero or unknown supers; the lowest class whose chain misses Object; members.
use Rattle.std.specs.Prelude.{ℕ, ◌+◌, List, [], ◌∷◌, ◌++◌, Bool, true, false, cond, length, get_or, ltb, eqb}
use Rattle.std.specs.Bool.{beq}
use Rattle.kit.specs.Claims.{Claim, claim, pass, fail, verdict, then}
use Rattle.reader.specs.Verdicts.{fault, Refusal, in_class, in_bundle, Verdict, each}
use Rattle.texts.specs.Reading.{Res, ok, bad}
use Rattle.classfiles.specs.Descriptors.{Desc, known_desc}
use Rattle.classfiles.specs.Members.{Member}
use Rattle.classfiles.specs.Bundle.{ClassFile, Super, zero', named, bundle_at}
use Rattle.reader.specs.BuiltIns.{object, first_class}
use Rattle.reader.specs.Program.{Program, no_field, class, method, class_count, class_names, number_in, program_of, field_sigs, method_sigs, index_of, Spot, nowhere, spot, lookup, below}

-- class i's claim at its first byte
abbrev pub of_class : ℕ → ℕ → ClassFile → Bool → List (Claim Refusal)
of_class n i f b = claim (in_class i (fault n f.start)) b ∷ []

module _ (fs : List ClassFile) where
  -- no built-in and no earlier class has its name
  unfoldable pub unique_class : ℕ → ClassFile → List (Claim Refusal)
  unique_class i f = of_class 8 i f (eqb (number_in (class_names fs) f.name) (first_class + i))

  abbrev pub super_known : Super → Bool
  super_known zero' = false
  super_known (named t) = ltb (number_in (class_names fs) t) (length (class_names fs))

  unfoldable pub super_claims : ℕ → ClassFile → List (Claim Refusal)
  super_claims i f = of_class 9 i f (super_known f.super)

module _ (P : Program) where
  unfoldable pub chain_claims : ℕ → ClassFile → List (Claim Refusal)
  chain_claims i f = of_class 9 i f (below P (first_class + i) object)

  unfoldable pub all_known : List Desc → Bool
  all_known [] = true
  all_known (d ∷ ds) = cond (known_desc (class_count P) d) (all_known ds) false

  -- a member's 8 before its 9
  abbrev pub of_member : ℕ → Member → Bool → Bool → List (Claim Refusal)
  of_member i m unique known =
      claim (in_class i (fault 8 m.start)) unique ∷ claim (in_class i (fault 9 m.start)) known ∷ []

  unfoldable pub field_claims : ℕ → ℕ → Member → List (Claim Refusal)
  field_claims i j m =
      let C = class P (first_class + i) in
      let F = get_or C.fields j no_field in
      of_member i m (eqb (index_of F.sig (field_sigs C)) j) (known_desc (class_count P) F.type)

  -- the method found above, if there is one, is static exactly if this one is
  abbrev pub agrees : Bool → Spot → Bool
  agrees b nowhere = true
  agrees b (spot c m) = beq b (method P c m).static

  unfoldable pub method_claims : ℕ → ℕ → Member → List (Claim Refusal)
  method_claims i j m =
      let C = class P (first_class + i) in
      let M = method P (first_class + i) j in
      of_member i m (eqb (index_of M.sig (method_sigs C)) j)
      (cond (all_known (M.params ++ M.results)) (agrees M.static (lookup P method_sigs M.sig C.parent)) false)

  unfoldable pub member_claims : ℕ → ClassFile → List (Claim Refusal)
  member_claims i f = each (field_claims i) 0 f.fields ++ each (method_claims i) 0 f.methods

-- phase B
unfoldable pub linked : List ClassFile → Program → Verdict
linked fs P =
    then (verdict (each (unique_class fs) 0 fs))
    (then (verdict (each (super_claims fs) 0 fs))
    (then (verdict (each (chain_claims P) 0 fs)) (verdict (each (member_claims P) 0 fs))))

-- a bundle after phases A and B: the program, or the verdict
pub data Read : Type 0 where
  refused : Refusal → Read
  program : Program → Read

-- the program where a phase passes it
unfoldable pub or_refused : Program → Verdict → Read
or_refused P pass = program P
or_refused P (fail r) = refused r

abbrev pub link : List ClassFile → Read
link fs = let P = program_of fs in or_refused P (linked fs P)

unfoldable pub read_as : Res (List ClassFile) → Read
read_as (ok fs e) = link fs
read_as (bad n p) = refused (in_bundle (fault n p))

unfoldable pub read_bundle : List ℕ → Read
read_bundle s = read_as (bundle_at s)
