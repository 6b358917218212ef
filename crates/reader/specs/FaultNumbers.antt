-- No phase before C refuses with a number above 9. Assumes nothing.
use Rattle.std.specs.Prelude.{List, [], ◌∷◌, ◌++◌, Bool, true, false, cond, length}
use Rattle.std.proofs.Common.{arith, ℕ, zero, suc, ◌≤◌}
use Rattle.kit.specs.Claims.{Claim, claim, pass, fail, verdict, then}
use Rattle.reader.specs.Verdicts.{Refusal, Verdict, each}
use Rattle.texts.specs.Reading.{Res, ok, bad, and_then, pre, many, sum_at, num2_at, num4_at, skip_at, short_at, u2, u4}
use Rattle.texts.specs.Names.{Text}
use Rattle.classfiles.specs.Descriptors.{Desc, dint, dref, MethodType, named_at, base_at, type_at, params_at, results_at, whole, field_type_at, method_type_at, as_ref, class_type_at}
use Rattle.classfiles.specs.Pool.{Constant, absent, utf8, integer, class_at, fieldref, methodref, name_and_type, entry, res_fault, name_fault, pair_fault, constant_fault, entry_fault, utf8_at, fixed_at, entry_at, judged_at, checked_at, tags_at, pool_at, utf8_index_at, class_index_at}
use Rattle.classfiles.specs.Members.{inner_at, inners_at, code_at, handler_at, table_at, body_at, attribute_at, attributes_at, access_at, name_at, method_type_ok, descriptor_at, member_at}
use Rattle.classfiles.specs.Bundle.{ClassFile, magic_at, version_at, class_access_at, this_at, super_at, interfaces_at, members_at, class_file_at, class_files_at, bundle_at}
use Rattle.reader.specs.Program.{Program, program_of}
use Rattle.reader.specs.Link.{unique_class, super_claims, chain_claims, field_claims, method_claims, member_claims, linked, Read, refused, program, or_refused, read_as, read_bundle}

-- ---- phase A
abbrev Low : {A : Type 0} → Res A → Type 0
Low (ok v e) = Unit {0}
Low (bad n p) = n ≤ 9

pub record Small {A : Type 0} (x : Res A) : Type 0 where
  pub low : Low x

good : {A : Type 0} (v : A) (e : ℕ) → Small (ok v e)
good v e = record { low = tt }

stop : {A : Type 0} (n p : ℕ) → n ≤ 9 → Small {A = A} (bad n p)
stop n p h = record { low = h }

chain : {A B : Type 0} (x : Res A) (f : A → ℕ → Res B) → Small x → ((v : A) (e : ℕ) → Small (f v e)) → Small (and_then x f)
unfolding and_then
chain (ok v e) f h k = k v e
chain (bad n p) f h k = record { low = h.low }

pick : {A : Type 0} (t : Bool) (x y : Res A) → Small x → Small y → Small (cond t x y)
pick true x y h k = h
pick false x y h k = k

pre_low : {A : Type 0} (xs : List A) (x : Res (List A)) → Small x → Small (pre xs x)
unfolding pre
pre_low xs (ok ys e) h = good (xs ++ ys) e
pre_low xs (bad n p) h = record { low = h.low }

one : 1 ≤ 9
one = omega arith

two : 2 ≤ 9
two = omega arith

three : 3 ≤ 9
three = omega arith

four : 4 ≤ 9
four = omega arith

five : 5 ≤ 9
five = omega arith

six : 6 ≤ 9
six = omega arith

seven : 7 ≤ 9
seven = omega arith

ruleset lows = (chain, pick, good, stop, one, two, three, four, five, six, seven)

many_low : {A : Type 0} (f : ℕ → Res A) → ((q : ℕ) → Small (f q)) → (n q : ℕ) → Small (many f n q)
unfolding many
many_low f h zero q = good [] q
many_low f h (suc n) q = chain (f q) _ (h q) (λ a e. pre_low (a ∷ []) (many f n e) (many_low f h n e))

sum_low : {A B : Type 0} (f : ℕ → Res A) (g : B → A → B) → ((q : ℕ) → Small (f q)) → (n : ℕ) (b : B) (q : ℕ) → Small (sum_at f g n b q)
unfolding sum_at
sum_low f g h zero b q = good b q
sum_low f g h (suc n) b q = chain (f q) _ (h q) (λ a e. sum_low f g h n (g b a) e)

module _ (s : List ℕ) (e n p : ℕ) (h : n ≤ 9) where
  num2_low : (q : ℕ) → Small (num2_at s e n p q)
  unfolding num2_at
  num2_low q = search lows

  num4_low : (q : ℕ) → Small (num4_at s e n p q)
  unfolding num4_at
  num4_low q = search lows

  short_low : (most q : ℕ) → Small (short_at s e n p most q)
  unfolding short_at
  short_low most q = search (lows, num2_low) depth 12

skip_low : (e n p : ℕ) → n ≤ 9 → (k q : ℕ) → Small (skip_at e n p k q)
unfolding skip_at
skip_low e n p h k q = search lows

u2_low : (s : List ℕ) (q : ℕ) → Small (u2 s q)
unfolding u2
u2_low s q = num2_low s (length s) 2 q two q

u4_low : (s : List ℕ) (q : ℕ) → Small (u4 s q)
unfolding u4
u4_low s q = num4_low s (length s) 2 q two q

ruleset parts = (lows, num2_low, num4_low, short_low, skip_low, u2_low, u4_low)

-- descriptors
module _ (number : Text → ℕ) (t : Text) (p : ℕ) where
  named_low : (q z : ℕ) → Small (named_at number t p q z)
  unfolding named_at
  named_low q z = search lows

  base_low : (q : ℕ) → Small (base_at number t p q)
  unfolding base_at
  base_low q = search (lows, named_low)

  type_low : (k q : ℕ) → Small (type_at number t p k q)
  unfolding type_at
  type_low zero q = base_low q
  type_low (suc k) q = let h : (x : ℕ) → Small (type_at number t p k x) = λ x. type_low k x in search (lows, base_low, h) depth 12

  params_low : (n q : ℕ) → Small (params_at number t p n q)
  unfolding params_at
  params_low zero q = stop 7 p seven
  params_low (suc n) q = let h : (x : ℕ) → Small (params_at number t p n x) = λ x. params_low n x in search (lows, type_low, pre_low, h) depth 12

  results_low : (q : ℕ) → Small (results_at number t p q)
  unfolding results_at
  results_low q = search (lows, type_low) depth 12

  whole_low : {A : Type 0} (a : A) (e : ℕ) → Small (whole number t p a e)
  unfolding whole
  whole_low a e = search lows

  field_low : Small (field_type_at number t p)
  unfolding field_type_at
  field_low = search (lows, type_low, whole_low) depth 12

  method_low : Small (method_type_at number t p)
  unfolding method_type_at
  method_low = search (lows, params_low, results_low, whole_low) depth 12

  ref_low : (d : Desc) (e : ℕ) → Small (as_ref number t p d e)
  unfolding as_ref
  ref_low dint e = stop 7 p seven
  ref_low (dref r) e = good r e

  class_low : Small (class_type_at number t p)
  unfolding class_type_at
  class_low = search (lows, field_low, ref_low) depth 12

-- the pool
fault_low : {A : Type 0} (x : Res A) → Small x → res_fault x ≤ 9
fault_low (ok v e) h = omega arith
fault_low (bad n p) h = h.low

pick_low : (t : Bool) (a b : ℕ) → a ≤ 9 → b ≤ 9 → cond t a b ≤ 9
pick_low true a b h k = h
pick_low false a b h k = k

none : 0 ≤ 9
none = omega arith

pair_low : (a b : Bool) → pair_fault a b ≤ 9
unfolding pair_fault
pair_low a b = search (pick_low, none, five)

name_low : (pool : List Constant) (i : ℕ) → name_fault pool i ≤ 9
unfolding name_fault
name_low pool i = search (pick_low, five, fault_low, class_low)

constant_low : (pool : List Constant) (c : Constant) → constant_fault pool c ≤ 9
constant_low pool absent = none
constant_low pool (utf8 t) = none
constant_low pool (integer v) = none
constant_low pool (class_at i) = name_low pool i
constant_low pool (fieldref i j) = pair_low _ _
constant_low pool (methodref i j) = pair_low _ _
constant_low pool (name_and_type i j) = pair_low _ _

entry-fault_low : (pool : List Constant) (i : ℕ) → entry_fault pool i ≤ 9
unfolding entry_fault
entry-fault_low pool i = constant_low pool (entry pool i)

judged_low : (tags : List ℕ) (pool : List Constant) (i e : ℕ) → Small (judged_at tags pool i e)
unfolding judged_at
judged_low tags pool i e = search (lows, entry-fault_low)

checked_low : (tags : List ℕ) (pool : List Constant) (e : ℕ) → Small (checked_at tags pool e)
unfolding checked_at
checked_low tags pool e = judged_low tags pool _ e

module _ (s : List ℕ) where
  utf8_low : (q : ℕ) → Small (utf8_at s q)
  unfolding utf8_at
  utf8_low q = search parts depth 12

  fixed_low : (k q : ℕ) → Small (fixed_at s k q)
  unfolding fixed_at
  fixed_low k q = search parts

  entry_low : (q : ℕ) → Small (entry_at s q)
  unfolding entry_at
  entry_low q = search (lows, utf8_low, fixed_low) depth 12

  tags_low : (n q : ℕ) → Small (tags_at s n q)
  unfolding tags_at
  tags_low n q = pre_low (0 ∷ []) _ (many_low (entry_at s) entry_low _ q)

  pool_low : (q : ℕ) → Small (pool_at s q)
  unfolding pool_at
  pool_low q = search (parts, tags_low, checked_low) depth 12

  module _ (pool : List Constant) where
    index_low : (q : ℕ) → Small (utf8_index_at s pool q)
    unfolding utf8_index_at
    index_low q = search parts depth 12

    class-index_low : (q i e : ℕ) → Small (class_index_at s pool q i e)
    unfolding class_index_at
    class-index_low q i e = search lows depth 12

-- members
module _ (s : List ℕ) (pool : List Constant) (e p : ℕ) where
  inner_low : (q : ℕ) → Small (inner_at s pool e p q)
  unfolding inner_at
  inner_low q = search parts depth 14

  inners_low : (q : ℕ) → Small (inners_at s pool e p q)
  unfolding inners_at
  inners_low q = search (parts, sum_low, inner_low) depth 12

  code_low : (q : ℕ) → Small (code_at s pool e p q)
  unfolding code_at
  code_low q = search parts depth 14

  handler_low : (q : ℕ) → Small (handler_at s pool e p q)
  unfolding handler_at
  handler_low q = good _ _

  table_low : (q : ℕ) → Small (table_at s pool e p q)
  unfolding table_at
  table_low q = search (parts, many_low, handler_low) depth 12

  body_low : (q : ℕ) → Small (body_at s pool e p q)
  unfolding body_at
  body_low q = search (parts, code_low, table_low, inners_low) depth 20

module _ (s : List ℕ) (pool : List Constant) where
  attribute_low : (method : Bool) (q : ℕ) → Small (attribute_at s pool method q)
  unfolding attribute_at
  attribute_low method q = search (parts, index_low, body_low) depth 16

  attributes_low : (method : Bool) (q : ℕ) → Small (attributes_at s pool method q)
  unfolding attributes_at
  attributes_low method q = search (parts, sum_low, attribute_low) depth 12

  access_low : (method : Bool) (q : ℕ) → Small (access_at s pool method q)
  unfolding access_at
  access_low method q = search parts depth 12

  member-name_low : (method : Bool) (access p q : ℕ) → Small (name_at s pool method access p q)
  unfolding name_at
  member-name_low method access p q = search (parts, index_low) depth 12

  type_ok_low : (access : ℕ) (name : Text) (q a : ℕ) (t : Text) (m : MethodType) → Small (method_type_ok s pool access name q a t m)
  unfolding method_type_ok
  type_ok_low access name q a t m = search lows depth 12

  descriptor_low : (method : Bool) (access : ℕ) (name : Text) (q : ℕ) → Small (descriptor_at s pool method access name q)
  unfolding descriptor_at
  descriptor_low method access name q = search (lows, index_low, method_low, field_low, type_ok_low) depth 12

  member_low : (method : Bool) (q : ℕ) → Small (member_at s pool method q)
  unfolding member_at
  member_low method q = search (lows, access_low, member-name_low, descriptor_low, attributes_low) depth 16

-- class files
module _ (s : List ℕ) where
  magic_low : (q : ℕ) → Small (magic_at s q)
  unfolding magic_at
  magic_low q = search parts depth 12

  version_low : (q : ℕ) → Small (version_at s q)
  unfolding version_at
  version_low q = search parts depth 14

  class-access_low : (q : ℕ) → Small (class_access_at s q)
  unfolding class_access_at
  class-access_low q = search parts depth 12

  this_low : (pool : List Constant) (q : ℕ) → Small (this_at s pool q)
  unfolding this_at
  this_low pool q = search (parts, class-index_low) depth 12

  super_low : (pool : List Constant) (q : ℕ) → Small (super_at s pool q)
  unfolding super_at
  super_low pool q = search (parts, class-index_low) depth 12

  interfaces_low : (q : ℕ) → Small (interfaces_at s q)
  unfolding interfaces_at
  interfaces_low q = search parts depth 12

  members_low : (pool : List Constant) (method : Bool) (most q : ℕ) → Small (members_at s pool method most q)
  unfolding members_at
  members_low pool method most q = search (parts, many_low, member_low) depth 12

  class_file_low : (q : ℕ) → Small (class_file_at s q)
  unfolding class_file_at
  class_file_low q =
      search (lows, magic_low, version_low, pool_low, class-access_low, this_low, super_low, interfaces_low, members_low, attributes_low) depth 30

  files_low : (n q : ℕ) → Small (class_files_at s n q)
  unfolding class_files_at
  files_low zero q = search (lows, magic_low) depth 12
  files_low (suc n) q = let h : (x : ℕ) → Small (class_files_at s n x) = λ x. files_low n x in search (lows, class_file_low, pre_low, h) depth 12

  pub bundle_low : Small (bundle_at s)
  unfolding bundle_at
  bundle_low = search (lows, files_low) depth 12

-- ---- phase B: every label's number is 8 or 9
abbrev Labels : List (Claim Refusal) → Type 0
Labels [] = Unit {0}
Labels (claim k b ∷ cs) = (k.number ≤ 9) × Labels cs

abbrev pub LowVerdict : Verdict → Type 0
LowVerdict pass = Unit {0}
LowVerdict (fail r) = r.number ≤ 9

labels_append : (cs ds : List (Claim Refusal)) → Labels cs → Labels ds → Labels (cs ++ ds)
labels_append [] ds h k = k
labels_append (claim l b ∷ cs) ds h k = (h.0, labels_append cs ds h.1 k)

labels_each : {A : Type 0} (f : ℕ → A → List (Claim Refusal)) → ((i : ℕ) (a : A) → Labels (f i a)) → (i : ℕ) (l : List A) → Labels (each f i l)
unfolding each
labels_each f h i [] = tt
labels_each f h i (a ∷ l) = labels_append (f i a) (each f (suc i) l) (h i a) (labels_each f h (suc i) l)

verdict_low : (cs : List (Claim Refusal)) → Labels cs → LowVerdict (verdict cs)
unfolding verdict
verdict_low [] h = tt
verdict_low (claim k true ∷ cs) h = verdict_low cs h.1
verdict_low (claim k false ∷ cs) h = h.0

both_low : (u v : Verdict) → LowVerdict u → LowVerdict v → LowVerdict (then u v)
unfolding then
both_low pass v h k = k
both_low (fail r) v h k = h

linked_low : (fs : List ClassFile) (P : Program) → LowVerdict (linked fs P)
unfolding linked unique_class super_claims chain_claims member_claims field_claims method_claims
linked_low fs P =
    both_low _ _ (verdict_low _ (labels_each (unique_class fs) unique 0 fs))
    (both_low _ _ (verdict_low _ (labels_each (super_claims fs) super 0 fs))
    (both_low _ _ (verdict_low _ (labels_each (chain_claims P) up 0 fs)) (verdict_low _ (labels_each (member_claims P) member 0 fs))))
  where
    unique : (i : ℕ) (f : ClassFile) → Labels (unique_class fs i f)
    unique i f = (omega arith, tt)

    super : (i : ℕ) (f : ClassFile) → Labels (super_claims fs i f)
    super i f = (omega arith, tt)

    up : (i : ℕ) (f : ClassFile) → Labels (chain_claims P i f)
    up i f = (omega arith, tt)

    member : (i : ℕ) (f : ClassFile) → Labels (member_claims P i f)
    member i f =
        labels_append (each (field_claims P i) 0 f.fields) (each (method_claims P i) 0 f.methods)
        (labels_each (field_claims P i) (λ j m. (omega arith, (omega arith, tt))) 0 f.fields)
        (labels_each (method_claims P i) (λ j m. (omega arith, (omega arith, tt))) 0 f.methods)

-- ---- both
abbrev pub LowRead : Read → Type 0
LowRead (refused r) = r.number ≤ 9
LowRead (program P) = Unit {0}

or_low : (P : Program) (v : Verdict) → LowVerdict v → LowRead (or_refused P v)
unfolding or_refused
or_low P pass h = tt
or_low P (fail r) h = h

as_low : (x : Res (List ClassFile)) → Small x → LowRead (read_as x)
unfolding read_as
as_low (ok fs e) h = or_low (program_of fs) (linked fs (program_of fs)) (linked_low fs (program_of fs))
as_low (bad n p) h = h.low

pub read_low : (s : List ℕ) → LowRead (read_bundle s)
unfolding read_bundle
read_low s = as_low (bundle_at s) (bundle_low s)
