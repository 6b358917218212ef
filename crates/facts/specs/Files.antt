-- What phase A has shown of the class files: there are at most 16; `<init>` is not static and returns nothing.
use Prim.Native.Nat.{ℕ, zero, suc, ◌≤◌}
use Rattle.std.proofs.Math.Path.{◌≡◌, refl, sym}
use Rattle.std.proofs.Common.{ap, arith}
use Rattle.std.specs.Prelude.{Bool, cond, ltb}
use Rattle.std.proofs.Math.Bool.{true, false}
use mathlib.Core.List.{List, [], ◌∷◌}
use Rattle.std.proofs.Math.ListN.{length}
use Rattle.std.proofs.Math.Dec.{T, eqb, eqb→eq}
use Rattle.classfiles.specs.Limits.{max_bundle, max_classes, max_parameters}
use Rattle.texts.specs.Reading.{Res, ok, bad, and_then, pre}
use Rattle.texts.specs.Names.{Text, is_init, method_name}
use Rattle.classfiles.specs.Descriptors.{MethodType, method_type_at}
use Rattle.classfiles.specs.Pool.{Constant, text, utf8_index_at}
use Rattle.classfiles.specs.Members.{Found, Body, Member, access_at, name_at, slots, method_type_ok, descriptor_at, attributes_at, member_at}
use Rattle.classfiles.specs.Bundle.{ClassFile, magic_at, members_at, class_file_at, class_files_at, bundle_at}
use Rattle.facts.specs.Parsing.{not_ok, then_ok, test_ok, Each, enil, econs, many-each}

-- a method as it was read
pub record Read (m : Member) : Type 0 where
  pub bound : T (is_init m.name) → eqb m.access 9 ≡ false
  pub place : ℕ
  pub type : MethodType
  pub end : ℕ
  pub typed : method_type_at (λ t. 0) m.descriptor place ≡ ok type end
  pub void : T (is_init m.name) → length type.results ≡ 0

module _ (s : List ℕ) (pool : List Constant) where
  named : (access p q : ℕ) (name : Text) (e : ℕ) → name_at s pool true access p q ≡ ok name e → T (is_init name) → eqb access 9 ≡ false
  unfolding name_at
  named access p q name e h t =
      let x = then_ok (utf8_index_at s pool q) _ name e h in
      let y = test_ok (method_name (text pool x.val)) _ 7 q name e x.rest in
      go (text pool x.val) x.past (is_init (text pool x.val)) refl (eqb access 9) refl y.1
    where
      go : (u : Text) (a : ℕ) (i : Bool) → is_init u ≡ i → (b : Bool) → eqb access 9 ≡ b → ◌≡◌ {A = Res Text} (cond i (cond b (bad 6 p) (ok u a)) (ok u a)) (ok name e) → eqb access 9 ≡ false
      go u a true r true z h = not_ok 6 p e name h
      go u a true r false z h = z
      go u a false r b z h =
          let w : u ≡ name = cc in
          let v : T (is_init u) = rw w t in
          let f : T false = rw r at v in
          absurd f

  described : (access : ℕ) (name : Text) (q : ℕ) (d : Text) (e : ℕ) → descriptor_at s pool true access name q ≡ ok d e
      → (u : MethodType) × (z : ℕ) × (method_type_at (λ t. 0) d q ≡ ok u z) × (T (is_init name) → length u.results ≡ 0)
  unfolding descriptor_at method_type_ok
  described access name q d e h =
      let x = then_ok (utf8_index_at s pool q) _ d e h in
      let y = then_ok (method_type_at (λ t. 0) (text pool x.val) q) _ d e x.rest in
      go (text pool x.val) x.past y.val y.past y.first (ltb max_parameters (slots s pool access y.val.params)) (is_init name) refl (eqb (length y.val.results) 0) refl y.rest
    where
      go : (t : Text) (a : ℕ) (u : MethodType) (z : ℕ) → method_type_at (λ t. 0) t q ≡ ok u z → (many few : Bool) → is_init name ≡ few → (n : Bool) → eqb (length u.results) 0 ≡ n
          → ◌≡◌ {A = Res Text} (cond many (bad 4 q) (cond few (cond n (ok t a) (bad 7 q)) (ok t a))) (ok d e)
          → (u : MethodType) × (z : ℕ) × (method_type_at (λ t. 0) d q ≡ ok u z) × (T (is_init name) → length u.results ≡ 0)
      go t a u z y true f p n r h = not_ok 4 q e d h
      go t a u z y false true p true r h = let w : t ≡ d = cc in (u, z, rw w at y, λ _. eqb→eq (length u.results) 0 (rw r tt))
      go t a u z y false true p false r h = not_ok 7 q e d h
      go t a u z y false false p n r h = let w : t ≡ d = cc in (u, z, rw w at y, λ x. let f : T false = rw p at x in absurd f)

  member_read : (q : ℕ) (m : Member) (e : ℕ) → member_at s pool true q ≡ ok m e → Read m
  unfolding member_at
  member_read q m e h =
      let a = then_ok (access_at s pool true q) _ m e h in
      let b = then_ok (name_at s pool true a.val q a.past) _ m e a.rest in
      let c = then_ok (descriptor_at s pool true a.val b.val b.past) _ m e b.rest in
      let d = then_ok (attributes_at s pool true c.past) _ m e c.rest in
      let w = described a.val b.val b.past c.val c.past c.first in
      let n = named a.val q a.past b.val b.past b.first in
      go a.val b.val c.val d.rest n b.past w.0 w.1 w.2 w.3
    where
      go : (access : ℕ) (name d : Text) {start z : ℕ} {body : Found Body}
          → ◌≡◌ {A = Res Member} (ok (record { start = start; access = access; name = name; descriptor = d; body = body }) z) (ok m e) → (T (is_init name) → eqb access 9 ≡ false)
          → (p : ℕ) (u : MethodType) (y : ℕ) → method_type_at (λ t. 0) d p ≡ ok u y → (T (is_init name) → length u.results ≡ 0) → Read m
      go access name d {start} {body = body} h n p u y r v =
          let w : record { start = start; access = access; name = name; descriptor = d; body = body } ≡ m = cc in
          rw (← w) (record { bound = n; place = p; type = u; end = y; typed = r; void = v })

-- a class file's methods
pub record File (f : ClassFile) : Type 0 where
  pub methods : Each Read f.methods

abbrev methods_in : Res ClassFile → List Member
methods_in (ok f e) = f.methods
methods_in (bad n p) = []

module _ (s : List ℕ) where
  file_read : (q : ℕ) (f : ClassFile) (e : ℕ) → class_file_at s q ≡ ok f e → File f
  unfolding class_file_at members_at
  file_read q f e h =
      let a = then_ok (magic_at s q) _ f e h in
      let b = then_ok _ _ f e a.rest in
      let c = then_ok _ _ f e b.rest in
      let d = then_ok _ _ f e c.rest in
      let i = then_ok _ _ f e d.rest in
      let j = then_ok _ _ f e i.rest in
      let k = then_ok _ _ f e j.rest in
      let l = then_ok _ _ f e k.rest in
      let m = then_ok _ _ f e l.rest in
      let n = then_ok _ _ f e m.rest in
      let o = then_ok _ _ m.val m.past m.first in
      let x : Each Read m.val = many-each Read (member_at s c.val true) (member_read s c.val) o.val o.past m.val m.past o.rest in
      let y : f.methods ≡ m.val = sym (ap methods_in n.rest) in
      record { methods = rw y x }

  files_read : (n q : ℕ) (fs : List ClassFile) (e : ℕ) → class_files_at s n q ≡ ok fs e → Each File fs × (length fs ≤ n)
  unfolding class_files_at pre
  files_read zero q fs e h = go (eqb q (length s)) h
    where
      go : (b : Bool) → ◌≡◌ {A = Res (List ClassFile)} (cond b (ok [] q) (and_then (magic_at s q) λ _ a. bad 4 q)) (ok fs e) → Each File fs × (length fs ≤ 0)
      go true h = let y : [] ≡ fs = cc in rw (← y) (enil, omega arith)
      go false h = let x = then_ok (magic_at s q) _ fs e h in not_ok 4 q e fs x.rest
  files_read (suc n) q fs e h = go (files_read n) (eqb q (length s)) h
    where
      on : (k : ClassFile) → File k → (r : Res (List ClassFile)) → ((l : List ClassFile) (z : ℕ) → r ≡ ok l z → Each File l × (length l ≤ n)) → ◌≡◌ {A = Res (List ClassFile)} (pre (k ∷ []) r) (ok fs e) → Each File fs × (length fs ≤ suc n)
      on k x (ok l z) ih h = let y : k ∷ l ≡ fs = cc in let w = ih l z refl in rw (← y) (econs x w.0, omega (arith, w.1))
      on k x (bad a p) ih h = not_ok a p e fs h

      go : ((q : ℕ) (fs : List ClassFile) (e : ℕ) → class_files_at s n q ≡ ok fs e → Each File fs × (length fs ≤ n)) → (b : Bool)
          → ◌≡◌ {A = Res (List ClassFile)} (cond b (ok [] q) (and_then (class_file_at s q) λ k e. pre (k ∷ []) (class_files_at s n e))) (ok fs e) → Each File fs × (length fs ≤ suc n)
      go ih true h = let y : [] ≡ fs = cc in rw (← y) (enil, omega arith)
      go ih false h =
          let x = then_ok (class_file_at s q) _ fs e h in
          on x.val (file_read q x.val x.past x.first) (class_files_at s n x.past) (ih x.past) x.rest

pub bundle_read : (s : List ℕ) (fs : List ClassFile) (e : ℕ) → bundle_at s ≡ ok fs e → Each File fs × (length fs ≤ max_classes)
unfolding bundle_at
bundle_read s fs e h = go (eqb (length s) 0) (ltb max_bundle (length s)) h
  where
    go : (a b : Bool) → ◌≡◌ {A = Res (List ClassFile)} (cond a (bad 1 0) (cond b (bad 1 0) (class_files_at s max_classes 0))) (ok fs e) → Each File fs × (length fs ≤ max_classes)
    go true b h = not_ok 1 0 e fs h
    go false true h = not_ok 1 0 e fs h
    go false false h = files_read s max_classes 0 fs e h
