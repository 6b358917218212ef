-- A class file (JVMS 4.1) and a bundle: 1 to 16 of them end to end. Phase A.
use Rattle.std.specs.Prelude.{ℕ, zero, suc, List, [], ◌∷◌, Bool, true, false, cond, length, ltb, eqb}
use Rattle.classfiles.specs.Limits.{max_bundle, max_classes, max_fields, max_methods}
use Rattle.texts.specs.Reading.{Res, ok, bad, and_then, pre, many, short_at, u2, u4}
use Rattle.texts.specs.Names.{Text}
use Rattle.classfiles.specs.Pool.{Constant, class_text, class_index_at, pool_at}
use Rattle.classfiles.specs.Members.{Member, attributes_at, member_at}

-- the super's name, none where super_class is 0
pub data Super : Type 0 where
  zero' : Super
  named : Text → Super

pub record ClassFile : Type 0 where
  pub start : ℕ
  pub pool : List Constant
  pub name : Text
  pub super : Super
  pub fields : List Member
  pub methods : List Member

module _ (s : List ℕ) where
  -- u4 magic
  unfoldable pub magic_at : ℕ → Res ℕ
  magic_at q = and_then (u4 s q) λ v a. cond (eqb v 0xcafebabe) (ok v a) (bad 3 q)

  -- u2 minor_version; u2 major_version
  unfoldable pub version_at : ℕ → Res ℕ
  version_at q =
      and_then (u2 s q) λ minor a.
      cond (eqb minor 0) (and_then (u2 s a) λ major b. cond (eqb major 51) (ok major b) (cond (eqb major 52) (ok major b) (bad 3 a))) (bad 3 q)

  unfoldable pub class_access_at : ℕ → Res ℕ
  class_access_at q = and_then (u2 s q) λ v a. cond (eqb v 0x0020) (ok v a) (cond (eqb v 0x0021) (ok v a) (bad 6 q))

  unfoldable pub this_at : List Constant → ℕ → Res Text
  this_at pool q = and_then (u2 s q) λ i a. and_then (class_index_at s pool q i a) λ j e. ok (class_text pool j) e

  -- 0 is left to linking
  unfoldable pub super_at : List Constant → ℕ → Res Super
  super_at pool q =
      and_then (u2 s q) λ i a. cond (eqb i 0) (ok zero' a) (and_then (class_index_at s pool q i a) λ j e. ok (named (class_text pool j)) e)

  unfoldable pub interfaces_at : ℕ → Res ℕ
  interfaces_at q = and_then (u2 s q) λ n a. cond (eqb n 0) (ok n a) (bad 6 q)

  -- u2 count; members[count]
  unfoldable pub members_at : List Constant → Bool → ℕ → ℕ → Res (List Member)
  members_at pool method most q = and_then (short_at s (length s) 2 q most q) λ n a. many (member_at s pool method) n a

  unfoldable pub class_file_at : ℕ → Res ClassFile
  class_file_at q =
      and_then (magic_at q) λ _ a.
      and_then (version_at a) λ _ b.
      and_then (pool_at s b) λ pool c.
      and_then (class_access_at c) λ _ d.
      and_then (this_at pool d) λ name e.
      and_then (super_at pool e) λ super f.
      and_then (interfaces_at f) λ _ g.
      and_then (members_at pool false max_fields g) λ fields h.
      and_then (members_at pool true max_methods h) λ methods i.
      and_then (attributes_at s pool false i) λ _ j.
      ok (record { start = q; pool = pool; name = name; super = super; fields = fields; methods = methods }) j

  -- class files end to end; after the last that is allowed a right magic is 4
  unfoldable pub class_files_at : ℕ → ℕ → Res (List ClassFile)
  class_files_at zero q = cond (eqb q (length s)) (ok [] q) (and_then (magic_at q) λ _ a. bad 4 q)
  class_files_at (suc n) q =
      cond (eqb q (length s)) (ok [] q) (and_then (class_file_at q) λ k e. pre (k ∷ []) (class_files_at n e))

-- phase A: the first fault in byte order, or the class files
unfoldable pub bundle_at : List ℕ → Res (List ClassFile)
bundle_at s = cond (eqb (length s) 0) (bad 1 0) (cond (ltb max_bundle (length s)) (bad 1 0) (class_files_at s max_classes 0))
