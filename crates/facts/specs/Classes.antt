-- The order of the classes: reflexive and transitive; and that of types.
use Prim.Native.Nat.{ℕ, zero, suc, ◌+◌, ◌<◌, ◌≤◌}
use Rattle.std.specs.Prelude.{◌≡◌, false, [], ◌⊎◌, length, eqb}
use Rattle.std.proofs.Math.Path.{sym}
use Rattle.std.proofs.Common.{inl, inr}
use Rattle.std.proofs.Math.Dec.{T, eqb→eq, eqb_refl}
use Rattle.kit.specs.Bools.{true-T}
use Rattle.texts.specs.Names.{Text, init}
use Rattle.classfiles.specs.Limits.{max_classes}
use Rattle.classfiles.specs.Descriptors.{Ref, cls, arr, Desc, dint, dref, method_type_at}
use Rattle.reader.specs.BuiltIns.{throwable, first_class}
use Rattle.reader.specs.Program.{Program, method_type_or, class, method, class_count, is_constructor, up_to, below, method_sigs, lookup, layout}
use Rattle.reader.specs.Link.{agrees}
use Rattle.rules.specs.Types.{ref_fits, desc_fits}
use Rattle.rules.specs.Ancestry.{below_self, ref_self}
use Rattle.facts.specs.Base.{either_of, left-of, right_of}

-- what reading and linking have shown
pub record Link (P : Program) : Type 0 where
  pub root : (class P 0).parent ≡ 0
  pub one : 1 ≤ class_count P
  pub few : class_count P ≤ first_class + max_classes
  pub ends : (c : ℕ) → T (below P c 0)
  pub bare : length (class P 0).fields ≡ 0
  pub plain : (c : ℕ) → c < first_class → layout P c ≡ []
  pub thrown : (c : ℕ) → throwable ≤ c → c < first_class → T (below P c throwable)
  pub number : Text → ℕ
  -- a built-in class has only `<init>`
  pub built : (c j : ℕ) → c < first_class → j < length (class P c).methods → (method P c j).sig.name ≡ init
  pub owned : (c j : ℕ) → first_class ≤ c → j < length (class P c).methods → (method P c j).owner ≡ c
  pub params : (c j : ℕ) → first_class ≤ c → j < length (class P c).methods → (method P c j).params ≡ (method_type_or (method_type_at number (method P c j).sig.descriptor 0)).params
  pub results : (c j : ℕ) → first_class ≤ c → j < length (class P c).methods → (method P c j).results ≡ (method_type_or (method_type_at number (method P c j).sig.descriptor 0)).results
  pub over : (c j : ℕ) → first_class ≤ c → j < length (class P c).methods → T (agrees P (method P c j).static (lookup P method_sigs (method P c j).sig (class P c).parent))
  pub bound : (c j : ℕ) → T (is_constructor (method P c j)) → (method P c j).static ≡ false
  pub void : (c j : ℕ) → first_class ≤ c → j < length (class P c).methods → T (is_constructor (method P c j)) → (method P c j).results ≡ []

abbrev pub parent : Program → ℕ → ℕ
parent P c = (class P c).parent

module _ (P : Program) where
  pub up_refl : (f a : ℕ) → T (up_to P f a a)
  unfolding up_to
  up_refl zero a = eqb_refl a
  up_refl (suc f) a = left-of (eqb a a) _ (eqb_refl a)

  pub below_refl : (a : ℕ) → T (below P a a)
  below_refl a = true-T (below P a a) (below_self P a)

  up_trans : (f a b : ℕ) → T (up_to P f a b) → (g c : ℕ) → T (up_to P g b c) → (k : ℕ) × T (up_to P k a c)
  unfolding up_to
  up_trans zero a b p g c q = (g, rw (eqb→eq a b p) q)
  up_trans (suc f) a b p g c q = go (λ r. up_trans f (parent P a) b r g c q) (either_of (eqb a b) _ p)
    where
      go : (T (up_to P f (parent P a) b) → (k : ℕ) × T (up_to P k (parent P a) c)) → T (eqb a b) ⊎ T (up_to P f (parent P a) b) → (k : ℕ) × T (up_to P k a c)
      go ih (inl e) = (g, rw (eqb→eq a b e) q)
      go ih (inr r) = (suc (ih r).0, right_of (eqb a c) _ (ih r).1)

  module _ (root : parent P 0 ≡ 0) where
    -- above 0 is 0 alone
    pub up_root : (f c : ℕ) → T (up_to P f 0 c) → c ≡ 0
    unfolding up_to
    up_root zero c p = sym (eqb→eq 0 c p)
    up_root (suc f) c p = go (up_root f c) (either_of (eqb 0 c) _ p)
      where
        go : (T (up_to P f 0 c) → c ≡ 0) → T (eqb 0 c) ⊎ T (up_to P f (parent P 0) c) → c ≡ 0
        go ih (inl e) = sym (eqb→eq 0 c e)
        go ih (inr r) = ih (rw root at r)

    -- a chain that comes to 0 in f steps has all in f steps
    up_cut : (f a : ℕ) → T (up_to P f a 0) → (g c : ℕ) → T (up_to P g a c) → T (up_to P f a c)
    unfolding up_to
    up_cut zero a p g c q =
        let e : a ≡ 0 = eqb→eq a 0 p in
        let z : c ≡ 0 = up_root g c (rw e at q) in
        rw (e, z) (eqb_refl 0)
    up_cut (suc f) a p g c q = go g q (up_cut f (parent P a)) (either_of (eqb a 0) _ p)
      where
        go : (g : ℕ) → T (up_to P g a c) → (T (up_to P f (parent P a) 0) → (g c : ℕ) → T (up_to P g (parent P a) c) → T (up_to P f (parent P a) c)) → T (eqb a 0) ⊎ T (up_to P f (parent P a) 0) → T (up_to P (suc f) a c)
        go g q ih (inl e) = left-of (eqb a c) _ (let e' : a ≡ 0 = eqb→eq a 0 e in let z : c ≡ 0 = up_root g c (rw e' at q) in rw (e', z) (eqb_refl 0))
        go zero q ih (inr r) = left-of (eqb a c) _ q
        go (suc g) q ih (inr r) = go' (either_of (eqb a c) _ q)
          where
            go' : T (eqb a c) ⊎ T (up_to P g (parent P a) c) → T (up_to P (suc f) a c)
            go' (inl e) = left-of (eqb a c) _ e
            go' (inr s) = right_of (eqb a c) _ (ih r g c s)

  module _ (L : Link P) where
    -- however many steps it takes
    pub up_below : (f a b : ℕ) → T (up_to P f a b) → T (below P a b)
    unfolding below
    up_below f a b p = up_cut L.root (class_count P) a (L.ends a) f b p

    pub below_trans : (a b c : ℕ) → T (below P a b) → T (below P b c) → T (below P a c)
    unfolding below
    below_trans a b c p q =
        let u : (k : ℕ) × T (up_to P k a c) = up_trans (class_count P) a b p (class_count P) c q in
        up_below u.0 a c u.1

    pub zero_above : (b c : ℕ) → b ≡ 0 → T (below P b c) → c ≡ 0
    unfolding below
    zero_above b c e q = up_root L.root (class_count P) c (rw e at q)

    pub below_parent : (a : ℕ) → T (below P a (parent P a))
    unfolding up_to
    below_parent a = up_below 1 a (parent P a) (right_of (eqb a (parent P a)) _ (eqb_refl (parent P a)))

    mutual
      unfolding ref_fits desc_fits

      pub ref_trans : (t u v : Ref) → T (ref_fits P t u) → T (ref_fits P u v) → T (ref_fits P t v)
      ref_trans (cls a) (cls b) (cls c) p q = below_trans a b c p q
      ref_trans (cls a) (cls b) (arr E) p q = absurd q
      ref_trans (cls a) (arr E) v p q = absurd p
      ref_trans (arr D) (cls b) (cls c) p q = rw (zero_above b c (eqb→eq b 0 p) q) (eqb_refl 0)
      ref_trans (arr D) (cls b) (arr E) p q = absurd q
      ref_trans (arr D) (arr E) (cls c) p q = q
      ref_trans (arr D) (arr E) (arr F) p q = desc_trans D E F p q

      pub desc_trans : (t u v : Desc) → T (desc_fits P t u) → T (desc_fits P u v) → T (desc_fits P t v)
      desc_trans dint dint F p q = q
      desc_trans dint (dref u) F p q = absurd p
      desc_trans (dref t) dint F p q = absurd p
      desc_trans (dref t) (dref u) dint p q = absurd q
      desc_trans (dref t) (dref u) (dref v) p q = ref_trans t u v p q

  pub ref_refl : (t : Ref) → T (ref_fits P t t)
  ref_refl t = true-T (ref_fits P t t) (ref_self P t)
