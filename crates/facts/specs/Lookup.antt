-- The first of a name and descriptor from a class upward: where it stands; and what a class below finds in its place.
use Prim.Native.Nat.{ℕ, zero, suc, ◌<◌, ◌≤◌}
use Rattle.std.specs.Prelude.{◌≡◌, Bool, List, [], ◌∷◌, ◌⊎◌, length, get_or, ltb}
use Rattle.std.proofs.Math.Path.{refl, sym, ap}
use Rattle.std.proofs.Common.{subst, ◌∙◌, arith}
use Rattle.std.proofs.Math.Bool.{true, false, cond}
use Rattle.std.proofs.Math.Logic.{inl, inr}
use Rattle.std.proofs.Math.Decide.{dec_lt}
use Rattle.std.proofs.lemmas.List.{length-map}
use Rattle.std.proofs.Math.ListN.{get_or-map}
use Rattle.std.proofs.Math.Dec.{T, eqb, eqb→eq, eqb_refl, ltb→lt}
use Rattle.kit.specs.Bools.{T_true}
use Rattle.kit.specs.Lists.{eq_list, eq_list_true, eq_list-eq}
use Rattle.texts.specs.Names.{Text, init, is_init}
use Rattle.classfiles.specs.Descriptors.{method_type_at}
use Rattle.reader.specs.BuiltIns.{first_class}
use Rattle.reader.specs.Program.{Program, Class, Method, no_method, method_type_or, Signature, signature, class, method, class_count, up_to, below, same_signature, index_of, method_sigs, nowhere, spot, seek, lookup}
use Rattle.reader.specs.Link.{agrees}
use Rattle.facts.specs.Base.{first_of, second_of, either_of, left-of, right_of, same_truth}
use Rattle.facts.specs.Classes.{Link, parent, up_below, up_root}

abbrev pub no_signature : Signature
no_signature = signature [] []

same_sig : (h g : Signature) → T (same_signature h g) → h ≡ g
unfolding same_signature
same_sig h g t =
    let p : h.name ≡ g.name = eq_list_true h.name g.name (T_true _ (first_of (eq_list h.name g.name) _ t)) in
    let q : h.descriptor ≡ g.descriptor = eq_list_true h.descriptor g.descriptor (T_true _ (second_of (eq_list h.name g.name) _ t)) in
    λ i. record { name = p i; descriptor = q i }

pub index_at : (g : Signature) (hs : List Signature) → index_of g hs < length hs → get_or hs (index_of g hs) no_signature ≡ g
unfolding index_of
index_at g [] l = absurd (omega arith)
index_at g (h ∷ hs) l = go (index_at g hs) (same_signature h g) refl l
  where
    go : (index_of g hs < length hs → get_or hs (index_of g hs) no_signature ≡ g) → (b : Bool) → same_signature h g ≡ b → cond b 0 (suc (index_of g hs)) < suc (length hs)
        → get_or (h ∷ hs) (cond b 0 (suc (index_of g hs))) no_signature ≡ g
    go ih true e l = same_sig h g (rw e tt)
    go ih false e l = ih (omega arith)

-- what stands at a spot
pub record At (P : Program) (sigs : Class → List Signature) (g : Signature) (n c d j : ℕ) : Type 0 where
  pub above : T (up_to P n c d)
  pub there : j < length (sigs (class P d))
  pub is : get_or (sigs (class P d)) j no_signature ≡ g

no_spot : {A : Type 0} (d j : ℕ) → nowhere ≡ spot d j → A
no_spot d j e = let z : ◌≡◌ {A = ℕ} 0 1 = cc in absurd (omega arith)

module _ (P : Program) (sigs : Class → List Signature) (g : Signature) where
  abbrev has : ℕ → Bool
  has c = ltb (index_of g (sigs (class P c))) (length (sigs (class P c)))

  own_at : (c : ℕ) → T (ltb (index_of g (sigs (class P c))) (length (sigs (class P c)))) → At P sigs g 0 c c (index_of g (sigs (class P c)))
  unfolding up_to
  own_at c t =
      let l = ltb→lt (index_of g (sigs (class P c))) (length (sigs (class P c))) t in
      record { above = eqb_refl c; there = l; is = index_at g (sigs (class P c)) l }

  pub seek_at : (n c d j : ℕ) → seek P sigs g n c ≡ spot d j → At P sigs g n c d j
  unfolding seek up_to
  seek_at zero c d j e = no_spot d j e
  seek_at (suc n) c d j e = go (seek_at n (parent P c) d j) (has c) refl (eqb c 0) e
    where
      go : (seek P sigs g n (parent P c) ≡ spot d j → At P sigs g n (parent P c) d j) → (b : Bool) → has c ≡ b → (z : Bool)
          → cond b (spot c (index_of g (sigs (class P c)))) (cond z nowhere (seek P sigs g n (parent P c))) ≡ spot d j → At P sigs g (suc n) c d j
      go ih true p z e =
          let x = own_at c (rw p tt) in
          let u : c ≡ d = cc in
          let v : index_of g (sigs (class P c)) ≡ j = cc in
          rw (← u, ← v) (record { above = left-of (eqb c c) _ (eqb_refl c); there = x.there; is = x.is })
      go ih false p true e = no_spot d j e
      go ih false p false e = let x = ih e in record { above = right_of (eqb c d) _ x.above; there = x.there; is = x.is }

  -- the class that has it finds it in itself
  pub seek_own : (n c d j : ℕ) → seek P sigs g n c ≡ spot d j → (k : ℕ) → 1 ≤ k → seek P sigs g k d ≡ spot d j
  unfolding seek
  seek_own zero c d j e k l = no_spot d j e
  seek_own (suc n) c d j e k l = go (λ x. seek_own n (parent P c) d j x k l) (has c) refl (eqb c 0) e
    where
      here : has c ≡ true → (k : ℕ) → 1 ≤ k → seek P sigs g k c ≡ spot c (index_of g (sigs (class P c)))
      here p zero l = absurd (omega arith)
      here p (suc k) l = rw p refl

      go : (seek P sigs g n (parent P c) ≡ spot d j → seek P sigs g k d ≡ spot d j) → (b : Bool) → has c ≡ b → (z : Bool)
          → cond b (spot c (index_of g (sigs (class P c)))) (cond z nowhere (seek P sigs g n (parent P c))) ≡ spot d j → seek P sigs g k d ≡ spot d j
      go ih true p z e = let u : c ≡ d = cc in subst (λ (x : ℕ). seek P sigs g k x ≡ spot d j) u (here p k l ∙ e)
      go ih false p true e = no_spot d j e
      go ih false p false e = ih e

  -- a step more changes nothing, but at Object
  seek-steady : (n c d j : ℕ) → T (up_to P n c 0) → (d ≡ 0 → ⊥) → seek P sigs g (suc n) c ≡ spot d j → seek P sigs g n c ≡ spot d j
  unfolding seek up_to
  seek-steady zero c d j u ne e = go (has c) (eqb c 0) u e
    where
      go : (b z : Bool) → T z → cond b (spot c (index_of g (sigs (class P c)))) (cond z nowhere nowhere) ≡ spot d j → nowhere ≡ spot d j
      go true z t e = absurd (ne (let y : c ≡ d = cc in sym y ∙ eqb→eq c 0 u))
      go false true t e = e
      go false false t e = absurd t
  seek-steady (suc n) c d j u ne e = go (seek-steady n (parent P c) d j) (has c) (eqb c 0) u e
    where
      go : (T (up_to P n (parent P c) 0) → (d ≡ 0 → ⊥) → seek P sigs g (suc n) (parent P c) ≡ spot d j → seek P sigs g n (parent P c) ≡ spot d j) → (b z : Bool) → T (cond z true (up_to P n (parent P c) 0))
          → cond b (spot c (index_of g (sigs (class P c)))) (cond z nowhere (seek P sigs g (suc n) (parent P c))) ≡ spot d j
          → cond b (spot c (index_of g (sigs (class P c)))) (cond z nowhere (seek P sigs g n (parent P c))) ≡ spot d j
      go ih true z t e = e
      go ih false true t e = e
      go ih false false t e = ih t ne e

  -- from a class: the same as from its parent, or its own
  descend : (n c d j : ℕ) → 1 ≤ n → parent P 0 ≡ 0 → T (up_to P n c 0) → (d ≡ 0 → ⊥) → seek P sigs g n (parent P c) ≡ spot d j
      → (seek P sigs g n c ≡ spot d j) ⊎ ((seek P sigs g n c ≡ spot c (index_of g (sigs (class P c)))) × T (ltb (index_of g (sigs (class P c))) (length (sigs (class P c)))))
  unfolding seek up_to
  descend zero c d j h r u ne e = absurd (omega arith)
  descend (suc n) c d j h r u ne e = go (has c) refl (eqb c 0) refl u e
    where
      go : (b : Bool) → has c ≡ b → (z : Bool) → eqb c 0 ≡ z → T (cond z true (up_to P n (parent P c) 0)) → seek P sigs g (suc n) (parent P c) ≡ spot d j
          → (cond b (spot c (index_of g (sigs (class P c)))) (cond z nowhere (seek P sigs g n (parent P c))) ≡ spot d j)
          ⊎ ((cond b (spot c (index_of g (sigs (class P c)))) (cond z nowhere (seek P sigs g n (parent P c))) ≡ spot c (index_of g (sigs (class P c)))) × T b)
      go true p z q u e = inr (refl, tt)
      go false p false q u e = inl (seek-steady n (parent P c) d j u ne e)
      go false p true q u e =
          let z : c ≡ 0 = eqb→eq c 0 (rw q tt) in
          let y : parent P c ≡ 0 = rw z r in
          let x : At P sigs g (suc n) 0 d j = seek_at (suc n) 0 d j (rw y at e) in
          absurd (ne (up_root P r (suc n) d x.above))

pub init_is : (t : Text) → t ≡ init → T (is_init t)
unfolding is_init
init_is t e = rw (eq_list-eq t init e) tt

module _ (P : Program) (L : Link P) (g : Signature) where
  -- what stands at a method's spot
  pub method_there : {n c d j : ℕ} → At P method_sigs g n c d j → j < length (class P d).methods
  method_there {d = d} {j} x = let h : j < length (method_sigs (class P d)) = x.there in omega (arith, length-map (class P d).methods (λ (m : Method). m.sig))

  pub method-sig : {n c d j : ℕ} → At P method_sigs g n c d j → (method P d j).sig ≡ g
  method-sig {d = d} {j} x = sym (get_or-map (λ (m : Method). m.sig) (class P d).methods j no_method) ∙ x.is

  module _ (plain : T (is_init g.name) → ⊥) where
    pub in-bundle : {n c d j : ℕ} → At P method_sigs g n c d j → first_class ≤ d
    in-bundle {d = d} {j} x = go (dec_lt d first_class)
      where
        go : Dec (d < first_class) → first_class ≤ d
        go (yes l) = absurd (plain (init_is g.name (ap (λ (h : Signature). h.name) (sym (method-sig x)) ∙ L.built d j l (method_there x))))
        go (no l) = omega arith

    not_root : {n c d j : ℕ} → At P method_sigs g n c d j → d ≡ 0 → ⊥
    not_root x e = let h = in-bundle x in omega arith

    -- a class below finds one too, static exactly if that is
    lookup_up : (k e c d j : ℕ) → T (up_to P k e c) → lookup P method_sigs g c ≡ spot d j → (d' j' : ℕ) × (lookup P method_sigs g e ≡ spot d' j') × ((method P d' j').static ≡ (method P d j).static)
    unfolding up_to lookup below
    lookup_up zero e c d j u p = (d, j, rw (eqb→eq e c u) p, refl)
    lookup_up (suc k) e c d j u p = go (λ r. lookup_up k (parent P e) c d j r p) (either_of (eqb e c) _ u)
      where
        go : (T (up_to P k (parent P e) c) → (d' j' : ℕ) × (seek P method_sigs g (class_count P) (parent P e) ≡ spot d' j') × ((method P d' j').static ≡ (method P d j).static)) → T (eqb e c) ⊎ T (up_to P k (parent P e) c)
            → (d' j' : ℕ) × (seek P method_sigs g (class_count P) e ≡ spot d' j') × ((method P d' j').static ≡ (method P d j).static)
        go ih (inl z) = (d, j, rw (eqb→eq e c z) p, refl)
        go ih (inr r) =
            let x = ih r in
            let a : At P method_sigs g (class_count P) (parent P e) x.0 x.1 = seek_at P method_sigs g (class_count P) (parent P e) x.0 x.1 x.2 in
            on x.0 x.1 x.2 x.3 (descend P method_sigs g (class_count P) e x.0 x.1 L.one L.root (L.ends e) (not_root a) x.2)
          where
            on : (d'' j'' : ℕ) → seek P method_sigs g (class_count P) (parent P e) ≡ spot d'' j'' → (method P d'' j'').static ≡ (method P d j).static
                → (seek P method_sigs g (class_count P) e ≡ spot d'' j'') ⊎ ((seek P method_sigs g (class_count P) e ≡ spot e (index_of g (method_sigs (class P e)))) × T (ltb (index_of g (method_sigs (class P e))) (length (method_sigs (class P e)))))
                → (d' j' : ℕ) × (seek P method_sigs g (class_count P) e ≡ spot d' j') × ((method P d' j').static ≡ (method P d j).static)
            on d'' j'' q s (inl z) = (d'', j'', z, s)
            on d'' j'' q s (inr z) =
                let i = index_of g (method_sigs (class P e)) in
                let a : At P method_sigs g 0 e e i = own_at P method_sigs g e z.1 in
                let m : (method P e i).sig ≡ g = method-sig a in
                let o : T (agrees P (method P e i).static (seek P method_sigs (method P e i).sig (class_count P) (parent P e))) = L.over e i (in-bundle a) (method_there a) in
                let o' : T (agrees P (method P e i).static (seek P method_sigs g (class_count P) (parent P e))) = rw m at o in
                let o'' : T (agrees P (method P e i).static (spot d'' j'')) = rw q at o' in
                (e, i, z.0, same_truth (method P e i).static (method P d'' j'').static o'' ∙ s)

    -- what a receiver of a class below has for a method that was found from c
    pub record Chosen (d j e : ℕ) : Type 0 where
      pub class' : ℕ
      pub index : ℕ
      pub is : lookup P method_sigs g e ≡ spot class' index
      pub bundle : first_class ≤ class'
      pub there : index < length (class P class').methods
      pub above : T (below P e class')
      pub sig : (method P class' index).sig ≡ g
      pub params : (method P class' index).params ≡ (method P d j).params
      pub results : (method P class' index).results ≡ (method P d j).results
      pub static : (method P class' index).static ≡ (method P d j).static

    pub lookup_below : (e c d j : ℕ) → T (below P e c) → lookup P method_sigs g c ≡ spot d j → Chosen d j e
    unfolding below lookup
    lookup_below e c d j u p =
        let x = lookup_up (class_count P) e c d j u p in
        let a : At P method_sigs g (class_count P) e x.0 x.1 = seek_at P method_sigs g (class_count P) e x.0 x.1 x.2 in
        let b : At P method_sigs g (class_count P) c d j = seek_at P method_sigs g (class_count P) c d j p in
        let y : (method P x.0 x.1).sig ≡ (method P d j).sig = method-sig a ∙ sym (method-sig b) in
        record {
          class' = x.0;
          index = x.1;
          is = x.2;
          bundle = in-bundle a;
          there = method_there a;
          above = up_below P L (class_count P) e x.0 a.above;
          sig = method-sig a;
          params = L.params x.0 x.1 (in-bundle a) (method_there a)
              ∙ ap (λ (h : Signature). (method_type_or (method_type_at L.number h.descriptor 0)).params) y ∙ sym (L.params d j (in-bundle b) (method_there b));
          results = L.results x.0 x.1 (in-bundle a) (method_there a)
              ∙ ap (λ (h : Signature). (method_type_or (method_type_at L.number h.descriptor 0)).results) y ∙ sym (L.results d j (in-bundle b) (method_there b));
          static = x.3;
        }

    pub lookup-bundle : (c d j : ℕ) → lookup P method_sigs g c ≡ spot d j → first_class ≤ d
    unfolding lookup
    lookup-bundle c d j p = in-bundle (seek_at P method_sigs g (class_count P) c d j p)
