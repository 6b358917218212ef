-- The table of virtual calls, and what a method that is looked up is. Assumes nothing.
use Rattle.std.specs.Prelude.{◌≡◌, Bool, List, [], ◌∷◌, ◌++◌, ◌⊎◌, eqb, length, get_or}
use Rattle.std.proofs.Common.{sym, ap, subst, ◌∙◌, inl, inr, arith, ℕ, zero, suc, ◌+◌, ◌-◌, ◌*◌, ◌/◌, ◌%◌, ◌<◌, ◌≤◌, refl, true, false, cond, ltb-true, ne_eqb, ltb}
use Rattle.std.proofs.lemmas.List.{length-map}
use Rattle.std.proofs.Math.ListN.{get_or-map}
use Rattle.kit.specs.Bools.{not_so}
use Rattle.kit.specs.Lists.{eq_list, eq_list_true, eq_list-eq}
use Rattle.kit.specs.Pick.{side}
use Rattle.kit.specs.Words.{word}
use Rattle.texts.specs.Names.{init, is_init}
use Rattle.reader.specs.BuiltIns.{first_class, built_ins}
use Rattle.classfiles.specs.Descriptors.{method_type_at}
use Rattle.reader.specs.Program.{Program, Class, Method, no_class, no_method, built_in_method, built_ins_from, method_of, method_type_or, Signature, signature, class, method, class_count, program_of, up_to, below, same_signature, index_of, method_sigs, Spot, nowhere, spot, seek, lookup}
use Rattle.reader.specs.Linked.{files_in}
use Rattle.reader.specs.Lookup.{class_past, built_in_class}
use Rattle.reader.specs.MemberRows.{block_at, row_count, row_at}
use Rattle.reader.specs.MemberAt.{number_as, method-at, methods-count}
use Rattle.rules.specs.Sites.{front}
use Rattle.verifier.specs.Besides.{Besides, besides_word, besides_front}
use Rattle.shaping.specs.Phases.{program_now}
use Rattle.running.specs.Standing.{records, Row, method_by}

-- ---- the table: for a run-time class c and a found method i of class o, by their places in the bundle
abbrev pub spot_word : ℕ → ℕ → ℕ → ℕ
spot_word c o i = 48800 + 1024 * c + 64 * o + i

-- 0 for nowhere, or 1 + 64 * class + index
unfoldable pub spot_of : ℕ → Spot
spot_of w = cond (eqb w 0) nowhere (spot ((w - 1) / 64) ((w - 1) % 64))

-- it holds what is looked up, wherever c is below o
pub record Dispatch (b : List ℕ) (n : ℕ) (t : List ℕ) : Type 0 where
  pub at : (c o i : ℕ) → c < n → o < n → i < row_count (block_at (front t) o) true → below (program_now b n t) (first_class + c) (first_class + o) ≡ true
      → spot_of (word t (spot_word c o i)) ≡ lookup (program_now b n t) method_sigs (method_by b n (front t) (first_class + o) i).sig (first_class + c)

-- records of calls are put elsewhere
pub dispatch_kept : (b : List ℕ) (n : ℕ) (t u : List ℕ) → Besides records 384 t u → Dispatch b n t → Dispatch b n u
dispatch_kept b n t u z h =
    let e : front u ≡ front t = besides_front records 384 t u z (omega arith) in
    record {
      at = λ c o i lc lo li p.
          ap spot_of (besides_word records 384 t u z (spot_word c o i) (inr (omega arith)))
          ∙ h.at c o i lc lo (subst (λ (f : List ℕ). i < row_count (block_at f o) true) e li) (subst (λ (f : List ℕ). below (program_of (files_in b n f)) (first_class + c) (first_class + o) ≡ true) e p)
          ∙ ap (λ (f : List ℕ). lookup (program_of (files_in b n f)) method_sigs (method_by b n f (first_class + o) i).sig (first_class + c)) (sym e);
    }

-- ---- what is looked up
abbrev no_signature : Signature
no_signature = signature [] []

same_sig : (h g : Signature) → same_signature h g ≡ true → h ≡ g
unfolding same_signature
same_sig h g e = go (eq_list h.name g.name) refl e
  where
    go : (q : Bool) → eq_list h.name g.name ≡ q → cond q (eq_list h.descriptor g.descriptor) false ≡ true → h ≡ g
    go true p r =
        let a : h.name ≡ g.name = eq_list_true h.name g.name p in
        let b : h.descriptor ≡ g.descriptor = eq_list_true h.descriptor g.descriptor r in
        λ i. record { name = a i; descriptor = b i }
    go false p r = absurd (not_so r)

index_at : (g : Signature) (hs : List Signature) → index_of g hs < length hs → get_or hs (index_of g hs) no_signature ≡ g
unfolding index_of
index_at g [] l = absurd (omega arith)
index_at g (h ∷ hs) l = go (index_at g hs) (same_signature h g) refl l
  where
    go : (index_of g hs < length hs → get_or hs (index_of g hs) no_signature ≡ g) → (b : Bool) → same_signature h g ≡ b → cond b 0 (suc (index_of g hs)) < suc (length hs)
        → get_or (h ∷ hs) (cond b 0 (suc (index_of g hs))) no_signature ≡ g
    go ih true e l = same_sig h g e
    go ih false e l = ih (omega arith)

-- a method of that signature stands at the spot
pub record Stood (P : Program) (g : Signature) (e j : ℕ) : Type 0 where
  pub there : j < length (class P e).methods
  pub is : (method P e j).sig ≡ g

no_spot : {A : Type 0} (e j : ℕ) → nowhere ≡ spot e j → A
no_spot e j q = let z : ◌≡◌ {A = ℕ} 0 1 = cc in absurd (omega arith)

module _ (P : Program) (g : Signature) where
  stood : (c : ℕ) → index_of g (method_sigs (class P c)) < length (method_sigs (class P c)) → Stood P g c (index_of g (method_sigs (class P c)))
  stood c l = record {
    there = omega (arith, length-map (class P c).methods (λ (m : Method). m.sig));
    is = sym (get_or-map (λ (m : Method). m.sig) (class P c).methods (index_of g (method_sigs (class P c))) no_method) ∙ index_at g (method_sigs (class P c)) l;
  }

  seek_stood : (n c e j : ℕ) → seek P method_sigs g n c ≡ spot e j → Stood P g e j
  unfolding seek
  seek_stood zero c e j q = no_spot e j q
  seek_stood (suc n) c e j q = go (seek_stood n (class P c).parent e j) (ltb (index_of g (method_sigs (class P c))) (length (method_sigs (class P c)))) refl (eqb c 0) q
    where
      go : (seek P method_sigs g n (class P c).parent ≡ spot e j → Stood P g e j) → (a : Bool) → ltb (index_of g (method_sigs (class P c))) (length (method_sigs (class P c))) ≡ a → (z : Bool)
          → cond a (spot c (index_of g (method_sigs (class P c)))) (cond z nowhere (seek P method_sigs g n (class P c).parent)) ≡ spot e j → Stood P g e j
      go ih true p z q =
          let x = stood c (ltb-true (index_of g (method_sigs (class P c))) (length (method_sigs (class P c))) p) in
          let u : c ≡ e = cc in
          let v : index_of g (method_sigs (class P c)) ≡ j = cc in
          rw (← u, ← v) x
      go ih false p true q = no_spot e j q
      go ih false p false q = ih q

  pub lookup_stood : (c e j : ℕ) → lookup P method_sigs g c ≡ spot e j → Stood P g e j
  unfolding lookup
  lookup_stood c e j q = seek_stood (class_count P) c e j q

-- in the bundle, of any name but `<init>`
pub stood_row : (b : List ℕ) (n : ℕ) (f : List ℕ) → n ≤ 16 → (g : Signature) (e j : ℕ) → is_init g.name ≡ false → Stood (program_of (files_in b n f)) g e j → Row n f e j
unfolding is_init
stood_row b n f m g e j plain h = go (side e 11)
  where
    P : Program
    P = program_of (files_in b n f)

    built : (j : ℕ) (ms : List Method) → ms ≡ built_in_method e ∷ [] → j < length ms → (get_or ms j no_method).sig ≡ g → ⊥
    built zero ms q l s = not_so (sym plain ∙ eq_list-eq g.name init (ap (λ (x : Signature). x.name) (sym (sym (ap (λ (ys : List Method). (get_or ys 0 no_method).sig) q) ∙ s))))
    built (suc j) ms q l s = absurd (let z : length ms ≡ 1 = ap length q in omega arith)

    past : 11 + n ≤ e → ⊥
    past l = let z : length (class P e).methods ≡ 0 = ap (λ (C : Class). length C.methods) (class_past b n f m e l) in let y = h.there in absurd (omega arith)

    high : 11 ≤ e → (e < 11 + n) ⊎ (11 + n ≤ e) → Row n f e j
    high l (inl y) =
        let z : first_class + (e - 11) ≡ e = omega arith in
        let c : length (class P (first_class + (e - 11))).methods ≡ row_count (block_at f (e - 11)) true = methods-count b n f m (e - 11) (omega arith) in
        record { low = l; high = y; row = omega (arith, c, subst (λ (i : ℕ). j < length (class P i).methods) (sym z) h.there) }
    high l (inr y) = absurd (past y)

    go : (e < 11) ⊎ (11 ≤ e) → Row n f e j
    go (inl y) = absurd (built j (class P e).methods (built_in_class (files_in b n f) e y).0 h.there h.is)
    go (inr y) = high y (side e (11 + n))

-- a signature decides what a method takes and gives
module _ (b : List ℕ) (n : ℕ) (f : List ℕ) (m : n ≤ 16) where
  module _ (c j : ℕ) (r : Row n f c j) where
    abbrev M : Method
    M = method_by b n f c j

    place : first_class + (c - 11) ≡ c
    place = omega (arith, r.low)

    params_by : M.params ≡ (method_type_or (method_type_at (number_as b n f) M.sig.descriptor 0)).params
    unfolding method_of
    params_by = go (method_by b n f (first_class + (c - 11)) j) (method-at b n f m (c - 11) (omega (arith, r.low, r.high)) j r.row) (ap (λ (i : ℕ). method_by b n f i j) place)
      where
        go : (X : Method) → X ≡ method_of (number_as b n f) (first_class + (c - 11)) (row_at b (block_at f (c - 11)) true j) → X ≡ M → M.params ≡ (method_type_or (method_type_at (number_as b n f) M.sig.descriptor 0)).params
        go X p q = rw (← q, p) refl

    results_by : M.results ≡ (method_type_or (method_type_at (number_as b n f) M.sig.descriptor 0)).results
    unfolding method_of
    results_by = go (method_by b n f (first_class + (c - 11)) j) (method-at b n f m (c - 11) (omega (arith, r.low, r.high)) j r.row) (ap (λ (i : ℕ). method_by b n f i j) place)
      where
        go : (X : Method) → X ≡ method_of (number_as b n f) (first_class + (c - 11)) (row_at b (block_at f (c - 11)) true j) → X ≡ M → M.results ≡ (method_type_or (method_type_at (number_as b n f) M.sig.descriptor 0)).results
        go X p q = rw (← q, p) refl

  module _ (c j e i : ℕ) (r : Row n f c j) (y : Row n f e i) (s : (method_by b n f c j).sig ≡ (method_by b n f e i).sig) where
    pub same_params : (method_by b n f c j).params ≡ (method_by b n f e i).params
    same_params = params_by c j r ∙ ap (λ (g : Signature). (method_type_or (method_type_at (number_as b n f) g.descriptor 0)).params) s ∙ sym (params_by e i y)

    pub same_results : (method_by b n f c j).results ≡ (method_by b n f e i).results
    same_results = results_by c j r ∙ ap (λ (g : Signature). (method_type_or (method_type_at (number_as b n f) g.descriptor 0)).results) s ∙ sym (results_by e i y)

-- ---- what is below a class of the bundle is of the bundle
parent_low : (xs : List Class) (c : ℕ) → c < 11 → (get_or (built_ins_from 0 built_ins ++ xs) c no_class).parent < 11
unfolding built_ins_from built_ins
parent_low xs zero h = omega arith
parent_low xs (suc zero) h = omega arith
parent_low xs (suc (suc zero)) h = omega arith
parent_low xs (suc (suc (suc zero))) h = omega arith
parent_low xs (suc (suc (suc (suc zero)))) h = omega arith
parent_low xs (suc (suc (suc (suc (suc zero))))) h = omega arith
parent_low xs (suc (suc (suc (suc (suc (suc zero)))))) h = omega arith
parent_low xs (suc (suc (suc (suc (suc (suc (suc zero))))))) h = omega arith
parent_low xs (suc (suc (suc (suc (suc (suc (suc (suc zero)))))))) h = omega arith
parent_low xs (suc (suc (suc (suc (suc (suc (suc (suc (suc zero))))))))) h = omega arith
parent_low xs (suc (suc (suc (suc (suc (suc (suc (suc (suc (suc zero)))))))))) h = omega arith
parent_low xs (suc (suc (suc (suc (suc (suc (suc (suc (suc (suc (suc c))))))))))) h = absurd (omega arith)

module _ (b : List ℕ) (n : ℕ) (f : List ℕ) (m : n ≤ 16) where
  abbrev P : Program
  P = program_of (files_in b n f)

  built_parent : (c : ℕ) → c < 11 → (class P c).parent < 11
  unfolding program_of
  built_parent c h = parent_low _ c h

  low_up : (k c d : ℕ) → c < 11 → 11 ≤ d → up_to P k c d ≡ false
  unfolding up_to
  low_up zero c d h l = ne_eqb c d (λ z. omega arith)
  low_up (suc k) c d h l = rw (ne_eqb c d (λ z. omega arith)) (low_up k (class P c).parent d (built_parent c h) l)

  high_up : (k c d : ℕ) → 11 + n ≤ c → 11 ≤ d → d < 11 + n → up_to P k c d ≡ false
  unfolding up_to
  high_up zero c d h l y = ne_eqb c d (λ z. omega arith)
  high_up (suc k) c d h l y =
      rw (ne_eqb c d (λ z. omega arith))
      (ap (λ (C : Class). up_to P k C.parent d) (class_past b n f m c h) ∙ low_up k 0 d (omega arith) l)

  pub below_bundle : (c d : ℕ) → 11 ≤ d → d < 11 + n → below P c d ≡ true → (11 ≤ c) × (c < 11 + n)
  unfolding below
  below_bundle c d l y e = (low (side c 11), high (side c (11 + n)))
    where
      low : (c < 11) ⊎ (11 ≤ c) → 11 ≤ c
      low (inl h) = absurd (not_so (sym (low_up (class_count P) c d h l) ∙ e))
      low (inr h) = h

      high : (c < 11 + n) ⊎ (11 + n ≤ c) → c < 11 + n
      high (inl h) = h
      high (inr h) = absurd (not_so (sym (high_up (class_count P) c d h l y) ∙ e))
