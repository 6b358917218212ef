-- A method's start in words: receiver, parameters, top in every local past them. Assumes nothing.
use Rattle.std.specs.Prelude.{◌≡◌, refl, true, false, cond, List, [], ◌∷◌, ◌++◌, ◌⊎◌, length, take}
use Rattle.std.proofs.Common.{ap, ◌∙◌, inl, inr, ℕ, zero, suc, ◌+◌, ◌-◌, ◌*◌, ◌^◌, ◌/◌, ◌<◌, ◌≤◌, sym, arith, get_or}
use Rattle.kit.specs.Pick.{side}
use Rattle.kit.specs.Words.{word, put_word, word_same, word_other}
use Rattle.reader.specs.BuiltIns.{first_class}
use Rattle.classfiles.specs.BlockWords.{take_put}
use Rattle.classfiles.specs.Descriptors.{cls, Desc, dint}
use Rattle.reader.specs.TypeCodes.{params_in, desc_of as code_desc}
use Rattle.classfiles.specs.Members.{Body}
use Rattle.reader.specs.Program.{Program, Method, is_constructor}
use Rattle.rules.specs.Opcodes.{body}
use Rattle.rules.specs.Types.{self, Ty, top, ini, uninit, ty_of, tys_of}
use Rattle.rules.specs.States.{padded, parameter_tys, start_state}
use Rattle.rules.specs.TypeWords.{type_of}
use Rattle.rules.specs.Slots.{slot, locals_at, stack_at, held}
use Rattle.rules.specs.SlotLaws.{slot_is, take_less}
use Rattle.rules.specs.Sites.{site_body, Sited}
use Rattle.shaping.specs.SiteLaws.{one_body}
use Rattle.verifier.specs.Callees.{params_same}
use Rattle.rules.specs.declared.site.Site.{Site}
use Rattle.rules.specs.declared.slots.Held.{Held}

abbrev pub receiver_of : Site → Ty
receiver_of x = cond x.constructor (uninit self) (ini (cls (first_class + x.class)))

abbrev pub entry_at : Site → ℕ
entry_at x = 64 * x.class + x.method

-- the types of the locals that are given, the receiver first
unfoldable pub start_tys : List ℕ → Site → List Ty
start_tys t x = cond x.fixed [] (receiver_of x ∷ []) ++ tys_of (params_in t (entry_at x))

pub start-tys : (s t : List ℕ) (P : Program) (M : Method) (x : Site) → Sited s t P M x → is_constructor M ≡ x.constructor → start_tys t x ≡ parameter_tys M
unfolding start_tys
start-tys s t P M x d i = sym (rw (d.static, i, d.owner, d.params))

-- ---- one local
pub receiver-init : (x : Site) (v : Ty) → x.constructor ≡ true → v ≡ uninit self → v ≡ receiver_of x
receiver-init x v e h = h ∙ sym (rw e)

pub receiver_own : (x : Site) (v : Ty) → x.constructor ≡ false → v ≡ ini (cls (11 + x.class)) → v ≡ receiver_of x
receiver_own x v e h = h ∙ sym (rw e)

get_or_tys : (ds : List Desc) (i : ℕ) → i < length ds → ty_of (get_or ds i dint) ≡ get_or (tys_of ds) i top
get_or_tys [] i h = absurd (omega arith)
get_or_tys (d ∷ ds) zero h = refl
get_or_tys (d ∷ ds) (suc i) h = get_or_tys ds i (omega arith)

get_d_past : (ds : List Desc) (i : ℕ) → length ds ≤ i → top ≡ get_or (tys_of ds) i top
get_d_past [] i h = refl
get_d_past (d ∷ ds) zero h = absurd (omega arith)
get_d_past (d ∷ ds) (suc i) h = get_d_past ds i (omega arith)

module _ (t : List ℕ) (k i n : ℕ) (e : n ≡ length (params_in t k)) where
  pub param_there : (v c : ℕ) → i < n → type_of v ≡ ty_of (code_desc c) → code_desc c ≡ get_or (params_in t k) i dint → type_of v ≡ get_or (tys_of (params_in t k)) i top
  param_there v c h p q = p ∙ ap ty_of q ∙ get_or_tys (params_in t k) i (omega arith)

  pub param_past : (v : ℕ) → n ≤ i → type_of v ≡ top → type_of v ≡ get_or (tys_of (params_in t k)) i top
  param_past v h p = p ∙ get_d_past (params_in t k) i (omega arith)

module _ (t : List ℕ) (x : Site) (j : ℕ) (v : Ty) where
  pub local_static : x.fixed ≡ true → v ≡ get_or (tys_of (params_in t (entry_at x))) j top → v ≡ get_or (start_tys t x) j top
  unfolding start_tys
  local_static e h = h ∙ sym (rw e)

  module _ (e : x.fixed ≡ false) where
    pub local_receiver : j ≡ 0 → v ≡ receiver_of x → v ≡ get_or (start_tys t x) j top
    unfolding start_tys
    local_receiver z h = h ∙ sym (rw (e, z))

    pub local_param : (j ≡ 0 → ⊥) → v ≡ get_or (tys_of (params_in t (entry_at x))) (j - 1) top → v ≡ get_or (start_tys t x) j top
    unfolding start_tys
    local_param z h = let y : j ≡ suc (j - 1) = omega arith in h ∙ sym (rw e (ap (λ (i : ℕ). get_or (receiver_of x ∷ tys_of (params_in t (entry_at x))) i top) y))

-- ---- all of them
pub record Filled (t u : List ℕ) (x : Site) (n : ℕ) : Type 0 where
  pub types : (j : ℕ) → j < n → slot u (65184 + j) ≡ get_or (start_tys t x) j top
  pub front : take 260736 u ≡ take 260736 t

pub filled_none : (t : List ℕ) (x : Site) → Filled t t x 0
filled_none t x = record { types = λ j l. absurd (omega arith); front = refl }

module _ (t u : List ℕ) (x : Site) (n : ℕ) (b : Filled t u x n) (c : x.class < 16) (m : x.method < 64) where
  tys_same : start_tys u x ≡ start_tys t x
  unfolding start_tys
  tys_same = rw (params_same t u (entry_at x) (omega arith) (take_less 187040 260736 t u (omega arith) b.front))

  pub filled_more : (w : ℕ) (v : List ℕ) → type_of w ≡ get_or (start_tys u x) n top → v ≡ put_word u (65184 + n) w → w < 2 ^ 32 → 65184 + n < length u / 4 → Filled t v x (n + 1)
  filled_more w v h e f l = record { types = λ j k. types j k (side j n); front = ap (take 260736) e ∙ take_put 65184 u (65184 + n) w (omega arith) ∙ b.front }
    where
      at_word : (j : ℕ) → word v j ≡ word (put_word u (65184 + n) w) j
      at_word j = ap (λ (z : List ℕ). word z j) e

      types : (j : ℕ) → j < n + 1 → (j < n) ⊎ (n ≤ j) → slot v (65184 + j) ≡ get_or (start_tys t x) j top
      types j k (inl y) =
          sym (slot_is v (65184 + j)) ∙ ap type_of (at_word (65184 + j) ∙ word_other u (65184 + n) w (65184 + j) (λ z. omega arith)) ∙ slot_is u (65184 + j) ∙ b.types j y
      types j k (inr y) =
          let z : j ≡ n = omega arith in
          sym (slot_is v (65184 + j)) ∙ ap type_of (ap (λ (i : ℕ). word v (65184 + i)) z ∙ at_word (65184 + n) ∙ word_same u (65184 + n) w l f)
          ∙ h ∙ ap (λ (l : List Ty). get_or l n top) tys_same ∙ ap (λ (i : ℕ). get_or (start_tys t x) i top) (sym z)

-- locals by what each is
padded_by : (u : List ℕ) (n a : ℕ) (l : List Ty) → ((j : ℕ) → j < n → slot u (a + j) ≡ get_or l j top) → length l ≤ n → locals_at u a n ≡ padded n l
unfolding locals_at padded
padded_by u zero a [] h m = refl
padded_by u zero a (y ∷ l) h m = absurd (omega arith)
padded_by u (suc n) a [] h m =
    let z : a + 0 ≡ a = omega arith in
    let p : slot u a ≡ top = ap (slot u) (sym z) ∙ h 0 (omega arith) in
    let q : locals_at u (suc a) n ≡ padded n [] = padded_by u n (suc a) [] (λ j k. let y : suc a + j ≡ a + suc j = omega arith in ap (slot u) y ∙ h (suc j) (omega arith)) (omega arith) in
    let w : suc n - 0 ≡ suc (n - 0) = omega arith in
    rw w (cc)
padded_by u (suc n) a (y ∷ l) h m =
    let z : a + 0 ≡ a = omega arith in
    let p : slot u a ≡ y = ap (slot u) (sym z) ∙ h 0 (omega arith) in
    let q : locals_at u (suc a) n ≡ padded n l = padded_by u n (suc a) l (λ j k. let x : suc a + j ≡ a + suc j = omega arith in ap (slot u) x ∙ h (suc j) (omega arith)) (omega arith) in
    let w : suc n - suc (length l) ≡ n - length l = omega arith in
    rw w (cc)

-- what stands after is the start, where the given locals have room
pub record Started (t u : List ℕ) (x : Site) (r : Held) : Type 0 where
  pub is : (s : List ℕ) (P : Program) (M : Method) → Sited s t P M x → is_constructor M ≡ x.constructor → x.codes ≡ 1 → length (parameter_tys M) ≤ x.locals → held u r ≡ start_state M
  pub at : r.at ≡ 65184
  pub locals : r.locals ≡ x.locals
  pub depth : r.depth ≡ 0
  pub front : take 260736 u ≡ take 260736 t

pub started : (t u : List ℕ) (x : Site) (r : Held) → Filled t u x x.locals → r ≡ record { at = 65184; locals = x.locals; depth = 0; flag = x.constructor } → Started t u x r
unfolding start_state stack_at site_body
started t u x r b e = rw e (record {
  is = λ s P M d i one h.
      let l : start_tys t x ≡ parameter_tys M = start-tys s t P M x d i in
      let n : (body M).max_locals ≡ x.locals = ap (λ (y : Body). y.max_locals) (one_body s t P M x d one) in
      let a : locals_at u 65184 x.locals ≡ padded x.locals (parameter_tys M) =
      padded_by u x.locals 65184 (parameter_tys M) (λ j k. b.types j k ∙ ap (λ (y : List Ty). get_or y j top) l) h in
      let c : x.constructor ≡ is_constructor M = sym i in
      rw (a, c, n);
  at = refl;
  locals = refl;
  depth = refl;
  front = b.front;
})
