-- Calls by their opcodes, where nothing is refused: what the answer says of a line of the walk. Assumes nothing.
use Rattle.std.specs.Prelude.{ℕ, suc, ◌+◌, ◌-◌, ◌*◌, ◌/◌, ◌%◌, ◌<◌, ◌≤◌, ◌≡◌, Option, Some, None, Result, is_err, Bool, true, false, leb, List, [], ◌∷◌, ◌++◌, reverse, length, get_or, take}
use Rattle.std.proofs.Common.{refl, sym, ap, subst, ◌∙◌, arith, add-one, length-append}
use Rattle.std.proofs.lemmas.List.{length-reverse}
use Rattle.kit.specs.Bools.{not_so}
use Rattle.kit.specs.Claims.{Claim, claim, pass, verdict, ruled, verdict_yes, verdict_none}
use Rattle.texts.specs.Faults.{number}
use Rattle.classfiles.specs.Descriptors.{cls, Desc}
use Rattle.reader.specs.Program.{Program, Method, method}
use Rattle.reader.specs.TypeCodes.{params_in, results_in, result_of, desc_of as code_desc}
use Rattle.rules.specs.Instruction.{Instr, MethodRef, invokevirtual, invokestatic}
use Rattle.rules.specs.Resolve.{Resolved, as_method, is_static_call, is_virtual_call}
use Rattle.rules.specs.Lines.{new_class_at}
use Rattle.rules.specs.Types.{Key, at, self, Ty, ini, ty_of, tys_of, fits}
use Rattle.rules.specs.States.{operand}
use Rattle.rules.specs.Rule.{key_of}
use Rattle.rules.specs.Walk.{operands_fit}
use Rattle.rules.specs.InstructionWords.{callee_of}
use Rattle.rules.specs.Ancestry.{lineage}
use Rattle.rules.specs.Slots.{operands_of, held, Outside, Moved, pushed}
use Rattle.rules.specs.SlotLaws.{outside_none, cut-held}
use Rattle.rules.specs.Forms.{form_claims, turned}
use Rattle.rules.specs.FrameRows.{frames_of}
use Rattle.rules.specs.ResolvedWords.{word_of}
use Rattle.rules.specs.Sites.{site_code}
use Rattle.rules.specs.Opcodes.{rows, row_in, row_of}
use Rattle.rules.specs.Decoding.{made, CallsBy, DecodedAt}
use Rattle.rules.specs.DecodeLaws.{virtual_yes, static_yes, decoded_call}
use Rattle.rules.specs.Known.{Facts, callee_in, call_claims, call_after, instr_claims, instr_after, hides}
use Rattle.rules.specs.KnownLaws.{CallTold, Told}
use Rattle.rules.specs.StepClaims.{falls_of, targets_of, no_jump, going_on}
use Rattle.verifier.specs.Callees.{entry_of, params_of, back_of, Typed, params_some, back_is, taken_last, take_all, length_tys}
use Rattle.verifier.specs.Preparing.{callee'}
use Rattle.verifier.specs.Lineup.{outside_front}
use Rattle.verifier.specs.Quick.{down, Did, OnWent, OffWent, Undone, said, form_pass, Open, Tried, steady, line-says, line_on}
use Rattle.verifier.specs.QuickNames.{did, one_result, no_result_lem}
use Rattle.texts.specs.declared.faults.Refusal.{Refusal}
use Rattle.rules.specs.declared.site.Site.{Site}
use Rattle.rules.specs.declared.slots.Held.{Held}
use Rattle.rules.specs.declared.frames.Rows.{Rows}
use Rattle.rules.specs.declared.types.Kin.{Kin}
use Rattle.rules.specs.declared.instruction.Callee.{Callee}
use Rattle.rules.specs.declared.instruction.Call.{Call}
use Rattle.rules.specs.declared.instruction.Call.TheVariants.{Virtual, Static}
use Rattle.rules.specs.declared.instruction.Instr.TheVariants.{Calling}
use Rattle.verifier.specs.declared.quick.Went.{Went}
use Rattle.verifier.specs.declared.quick.Went.TheVariants.{On, Off}

-- ---- the arguments: those above the k-th fit, and the first n parameters are left; what stands below the arguments may follow
pub record Fitted (L : Program) (s : List Ty) (ds : List Desc) (k n : ℕ) : Type 0 where
  pub rest : (vs : List Ty) → verdict (operands_fit L k (reverse (tys_of (take n ds)) ++ vs) s) ≡ pass → verdict (operands_fit L 0 (reverse (tys_of ds) ++ vs) s) ≡ pass

module _ (L : Program) (s : List Ty) (ds : List Desc) where
  fitted_first : (n : ℕ) → n ≡ length ds → Fitted L s ds 0 n
  fitted_first n e = record { rest = λ vs p. sym (ap (λ (l : List Desc). verdict (operands_fit L 0 (reverse (tys_of l) ++ vs) s)) (ap (λ (m : ℕ). take m ds) e ∙ take_all ds)) ∙ p }

  pub fitted_none : (n : ℕ) → n ≡ length ds → Fitted L s ds 0 (n - 0)
  fitted_none n e = let q : n - 0 ≡ n = omega arith in rw q (fitted_first n e)

  pub fitted_more : (k n : ℕ) (y : Ty) (d : Desc) → Fitted L s ds k n → 0 < n → n ≤ length ds → y ≡ ty_of (get_or ds (n - 1) d) → fits L (operand k s) y ≡ true → Fitted L s ds (k + 1) (n - 1)
  unfolding operands_fit
  fitted_more k n y d f z l e g = record {
    rest = λ vs p.
        let m : suc (n - 1) ≡ n = omega arith in
        let q : reverse (tys_of (take n ds)) ≡ ty_of (get_or ds (n - 1) d) ∷ reverse (tys_of (take (n - 1) ds)) =
        ap (λ (j : ℕ). reverse (tys_of (take j ds))) (sym m) ∙ taken_last ds (n - 1) d (omega arith) in
        f.rest vs
        (ap (λ (ts : List Ty). verdict (operands_fit L k (ts ++ vs) s)) q
        ∙ verdict_yes 16 (fits L (operand k s) (ty_of (get_or ds (n - 1) d))) _ (ap (fits L (operand k s)) (sym e) ∙ g)
        ∙ ap (λ (j : ℕ). verdict (operands_fit L j (reverse (tys_of (take (n - 1) ds)) ++ vs) s)) (sym (add-one k)) ∙ p);
  }

  -- the same by the index of the operand, of n
  pub fitted_turn : (n i : ℕ) (y : Ty) (d : Desc) → Fitted L s ds i (n - i) → i < n → n - i ≤ length ds → y ≡ ty_of (get_or ds (n - i - 1) d) → fits L (operand i s) y ≡ true → Fitted L s ds (i + 1) (n - (i + 1))
  fitted_turn n i y d f z l e g =
      let m : n - i - 1 ≡ n - (i + 1) = omega arith in
      rw m at (fitted_more i (n - i) y d f (omega arith) l e g)

  pub fitted_all : (k n m : ℕ) → Fitted L s ds k n → n ≤ 0 → k ≡ m → Fitted L s ds m 0
  fitted_all k n m f z e = let y : n ≡ 0 = omega arith in rw (← e, ← y) f

-- ---- k operands go, and us come
pub record GivesBack (t u : List ℕ) (most : ℕ) (h : Held) (k : ℕ) (us : List Ty) (v : Option Went) : Type 0 where
  pub room : Did v (length us + (h.depth - k) ≤ most)
  pub after : OnWent v (λ d. held u (down h d) ≡ turned k us (held t h))
  pub depth : OnWent v (λ d. d ≤ 1 + h.depth)
  pub on : OffWent v ⊥
  pub kept : Undone v (u ≡ t)
  pub outside : Outside h.at t u

pub back_none : (t : List ℕ) (most : ℕ) (h : Held) (k : ℕ) (us : List Ty) → GivesBack t t most h k us None
back_none t most h k us = record { room = tt; after = tt; depth = tt; on = tt; kept = refl; outside = outside_none h.at t }

module _ (t : List ℕ) (most : ℕ) (h : Held) (k b : ℕ) (r : Result (Unit {0}) Refusal) where
  pub back_cut : b ≡ 256 → ruled number r ≡ verdict (claim 15 (leb (0 + (h.depth - k)) most) ∷ []) → false ≡ is_err r → GivesBack t t most h k (tys_of (result_of b)) (Some (On (h.depth - k)))
  back_cut e m z = rw (no_result_lem b e) (record {
    room = said r 15 (0 + (h.depth - k)) most m z;
    after = cut-held t h (down h (h.depth - k)) k (record { at = refl; locals = refl; flag = refl; depth = refl });
    depth = omega arith;
    on = tt;
    kept = tt;
    outside = outside_none h.at t;
  })

  pub back_put : (u : List ℕ) (g : Held) (y : Ty) → (b ≡ 256 → ⊥) → y ≡ ty_of (code_desc b) → ruled number r ≡ verdict (claim 15 (leb (1 + (h.depth - k)) most) ∷ []) → false ≡ is_err r
      → Moved h g (h.depth - k + 1) → held u g ≡ pushed k y (held t h) → Outside h.at t u → GivesBack t u most h k (tys_of (result_of b)) (Some (On g.depth))
  back_put u g y n e m z i j out = rw (one_result b n) (record {
    room = said r 15 (1 + (h.depth - k)) most m z;
    after = ap (held u) place ∙ j ∙ rw e;
    depth = let a = i.depth in omega arith;
    on = tt;
    kept = tt;
    outside = out;
  })
    where
      place : down h g.depth ≡ g
      place = rw (← i.at, ← i.locals, ← i.flag)

-- ---- the method that the word w names, of n classes of the bundle: its parameters, the last first, and what it gives back
abbrev pub callee_by : ℕ → Callee
callee_by w = record { named = w / 8 % 32; owner = w / 256 % 32; index = w / 8192 % 64 }

abbrev pub arguments_by : List ℕ → ℕ → ℕ → List Ty
arguments_by t n w = reverse (tys_of (params_of t (entry_of t n (w / 256 % 32) (w / 8192 % 64))))

abbrev pub given_by : List ℕ → ℕ → ℕ → List Ty
given_by t n w = tys_of (back_of t (entry_of t n (w / 256 % 32) (w / 8192 % 64)))

-- it is called with its arguments on the stack, the receiver below them where there is one
pub record Calls (fit : Program → MethodRef → Bool) (make : MethodRef → Instr) (c : Call) (receiver : List Ty) (t u : List ℕ) (kin : Kin) (most n : ℕ) (h : Held) (w : ℕ) (v : Option Went) : Type 0 where
  pub names : Did v (CallsBy fit make w (Calling c))
  pub count : Did v (length (arguments_by t n w ++ receiver) ≤ h.depth)
  pub fitting : Did v (verdict (operands_fit (lineage t kin.at kin.count) 0 (arguments_by t n w ++ receiver) (operands_of t h)) ≡ pass)
  pub back : GivesBack t u most h (length (arguments_by t n w ++ receiver)) (given_by t n w) v

abbrev pub CallsStatic : List ℕ → List ℕ → Kin → ℕ → ℕ → Held → ℕ → Option Went → Type 0
CallsStatic t u kin most n h w v = Calls is_static_call invokestatic (Static (callee_by w)) [] t u kin most n h w v

abbrev pub CallsVirtual : List ℕ → List ℕ → Kin → ℕ → ℕ → Held → ℕ → Option Went → Type 0
CallsVirtual t u kin most n h w v = Calls is_virtual_call invokevirtual (Virtual (callee_by w)) (ini (cls (w / 8 % 32)) ∷ []) t u kin most n h w v

pub calls_none : (fit : Program → MethodRef → Bool) (make : MethodRef → Instr) (c : Call) (receiver : List Ty) (t : List ℕ) (kin : Kin) (most n : ℕ) (h : Held) (w : ℕ)
    → Calls fit make c receiver t t kin most n h w None
calls_none fit make c receiver t kin most n h w =
    record { names = tt; count = tt; fitting = tt; back = back_none t most h (length (arguments_by t n w ++ receiver)) (given_by t n w) }

-- ---- the flags of the word
half : (w : ℕ) → w / 524288 / 2 ≡ w / 1048576
half w =
    let a : w / 524288 / 2 ≤ w / 1048576 = omega arith in
    let b : w / 1048576 ≤ w / 524288 / 2 = omega arith in
    omega arith

module _ (w : ℕ) where
  static-bit : w / 524288 % 4 ≡ 1 → w / 524288 % 2 ≡ 1
  static-bit e = omega arith

  static-plain : w / 524288 % 4 ≡ 1 → w / 1048576 % 2 ≡ 1 → ⊥
  static-plain e z = omega (arith, half w)

  virtual_bit : w / 524288 % 4 ≡ 0 → w / 524288 % 2 ≡ 1 → ⊥
  virtual_bit e z = omega arith

  virtual_plain : w / 524288 % 4 ≡ 0 → w / 1048576 % 2 ≡ 1 → ⊥
  virtual_plain e z = omega (arith, half w)

-- ---- where something was done: k is the callee's entry, m its count of parameters, b the code of what comes back
module _ (t u : List ℕ) (kin : Kin) (most n : ℕ) (h : Held) (w : ℕ) (v : Option Went) (k m b : ℕ) (e : k ≡ entry_of t n (w / 256 % 32) (w / 8192 % 64)) (l : k < 1024) (count : m ≡ length (params_in t k))
    (back : result_of b ≡ results_in t k) (f : Fitted (lineage t kin.at kin.count) (operands_of t h) (params_in t k) m 0) (kind : w % 8 ≡ 4) where
  abbrev L : Program
  L = lineage t kin.at kin.count

  arguments_are : reverse (tys_of (params_in t k)) ≡ arguments_by t n w
  arguments_are = ap (λ (ds : List Desc). reverse (tys_of ds)) (sym (params_some t k l) ∙ ap (params_of t) e)

  given_are : tys_of (result_of b) ≡ given_by t n w
  given_are = ap tys_of (back_is t k l b back ∙ ap (back_of t) e)

  done : (fit : Program → MethodRef → Bool) (make : MethodRef → Instr) (c : Call) (receiver : List Ty) → CallsBy fit make w (Calling c) → m + length receiver ≤ h.depth
      → verdict (operands_fit L m receiver (operands_of t h)) ≡ pass → GivesBack t u most h (m + length receiver) (tys_of (result_of b)) v → Calls fit make c receiver t u kin most n h w v
  done fit make c receiver names d p g = record {
    names = did v _ names;
    count = did v _ (omega (arith, long));
    fitting = did v _ (ap (λ (ts : List Ty). verdict (operands_fit L 0 (ts ++ receiver) (operands_of t h))) (sym arguments_are) ∙ f.rest receiver p);
    back = subst (λ (us : List Ty). GivesBack t u most h (length (arguments_by t n w ++ receiver)) us v) given_are (subst (λ (j : ℕ). GivesBack t u most h j (tys_of (result_of b)) v) (sym long) g);
  }
    where
      long : length (arguments_by t n w ++ receiver) ≡ m + length receiver
      long =
          ap (λ (ts : List Ty). length (ts ++ receiver)) (sym arguments_are)
          ∙ (let x = length-append (reverse (tys_of (params_in t k))) receiver in omega (arith, length-reverse (tys_of (params_in t k)), length_tys (params_in t k)))

  pub calls-static : w / 524288 % 4 ≡ 1 → m ≤ h.depth → GivesBack t u most h m (tys_of (result_of b)) v → CallsStatic t u kin most n h w v
  unfolding operands_fit
  calls-static s d g =
      let z : m ≡ m + 0 = omega arith in
      done is_static_call invokestatic (Static (callee_by w)) [] (static_yes w (Calling (Static (callee_by w))) kind (static-plain w s) (static-bit w s) refl) (omega arith) verdict_none
      (subst (λ (j : ℕ). GivesBack t u most h j (tys_of (result_of b)) v) z g)

  pub calls_virtual : w / 524288 % 4 ≡ 0 → m < h.depth → (y : Ty) → y ≡ ini (cls (w / 8 % 32)) → fits L (operand m (operands_of t h)) y ≡ true
      → GivesBack t u most h (m + 1) (tys_of (result_of b)) v → CallsVirtual t u kin most n h w v
  unfolding operands_fit
  calls_virtual s d y q r g =
      done is_virtual_call invokevirtual (Virtual (callee_by w)) (ini (cls (w / 8 % 32)) ∷ [])
      (virtual_yes w (Calling (Virtual (callee_by w))) kind (virtual_plain w s) (virtual_bit w s) refl) (omega arith)
      (verdict_yes 16 (fits L (operand m (operands_of t h)) (ini (cls (w / 8 % 32)))) [] (ap (fits L (operand m (operands_of t h))) (sym q) ∙ r) ∙ verdict_none) g

-- ---- what is known of the call
abbrev new_by : Program → Method → Key → ℕ
new_by P M (at x) = new_class_at P M x
new_by P M self = 0

module _ (t : List ℕ) (n : ℕ) (w : ℕ) where
  abbrev call_facts : List Desc → ℕ → ℕ → Facts
  call_facts ds own new = record { results = ds; params = arguments_by t n w; gives = given_by t n w; own = own; made = new }

  abbrev facts_in : Program → Method → List Ty → Facts
  facts_in P M s = call_facts M.results M.owner (new_by P M (key_of (operand (length (arguments_by t n w)) s)))

  call-told : (P : Program) (M : Method) (s : List Ty) (c : Call) → Typed t P n → callee_in c ≡ callee_by w → Told P M (facts_in P M s) s (Calling c)
  call-told P M s c y e = record { results = refl; own = refl; call = λ d q. told d (sym e ∙ ap callee' q) }
    where
      told : (d : Call) → callee_by w ≡ callee_in d → CallTold P M (facts_in P M s) s (callee_of (callee_in d))
      told d z = record {
        params = ap (λ (ds : List Desc). reverse (tys_of ds)) (sym (y.params (w / 256 % 32) (w / 8192 % 64)) ∙ ap (λ (m : Callee). (method P m.owner m.index).params) z);
        gives = ap tys_of (sym (y.results (w / 256 % 32) (w / 8192 % 64)) ∙ ap (λ (m : Callee). (method P m.owner m.index).results) z);
        made = λ x k. ap (new_by P M) k;
      }

-- ---- by its opcode
module _ (s t u : List ℕ) (x : Site) (kin : Kin) (f : Rows) (h : Held) (o : ℕ) (v : Option Went) (bytes : List ℕ) (apt : Open s t x kin f h o) (same : bytes ≡ site_code s x) (op : ℕ) (a : op ≡ get_or bytes o 0)
    (w : ℕ) (e : w ≡ word_of t x.class (get_or bytes (o + 1) 0 * 256 + get_or bytes (o + 2) 0)) where
  abbrev Q : Program
  Q = lineage t kin.at kin.count

  module _ (k : ℕ) (b : op ≡ k) (fit : Program → MethodRef → Bool) (make : MethodRef → Instr) (c : Call) (receiver : List Ty)
      (m : (P : Program) (pool : ℕ → Resolved) (i j : ℕ) → made P pool k i j o ≡ as_method (fit P) make (pool (i * 256 + j))) (callee : callee_in c ≡ callee_by w) (hide : hides (Calling c) ≡ false)
      (named : steady k ≡ false)
      (claims : (F : Facts) → instr_claims Q x.stack F o (Calling c) (held t h) ≡ form_claims Q x.stack (F.params ++ receiver) F.gives (held t h))
      (after : (F : Facts) → instr_after F o (Calling c) (held t h) ≡ turned (length (F.params ++ receiver)) F.gives (held t h))
    where
      abbrev K : List Desc → ℕ → ℕ → Facts
      K ds own new = call_facts t x.classes w ds own new

      told : (P : Program) (M : Method) → Typed t P x.classes → Told P M (facts_in t x.classes w P M (operands_of t h)) (operands_of t h) (Calling c)
      told P M y = call-told t x.classes w P M (operands_of t h) c y callee

      module _ (d : ℕ) (q : Calls fit make c receiver t u kin x.stack x.classes h w (Some (On d))) where
        decoded_at : DecodedAt s t x.class (site_code s x) o (Calling c)
        decoded_at = subst (λ (l : List ℕ). DecodedAt s t x.class l o (Calling c)) same (decoded_call s t x.class bytes o k (Calling c) (sym a ∙ b) fit make w e m q.names)

        asks : (ds : List Desc) (own new : ℕ) → pass ≡ verdict (instr_claims Q x.stack (K ds own new) o (Calling c) (held t h))
        asks ds own new =
            form_pass Q x.stack (arguments_by t x.classes w ++ receiver) (given_by t x.classes w) t h q.count q.fitting q.back.room ∙ sym (ap (λ (cs : List (Claim ℕ)). verdict cs) (claims (K ds own new)))

        leaves : (ds : List Desc) (own new : ℕ) → held u (down h d) ≡ instr_after (K ds own new) o (Calling c) (held t h)
        leaves ds own new = q.back.after ∙ sym (after (K ds own new))

        called : Tried s t u x f true h o (Some (On d))
        unfolding targets_of falls_of
        called = record {
          on = record {
            says = λ P M dt yt one.
                line-says s t u x kin f h o (Calling c) apt decoded_at hide P M dt one (facts_in t x.classes w P M (operands_of t h)) (told P M yt) (asks _ _ _) (no_jump Q (frames_of t f) _);
            leaves = λ P M dt yt one.
                line_on s t u x kin f h o (Calling c) apt decoded_at hide P M dt one (facts_in t x.classes w P M (operands_of t h)) (told P M yt) d refl (leaves _ _ _);
            going =
                going_on Q x.stack (K [] 0 0) o (Calling c) (held t h) (asks [] 0 0) apt.walking.bounded.stack h (down h d) u
                (record { at = refl; locals = refl; depth = let l = q.back.depth in omega arith }) (leaves [] 0 0);
            front = outside_front t u h.at apt.walking.at q.back.outside;
          };
          off = tt;
          kept = tt;
          same = λ r. absurd (not_so (sym named ∙ ap steady (sym b ∙ a ∙ ap (λ (l : List ℕ). get_or l o 0) same) ∙ r));
        }

      tried_call : (g : Option Went) → Calls fit make c receiver t u kin x.stack x.classes h w g → Tried s t u x f true h o g
      tried_call None q = record { on = tt; off = tt; kept = q.back.kept; same = tt }
      tried_call (Some (On d)) q = called d q
      tried_call (Some Off) q = absurd q.back.on

  pub tried_static : op ≡ 184 → CallsStatic t u kin x.stack x.classes h w v → Tried s t u x f true h o v
  unfolding instr_claims instr_after call_claims call_after hides made row_of row_in rows steady
  tried_static z q = tried_call 184 z is_static_call invokestatic (Static (callee_by w)) [] (λ P pool i j. refl) refl refl refl (λ F. refl) (λ F. refl) v q

  pub tried_virtual : op ≡ 182 → CallsVirtual t u kin x.stack x.classes h w v → Tried s t u x f true h o v
  unfolding instr_claims instr_after call_claims call_after hides made row_of row_in rows steady
  tried_virtual z q = tried_call 182 z is_virtual_call invokevirtual (Virtual (callee_by w)) (ini (cls (w / 8 % 32)) ∷ []) (λ P pool i j. refl) refl refl refl (λ F. refl) (λ F. refl) v q
