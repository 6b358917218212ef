-- Instructions by their opcodes that name something, look at arrays or null, or return, and nop and pop: what the answer says of a line of the walk.
-- Assumes nothing.
use Rattle.std.specs.Prelude.{ℕ, suc, ◌+◌, ◌-◌, ◌*◌, ◌/◌, ◌%◌, ◌≤◌, ◌≡◌, Option, Some, None, Result, is_err, Bool, true, false, not, leb, List, [], ◌∷◌, length, get_or, drop}
use Rattle.std.proofs.Common.{refl, sym, ap, subst, ◌∙◌, arith, le-leb, eq-eqb, ne_eqb}
use Rattle.kit.specs.Bools.{true-T, not_so}
use Rattle.kit.specs.Claims.{claim, pass, verdict, ruled, verdict_yes, verdict_none}
use Rattle.texts.specs.Faults.{number}
use Rattle.classfiles.specs.Descriptors.{cls, arr, Desc, dint, dref}
use Rattle.texts.specs.Reading.{u4_at}
use Rattle.reader.specs.Program.{Program}
use Rattle.reader.specs.TypeCodes.{base_of, nested, results_in, result_of, desc_of as code_desc}
use Rattle.rules.specs.Instruction.{Instr, iconst, getfield, putfield}
use Rattle.rules.specs.Resolve.{Resolved, as_number, as_field, as_type, new_of}
use Rattle.rules.specs.Types.{Ty, top, int, ini, uninit, at, is_int, is_array, ty_of, int_array, object_ty, fits}
use Rattle.rules.specs.States.{operand, no_copy}
use Rattle.rules.specs.Frames.{Frame}
use Rattle.rules.specs.Rule.{key_of, returns_int, returns_ref, returns_void, returned}
use Rattle.rules.specs.Walk.{operands_fit}
use Rattle.rules.specs.TypeWords.{nest, type_of}
use Rattle.rules.specs.InstructionWords.{desc_of, field_of, leave_of, instr_of}
use Rattle.rules.specs.Ancestry.{lineage}
use Rattle.rules.specs.Slots.{operands_of, held, Outside, Moved, pushed, locals_swapped}
use Rattle.rules.specs.SlotLaws.{length-stack, drop-stack, outside_none, outside_two, cut-held}
use Rattle.rules.specs.Forms.{plain_takes, plain_gives, branch_takes, turned, base_int}
use Rattle.rules.specs.Groups.{stack_claims, stack_after, leave_claims, new_claims}
use Rattle.rules.specs.GroupLaws.{copy_via, new-held}
use Rattle.rules.specs.FrameRows.{frames_of}
use Rattle.rules.specs.ResolvedWords.{field_in, resolved_of, resolved_in, word_of}
use Rattle.rules.specs.Sites.{site_code}
use Rattle.rules.specs.Decoding.{made, DecodedAt}
use Rattle.rules.specs.DecodeLaws.{number_yes, field_yes, type_yes, new-class}
use Rattle.rules.specs.Known.{Facts, instr_claims, instr_after, hides}
use Rattle.rules.specs.StepClaims.{falls_of, targets_of, no_jump, going_same}
use Rattle.verifier.specs.Quick.{down, Did, OnWent, Easy, easy_none, easy_on, pushes_int, said, passes, form_pass, none_fits, OneInt, Pushed, Goes, jumped, Open, Tried, steady, tried_easy, own_facts, own_told, line-says, line_away, calls}
use Rattle.texts.specs.declared.faults.Refusal.{Refusal}
use Rattle.rules.specs.declared.site.Site.{Site}
use Rattle.rules.specs.declared.slots.Held.{Held}
use Rattle.rules.specs.declared.frames.Rows.{Rows}
use Rattle.rules.specs.declared.types.Kin.{Kin}
use Rattle.rules.specs.declared.types.Ty as words
use Rattle.rules.specs.declared.instruction.Field.{Field}
use Rattle.rules.specs.declared.instruction.Plain.{Plain}
use Rattle.rules.specs.declared.instruction.Plain.TheVariants.{Nop, Pop, Iaload, Iastore, Iconst, Getfield, Putfield}
use Rattle.rules.specs.declared.instruction.Branch.TheVariants.{Ifnull}
use Rattle.rules.specs.declared.instruction.Stack.TheVariants.{Arraylength}
use Rattle.rules.specs.declared.instruction.Leave.{Leave}
use Rattle.rules.specs.declared.instruction.Leave.TheVariants.{Ireturn, Areturn, Return}
use Rattle.rules.specs.declared.instruction.Instr as code
use Rattle.rules.specs.declared.instruction.Instr.TheVariants.{Simple, Jump, OnStack, Leaving, New, Unresolved}
use Rattle.verifier.specs.declared.quick.Went.{Went}
use Rattle.verifier.specs.declared.quick.Went.TheVariants.{On, Off}

-- ---- operands by what tests told
module _ (L : Program) (s : List Ty) (a : Ty) where
  pub fit_one : fits L (operand 0 s) a ≡ true → verdict (operands_fit L 0 (a ∷ []) s) ≡ pass
  unfolding operands_fit
  fit_one p = verdict_yes 16 _ [] p ∙ verdict_none

  pub fit_two : (b : Ty) → fits L (operand 0 s) a ≡ true → fits L (operand 1 s) b ≡ true → verdict (operands_fit L 0 (a ∷ b ∷ []) s) ≡ pass
  unfolding operands_fit
  fit_two b p q = verdict_yes 16 _ _ p ∙ verdict_yes 16 _ [] q ∙ verdict_none

  pub fit_three : (b c : Ty) → fits L (operand 0 s) a ≡ true → fits L (operand 1 s) b ≡ true → fits L (operand 2 s) c ≡ true → verdict (operands_fit L 0 (a ∷ b ∷ c ∷ []) s) ≡ pass
  unfolding operands_fit
  fit_three b c p q r = verdict_yes 16 _ _ p ∙ verdict_yes 16 _ _ q ∙ verdict_yes 16 _ [] r ∙ verdict_none

pub fits_via : (L : Program) (q : Bool) (a b c : Ty) → q ≡ fits L a c → a ≡ b → q ≡ fits L b c
fits_via L q a b c e z = e ∙ ap (λ (y : Ty). fits L y c) z

-- by what it was tested with
pub fits_as : (L : Program) (x a b : Ty) → a ≡ b → fits L x a ≡ true → fits L x b ≡ true
fits_as L x a b z f = ap (fits L x) (sym z) ∙ f

pub fits-any : (L : Program) (a : Ty) → fits L a top ≡ true
unfolding fits
fits-any L a = refl

-- ---- a form whose operands fit: they go, and nothing or one type comes
module _ (L : Program) (fs : List Frame) (t u : List ℕ) (most : ℕ) (h : Held) (o d : ℕ) (i : Plain) (ts us : List Ty) where
  easy_form : plain_takes i ≡ ts → plain_gives i ≡ us → length ts ≤ h.depth → verdict (operands_fit L 0 ts (operands_of t h)) ≡ pass
      → length us + (h.depth - length ts) ≤ most → held u (down h d) ≡ turned (length ts) us (held t h) → d ≤ 3 + h.depth → Outside h.at t u → Easy L fs t u most h o (Simple i) (Some (On d))
  unfolding instr_claims instr_after targets_of falls_of
  easy_form a b n f m e l out =
      easy_on L fs t u most h o (Simple i) refl refl d (λ F. rw (a, b) (form_pass L most ts us t h n f m)) (λ F. e ∙ rw (a, b)) l out

module _ (L : Program) (fs : List Frame) (t : List ℕ) (most : ℕ) (h : Held) (o : ℕ) (i : Plain) (ts : List Ty) where
  pub easy_cut : (d : ℕ) → plain_takes i ≡ ts → plain_gives i ≡ [] → length ts ≤ h.depth → verdict (operands_fit L 0 ts (operands_of t h)) ≡ pass
      → (r : Result (Unit {0}) Refusal) → ruled number r ≡ verdict (claim 15 (leb (0 + (h.depth - length ts)) most) ∷ []) → false ≡ is_err r → d ≡ h.depth - length ts → Easy L fs t t most h o (Simple i) (Some (On d))
  easy_cut d a b n f r m z e =
      easy_form L fs t t most h o d i ts [] a b n f (said r 15 (0 + (h.depth - length ts)) most m z)
      (cut-held t h (down h d) (length ts) (record { at = refl; locals = refl; flag = refl; depth = e })) (omega arith) (outside_none h.at t)

  pub easy_put : (u : List ℕ) (g : Held) (y z : Ty) → plain_takes i ≡ ts → plain_gives i ≡ z ∷ [] → y ≡ z → length ts ≤ h.depth → verdict (operands_fit L 0 ts (operands_of t h)) ≡ pass
      → (r : Result (Unit {0}) Refusal) → ruled number r ≡ verdict (claim 15 (leb (1 + (h.depth - length ts)) most) ∷ []) → false ≡ is_err r → Moved h g (h.depth - length ts + 1)
      → held u g ≡ pushed (length ts) y (held t h) → Outside h.at t u → Easy L fs t u most h o (Simple i) (Some (On g.depth))
  easy_put u g y z a b c n f r m q k e out =
      easy_form L fs t u most h o g.depth i ts (z ∷ []) a b n f (said r 15 (1 + (h.depth - length ts)) most m q)
      (ap (held u) place ∙ e ∙ ap (λ (x : Ty). pushed (length ts) x (held t h)) c) (let p = k.depth in omega arith) out
    where
      place : down h g.depth ≡ g
      place = rw (← k.at, ← k.locals, ← k.flag)

-- ---- nop and pop
abbrev pub Idles : List ℕ → ℕ → Held → Option Went → Type 0
Idles t most h v = (L : Program) (fs : List Frame) (o : ℕ) → Easy L fs t t most h o (Simple Nop) v

abbrev pub Pops : List ℕ → ℕ → Held → Option Went → Type 0
Pops t most h v = (L : Program) (fs : List Frame) (o : ℕ) → Easy L fs t t most h o (Simple Pop) v

module _ (t : List ℕ) (most : ℕ) (h : Held) (r : Result (Unit {0}) Refusal) where
  pub idles : ruled number r ≡ verdict (claim 15 (leb (0 + (h.depth - 0)) most) ∷ []) → false ≡ is_err r → Idles t most h (Some (On h.depth))
  unfolding plain_takes plain_gives
  idles m z L fs o = easy_cut L fs t most h o Nop [] h.depth refl refl (omega arith) (none_fits L t h) r m z (omega arith)

  pub pops : 1 ≤ h.depth → ruled number r ≡ verdict (claim 15 (leb (0 + (h.depth - 1)) most) ∷ []) → false ≡ is_err r → Pops t most h (Some (On (h.depth - 1)))
  unfolding plain_takes plain_gives
  pops n m z L fs o =
      easy_cut L fs t most h o Pop (top ∷ []) (h.depth - 1) refl refl n (fit_one L (operands_of t h) top (fits-any L (operand 0 (operands_of t h)))) r m z refl

-- ---- an instruction by the word w of what it names: where something was done, it is what the word makes it
pub record ByName (make : Resolved → Instr) (s : List ℕ) (L : Program) (fs : List Frame) (t u : List ℕ) (most : ℕ) (h : Held) (o w : ℕ) (v : Option Went) : Type 0 where
  pub instr : code.Instr
  pub refers : Did v (instr_of instr ≡ make (resolved_of s w))
  pub plain : calls instr ≡ false
  pub hide : hides instr ≡ false
  pub easy : Easy L fs t u most h o instr v

pub record Named (make : Resolved → Instr) (L : Program) (t u : List ℕ) (most : ℕ) (h : Held) (o w : ℕ) (v : Option Went) : Type 0 where
  pub by : (s : List ℕ) (fs : List Frame) → ByName make s L fs t u most h o w v

pub named_none : (make : Resolved → Instr) (L : Program) (t : List ℕ) (most : ℕ) (h : Held) (o w : ℕ) → Named make L t t most h o w None
unfolding hides
named_none make L t most h o w = record { by = λ s fs. record { instr = Unresolved; refers = tt; plain = refl; hide = refl; easy = easy_none L fs t most h o Unresolved } }

abbrev pub LoadsNumber : List ℕ → List ℕ → ℕ → Held → ℕ → Option Went → Type 0
LoadsNumber t u most h w v = (L : Program) (o : ℕ) → Named (as_number iconst) L t u most h o w v

abbrev pub GetsField : List ℕ → List ℕ → Kin → ℕ → Held → ℕ → Option Went → Type 0
GetsField t u kin most h w v = (o : ℕ) → Named (as_field getfield) (lineage t kin.at kin.count) t u most h o w v

abbrev pub PutsField : List ℕ → Kin → ℕ → Held → ℕ → Option Went → Type 0
PutsField t kin most h w v = (o : ℕ) → Named (as_field putfield) (lineage t kin.at kin.count) t t most h o w v

abbrev pub MakesNew : List ℕ → List ℕ → ℕ → Held → ℕ → ℕ → Option Went → Type 0
MakesNew t u most h o w v = (L : Program) → Named (as_type new_of) L t u most h o w v

pub did : (v : Option Went) (P : Type 0) → P → Did v P
did None P p = tt
did (Some g) P p = p

pub loads_number : (t u : List ℕ) (most : ℕ) (h : Held) (w : ℕ) (v : Option Went) (y : Ty) → w % 8 ≡ 1 → y ≡ int → Pushed t u most h y v → LoadsNumber t u most h w v
unfolding hides
loads_number t u most h w v y k e p L o = record {
  by = λ s fs.
      let n = u4_at s (w / 8 + 1) in
      record { instr = Simple (Iconst n); refers = did v _ (number_yes n w k); plain = refl; hide = refl; easy = pushes_int L fs t u most h o v n y e p };
}

-- the field that the word stands for, y its type; c the class that is named
module _ (t : List ℕ) (kin : Kin) (most : ℕ) (h : Held) (w : ℕ) (y : words.Ty) (c : Ty) (k : w % 8 ≡ 3)
    (e : (desc_of y.word ≡ code_desc (w / 8 % 256)) × (type_of y.word ≡ ty_of (code_desc (w / 8 % 256)))) (q : c ≡ ini (cls (w / 2048 % 32))) where
  abbrev L : Program
  L = lineage t kin.at kin.count

  abbrev field : Field
  field = record { named = w / 2048 % 32; owner = w / 65536 % 32; slot = w / 2097152 % 1024; of = y }

  field_is : field_of field ≡ field_in w
  field_is = let d = e.0 in cc

  written : type_of y.word ≡ ty_of (desc_of y.word)
  written = e.1 ∙ ap ty_of (sym e.0)

  pub gets_field : (u : List ℕ) (g : Held) (r : Result (Unit {0}) Refusal) → 1 ≤ h.depth → fits L (operand 0 (operands_of t h)) c ≡ true
      → ruled number r ≡ verdict (claim 15 (leb (1 + (h.depth - 1)) most) ∷ []) → false ≡ is_err r
      → Moved h g (h.depth - 1 + 1) → held u g ≡ pushed 1 (type_of y.word) (held t h) → Outside h.at t u → GetsField t u kin most h w (Some (On g.depth))
  unfolding hides plain_takes plain_gives
  gets_field u g r n f m z a b out o = record {
    by = λ s fs. record {
      instr = Simple (Getfield field);
      refers = (field_yes w (Simple (Getfield field)) getfield (field_of field) k field_is refl).is (u4_at s (w / 8 + 1));
      plain = refl;
      hide = refl;
      easy =
          easy_put L fs t most h o (Getfield field) (ini (cls (w / 2048 % 32)) ∷ []) u g (type_of y.word) (ty_of (desc_of y.word)) refl refl written n
          (fit_one L (operands_of t h) (ini (cls (w / 2048 % 32))) (fits_as L _ c _ q f)) r m z a b out;
    };
  }

  pub puts_field : (r : Result (Unit {0}) Refusal) → 2 ≤ h.depth → fits L (operand 0 (operands_of t h)) (type_of y.word) ≡ true → fits L (operand 1 (operands_of t h)) c ≡ true
      → ruled number r ≡ verdict (claim 15 (leb (0 + (h.depth - 2)) most) ∷ []) → false ≡ is_err r → PutsField t kin most h w (Some (On (h.depth - 2)))
  unfolding hides plain_takes plain_gives
  puts_field r n f g m z o = record {
    by = λ s fs. record {
      instr = Simple (Putfield field);
      refers = (field_yes w (Simple (Putfield field)) putfield (field_of field) k field_is refl).is (u4_at s (w / 8 + 1));
      plain = refl;
      hide = refl;
      easy =
          easy_cut L fs t most h o (Putfield field) (ty_of (desc_of y.word) ∷ ini (cls (w / 2048 % 32)) ∷ []) (h.depth - 2) refl refl n
          (fit_two L (operands_of t h) (ty_of (desc_of y.word)) (ini (cls (w / 2048 % 32))) (fits_as L _ (type_of y.word) _ written f) (fits_as L _ c _ q g)) r m z refl;
    };
  }

-- ---- new at o
no_brackets : (w : ℕ) → w % 64 ≡ 2 → w / 8 % 8 ≡ 0
no_brackets w e =
    let a : w / 8 / 8 ≤ w / 64 = omega arith in
    let b : w / 64 ≤ w / 8 / 8 = omega arith in
    omega arith

cut-mod : (q : ℕ) → q % 256 % 8 ≡ q % 8
cut-mod q = omega arith

module _ (t u z : List ℕ) (most : ℕ) (h g : Held) (o w : ℕ) (key y : Ty) (a : key ≡ uninit (at o)) (b : y ≡ top) (n : no_copy (key_of key) (operands_of t h) ≡ true)
    (r : Result (Unit {0}) Refusal) (m : ruled number r ≡ verdict (claim 15 (leb (1 + (h.depth - 0)) most) ∷ [])) (e : false ≡ is_err r) (p : held u h ≡ locals_swapped (key_of key) y (held t h)) (i : Outside h.at t u)
    (k : Moved h g (h.depth - 0 + 1)) (q : held z g ≡ pushed 0 key (held u h)) (j : Outside h.at u z) where
  place : down h g.depth ≡ g
  place = rw (← k.at, ← k.locals, ← k.flag)

  fresh : (c : ℕ) (L : Program) (fs : List Frame) → Easy L fs t z most h o (New c) (Some (On g.depth))
  unfolding instr_claims instr_after new_claims operands_fit targets_of falls_of
  fresh c L fs =
      easy_on L fs t z most h o (New c) refl refl g.depth
      (λ F.
      passes _ (
        true-T _ (le-leb 0 (length (operands_of t h)) (omega arith)),
        (
          true-T _ (sym (copy_via true key o (operands_of t h) (sym n) a)),
          (true-T _ (le-leb (suc (length (operands_of t h))) most (let x = said r 15 (1 + (h.depth - 0)) most m e in omega (arith, length-stack t (h.at + 32) h.depth))), tt),
        ),
      ))
      (λ F. ap (held z) place ∙ new-held t u z h g key o y p q a b) (let x = k.depth in omega arith) (outside_two h.at t u z i j)

  pub makes-new : w % 64 ≡ 2 → MakesNew t z most h o w (Some (On g.depth))
  unfolding hides
  makes-new f L =
      let x : w % 8 ≡ 2 = omega arith in
      let c : w / 8 % 256 % 8 ≡ 0 = cut-mod (w / 8) ∙ no_brackets w f in
      record {
        by = λ s fs. record {
          instr = New (w / 8 % 256 / 8);
          refers = (type_yes w (New (w / 8 % 256 / 8)) (λ c. new_of c) x (new-class (w / 8 % 256) c)).is (u4_at s (w / 8 + 1));
          plain = refl;
          hide = refl;
          easy = fresh (w / 8 % 256 / 8) L fs;
        };
      }

-- ---- by its opcode
module _ (s t u : List ℕ) (x : Site) (kin : Kin) (f : Rows) (h : Held) (o : ℕ) (bytes : List ℕ) (apt : Open s t x kin f h o) (same : bytes ≡ site_code s x) (op k : ℕ) (a : op ≡ get_or bytes o 0) (b : op ≡ k) where
  module _ (st : steady k ≡ false) (make : Resolved → Instr) (w j : ℕ) (e : w ≡ word_of t x.class j)
      (m : (P : Program) (pool : ℕ → Resolved) → make (pool j) ≡ made P pool k (get_or bytes (o + 1) 0) (get_or bytes (o + 2) 0) o) where
    by_name : (g : Went) → ByName make s (lineage t kin.at kin.count) (frames_of t f) t u x.stack h o w (Some g) → Tried s t u x f true h o (Some g)
    by_name g n =
        tried_easy s t u x kin f h o n.instr apt
        (subst (λ (l : List ℕ). DecodedAt s t x.class l o n.instr) same
        (record {
          is = λ P g.
              n.refers ∙ ap (λ (c : ℕ). make (resolved_of s c)) e ∙ m P (resolved_in s t x.class)
              ∙ ap (λ (c : ℕ). made P (resolved_in s t x.class) c (get_or bytes (o + 1) 0) (get_or bytes (o + 2) 0) o) (sym b ∙ a);
        }))
        n.hide n.plain (λ y. absurd (not_so (sym st ∙ ap steady (sym b ∙ a ∙ ap (λ (l : List ℕ). get_or l o 0) same) ∙ y))) (Some g) n.easy

    pub tried_named : (v : Option Went) → Named make (lineage t kin.at kin.count) t u x.stack h o w v → Tried s t u x f true h o v
    tried_named None q = record { on = tt; off = tt; kept = (q.by s (frames_of t f)).easy.kept; same = tt }
    tried_named (Some g) q = by_name g (q.by s (frames_of t f))

-- ---- arrays, and tests for null
abbrev pub LoadsElement : List ℕ → List ℕ → Kin → ℕ → Held → Option Went → Type 0
LoadsElement t u kin most h v = (fs : List Frame) (o : ℕ) → Easy (lineage t kin.at kin.count) fs t u most h o (Simple Iaload) v

abbrev pub StoresElement : List ℕ → Kin → ℕ → Held → Option Went → Type 0
StoresElement t kin most h v = (fs : List Frame) (o : ℕ) → Easy (lineage t kin.at kin.count) fs t t most h o (Simple Iastore) v

abbrev pub Measures : List ℕ → List ℕ → ℕ → Held → Option Went → Type 0
Measures t u most h v = (L : Program) (fs : List Frame) (o : ℕ) → Easy L fs t u most h o (OnStack Arraylength) v

abbrev pub TestsNull : List ℕ → Kin → Rows → ℕ → Held → ℕ → Option Went → Type 0
TestsNull t kin f most h p v = (o : ℕ) (b : Bool) → Easy (lineage t kin.at kin.count) (frames_of t f) t t most h o (Jump (Ifnull b p)) v

-- x is int, y an array of int
module _ (t : List ℕ) (kin : Kin) (most : ℕ) (h : Held) (r : Result (Unit {0}) Refusal) (x y : Ty) (p : x ≡ int) (q : y ≡ ini (arr (nest 65535 (0 % 8)))) where
  abbrev K : Program
  K = lineage t kin.at kin.count

  pub loads_element : (u : List ℕ) (g : Held) (z : Ty) → z ≡ int → 2 ≤ h.depth → fits K (operand 0 (operands_of t h)) x ≡ true → fits K (operand 1 (operands_of t h)) y ≡ true
      → ruled number r ≡ verdict (claim 15 (leb (1 + (h.depth - 2)) most) ∷ []) → false ≡ is_err r → Moved h g (h.depth - 2 + 1) → held u g ≡ pushed 2 z (held t h) → Outside h.at t u
      → LoadsElement t u kin most h (Some (On g.depth))
  unfolding plain_takes plain_gives
  loads_element u g z e n a b m d i j out fs o =
      easy_put K fs t most h o Iaload (int ∷ int_array ∷ []) u g z int refl refl e n
      (fit_two K (operands_of t h) int int_array (fits_as K _ x _ p a) (fits_as K _ y _ (base_int y q) b)) r m d i j out

  pub stores_element : 3 ≤ h.depth → fits K (operand 0 (operands_of t h)) x ≡ true → fits K (operand 1 (operands_of t h)) x ≡ true → fits K (operand 2 (operands_of t h)) y ≡ true
      → ruled number r ≡ verdict (claim 15 (leb (0 + (h.depth - 3)) most) ∷ []) → false ≡ is_err r → StoresElement t kin most h (Some (On (h.depth - 3)))
  unfolding plain_takes plain_gives
  stores_element n a b c m d fs o =
      easy_cut K fs t most h o Iastore (int ∷ int ∷ int_array ∷ []) (h.depth - 3) refl refl n
      (fit_three K (operands_of t h) int int int_array (fits_as K _ x _ p a) (fits_as K _ x _ p b) (fits_as K _ y _ (base_int y q) c)) r m d refl

pub measures : (t u : List ℕ) (most : ℕ) (h g : Held) (r : Result (Unit {0}) Refusal) (y : Ty) → 1 ≤ h.depth → is_array (operand 0 (operands_of t h)) ≡ true
    → ruled number r ≡ verdict (claim 15 (leb (1 + (h.depth - 1)) most) ∷ []) → false ≡ is_err r → Moved h g (h.depth - 1 + 1) → held u g ≡ pushed 1 y (held t h) → y ≡ int → Outside h.at t u
    → Measures t u most h (Some (On g.depth))
unfolding instr_claims instr_after stack_claims stack_after operands_fit fits targets_of falls_of
measures t u most h g r y n a m z i j e out L fs o =
    easy_on L fs t u most h o (OnStack Arraylength) refl refl g.depth
    (λ F.
    passes _ (
      true-T _ (le-leb 1 (length (operands_of t h)) (omega (arith, length-stack t (h.at + 32) h.depth))),
      (
        tt,
        (
          true-T _ a,
          (true-T _ (le-leb (suc (length (drop 1 (operands_of t h)))) most (let b = said r 15 (1 + (h.depth - 1)) most m z in omega (arith, rest))), tt),
        ),
      ),
    ))
    (λ F. ap (held u) place ∙ j ∙ rw e) (let b = i.depth in omega arith) out
  where
    place : down h g.depth ≡ g
    place = rw (← i.at, ← i.locals, ← i.flag)

    rest : length (drop 1 (operands_of t h)) ≡ h.depth - 1
    rest = ap length (drop-stack 1 t (h.at + 32) h.depth) ∙ length-stack t (h.at + 32) (h.depth - 1)

pub tests_null : (t : List ℕ) (kin : Kin) (f : Rows) (most : ℕ) (h : Held) (p : ℕ) (v : Option Went) (y : Ty) → 1 ≤ h.depth → y ≡ ini (cls 0)
    → fits (lineage t kin.at kin.count) (operand 0 (operands_of t h)) y ≡ true → Goes t kin f most h 1 p v → TestsNull t kin f most h p v
unfolding branch_takes
tests_null t kin f most h p v y n e a g o b =
    jumped t kin f most h p 1 (object_ty ∷ []) (Ifnull b p) o refl refl n
    (fit_one (lineage t kin.at kin.count) (operands_of t h) object_ty (fits_as (lineage t kin.at kin.count) _ y _ e a)) refl refl v g

-- ---- returns: b is the code of the method's result
pub record Leaves (L : Program) (t : List ℕ) (h : Held) (b : ℕ) (i : Leave) (v : Option Went) : Type 0 where
  pub asks : Did v ((most o : ℕ) (F : Facts) → F.results ≡ result_of b → pass ≡ verdict (instr_claims L most F o (Leaving i) (held t h)))
  pub away : OnWent v (λ d. ⊥)

pub leaves_none : (L : Program) (t : List ℕ) (h : Held) (b : ℕ) (i : Leave) → Leaves L t h b i None
leaves_none L t h b i = record { asks = tt; away = tt }

pub one_result : (b : ℕ) → (b ≡ 256 → ⊥) → result_of b ≡ code_desc b ∷ []
unfolding result_of
one_result b n = rw (ne_eqb b 256 n)

pub no_result_lem : (b : ℕ) → b ≡ 256 → result_of b ≡ []
unfolding result_of
no_result_lem b e = rw (eq-eqb b 256 e)

int-result : (b : ℕ) → b ≡ 248 → result_of b ≡ dint ∷ []
unfolding result_of code_desc nested base_of
int-result b e = rw e

reference_result : (d : Desc) → is_int (ty_of d) ≡ false → returns_ref (d ∷ []) ≡ true
reference_result dint e = sym e
reference_result (dref r) e = refl

module _ (L : Program) (t : List ℕ) (h : Held) (b : ℕ) (g : h.flag ≡ false) where
  clear : not h.flag ≡ true
  clear = ap not g

  pub leaves_int : b ≡ 248 → OneInt t h → Leaves L t h b Ireturn (Some Off)
  unfolding instr_claims leave_claims operands_fit fits
  leaves_int k q = record {
    asks = λ most o F r.
        passes _ (
          true-T _ (le-leb 1 (length (operands_of t h)) (let d = q.depth in omega (arith, length-stack t (h.at + 32) h.depth))),
          (true-T _ q.first, (true-T _ (ap returns_int (r ∙ int-result b k)), (true-T _ clear, (true-T _ (le-leb 0 most (omega arith)), tt)))),
        );
    away = tt;
  }

  pub leaves_reference : (b ≡ 256 → ⊥) → 1 ≤ h.depth → (y : Ty) → y ≡ ty_of (code_desc b) → is_int y ≡ false → fits L (operand 0 (operands_of t h)) y ≡ true
      → Leaves L t h b Areturn (Some Off)
  unfolding instr_claims leave_claims operands_fit
  leaves_reference k n y c d f = record {
    asks = λ most o F r.
        let w : F.results ≡ code_desc b ∷ [] = r ∙ one_result b k in
        passes _ (
          true-T _ (le-leb 1 (length (operands_of t h)) (omega (arith, length-stack t (h.at + 32) h.depth))),
          (
            true-T _ (ap (fits L (operand 0 (operands_of t h))) (ap returned w ∙ sym c) ∙ f),
            (true-T _ (ap returns_ref w ∙ reference_result (code_desc b) (ap is_int (sym c) ∙ d)), (true-T _ clear, (true-T _ (le-leb 0 most (omega arith)), tt))),
          ),
        );
    away = tt;
  }

  pub leaves_bare : b ≡ 256 → Leaves L t h b Return (Some Off)
  unfolding instr_claims leave_claims operands_fit
  leaves_bare k = record {
    asks = λ most o F r.
        passes _ (
          true-T _ (le-leb 0 (length (operands_of t h)) (omega arith)),
          (true-T _ (ap returns_void (r ∙ no_result_lem b k)), (true-T _ clear, (true-T _ (le-leb 0 most (omega arith)), tt))),
        );
    away = tt;
  }

module _ (s t : List ℕ) (x : Site) (kin : Kin) (f : Rows) (h : Held) (o : ℕ) (bytes : List ℕ) (apt : Open s t x kin f h o) (same : bytes ≡ site_code s x) (op k : ℕ) (a : op ≡ get_or bytes o 0) (b : op ≡ k)
    (i : Leave) (m : (P : Program) (pool : ℕ → Resolved) → leave_of i ≡ made P pool k (get_or bytes (o + 1) 0) (get_or bytes (o + 2) 0) o) (back : ℕ)
    (r : result_of back ≡ results_in t (64 * x.class + x.method)) where
  d : DecodedAt s t x.class (site_code s x) o (Leaving i)
  d =
      subst (λ (l : List ℕ). DecodedAt s t x.class l o (Leaving i)) same
      (record { is = λ P g. m P (resolved_in s t x.class) ∙ ap (λ (c : ℕ). made P (resolved_in s t x.class) c (get_or bytes (o + 1) 0) (get_or bytes (o + 2) 0) o) (sym b ∙ a) })

  pub tried_left : (v : Option Went) → Leaves (lineage t kin.at kin.count) t h back i v → Tried s t t x f true h o v
  unfolding hides falls_of targets_of
  tried_left None l = record { on = tt; off = tt; kept = refl; same = tt }
  tried_left (Some (On c)) l = absurd l.away
  tried_left (Some Off) l = record {
    on = tt;
    off = record {
      says = λ P M dt yt one.
          line-says s t t x kin f h o (Leaving i) apt d refl P M dt one (own_facts M) (own_told P M (Leaving i) (operands_of t h) refl) (l.asks x.stack o (own_facts M) (dt.results ∙ sym r))
          (no_jump (lineage t kin.at kin.count) (frames_of t f) (instr_after (own_facts M) o (Leaving i) (held t h)));
      leaves = λ P M dt yt one. line_away s t t x kin f h o (Leaving i) apt d refl P M dt one refl;
      going = going_same h apt.walking.depth;
      front = refl;
    };
    kept = tt;
    same = tt;
  }
