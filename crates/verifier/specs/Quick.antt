-- Instructions by their opcodes, where nothing is refused: what the answer says of a line of the walk. Assumes nothing.
use Rattle.std.specs.Prelude.{ℕ, suc, ◌+◌, ◌-◌, ◌*◌, ◌^◌, ◌%◌, ◌<◌, ◌≤◌, ◌≡◌, Option, Some, None, Result, Ok, Err, is_err, Bool, true, false, cond, ltb, leb, List, [], ◌∷◌, length, get_or, drop}
use Rattle.std.proofs.Common.{refl, sym, ap, subst, ◌∙◌, arith, le-leb, leb-true, lt-ltb, le-ltb}
use Rattle.std.proofs.Math.Option.{Option as Maybe, none, some}
use Rattle.kit.specs.Bools.{T_true, true-T, not_so}
use Rattle.kit.specs.Claims.{Claim, claim, pass, verdict, ruled, all_pass, AllT, pass_all, verdict_yes, verdict_none, then_on}
use Rattle.texts.specs.Faults.{number}
use Rattle.reader.specs.BuiltIns.{first_class}
use Rattle.classfiles.specs.Attributes.{handlers_from}
use Rattle.classfiles.specs.Members.{Body}
use Rattle.reader.specs.Program.{Program, Method}
use Rattle.rules.specs.Instruction.{Instr, falls, targets}
use Rattle.rules.specs.Opcodes.{instruction}
use Rattle.rules.specs.Resolve.{Resolved}
use Rattle.rules.specs.Types.{Ty, top, int, null, is_int, is_reference, fits}
use Rattle.rules.specs.States.{State, state, operand}
use Rattle.rules.specs.Frames.{Frame}
use Rattle.rules.specs.Rule.{rule, key_of}
use Rattle.rules.specs.Walk.{frame_at, into_frame, operands_fit, branch_claims, instruction_claims}
use Rattle.rules.specs.InstructionWords.{branch_of, instr_of}
use Rattle.rules.specs.Ancestry.{lineage}
use Rattle.rules.specs.Slots.{locals_of, operands_of, held, Outside, Placed, Moved, pushed, dropped, stored, veil}
use Rattle.rules.specs.SlotLaws.{length-stack, drop-stack, outside_none, claim_yes, cut-held, veil_no}
use Rattle.rules.specs.Forms.{asked, form_claims, plain_takes, plain_gives, branch_takes}
use Rattle.rules.specs.FormLaws.{form-parts}
use Rattle.rules.specs.Groups.{local_claims, local_after, stack_claims, stack_after}
use Rattle.rules.specs.FrameRows.{frames_of, Laid}
use Rattle.rules.specs.ResolvedWords.{resolved_in}
use Rattle.rules.specs.Sites.{site_body, site_code, Sited}
use Rattle.shaping.specs.SiteLaws.{one_body, decoded}
use Rattle.rules.specs.Decoding.{made, DecodedAt}
use Rattle.rules.specs.Handlers.{catch_in, catch_is, handlers_by}
use Rattle.rules.specs.Known.{Facts, instr_claims, instr_after, hides}
use Rattle.rules.specs.KnownLaws.{Told, left_known}
use Rattle.rules.specs.StepClaims.{step_by, step_jump, step_known, targets_of, falls_of, falls_of_lem, no_jump, jump_branch, going_on, going_same}
use Rattle.rules.specs.Loads.{current}
use Rattle.verifier.specs.Lineup.{line_claims, line_after, claims_left, after_left, Walking, Entered, LineDone, outside_front, walking_roomy}
use Rattle.texts.specs.declared.faults.Refusal.{Refusal}
use Rattle.rules.specs.declared.site.Site.{Site}
use Rattle.rules.specs.declared.slots.Held.{Held}
use Rattle.rules.specs.declared.frames.Rows.{Rows}
use Rattle.rules.specs.declared.types.Kin.{Kin}
use Rattle.rules.specs.declared.instruction.Plain.{Plain}
use Rattle.rules.specs.declared.instruction.Op.{Op}
use Rattle.rules.specs.declared.instruction.Division.{Division}
use Rattle.rules.specs.declared.instruction.Test.{Test}
use Rattle.rules.specs.declared.instruction.Plain.TheVariants.{Aconstnull, Iconst, Ibin, Idiv}
use Rattle.rules.specs.declared.instruction.Branch.{Branch}
use Rattle.rules.specs.declared.instruction.Branch.TheVariants.{Goto, Ifint, Ificmp}
use Rattle.rules.specs.declared.instruction.Local.{Local}
use Rattle.rules.specs.declared.instruction.Local.TheVariants.{Iload, Aload, Istore, Astore, Iinc}
use Rattle.rules.specs.declared.instruction.Stack.{Stack}
use Rattle.rules.specs.declared.instruction.Stack.TheVariants.{Dup, Dupx1, Swap, Arraylength, Aaload}
use Rattle.rules.specs.declared.instruction.Instr as code
use Rattle.rules.specs.declared.instruction.Instr.TheVariants.{Simple, Jump, OnLocal, OnStack, Leaving, New, Calling, Illegal, Unresolved}
use Rattle.verifier.specs.declared.quick.Went.{Went}
use Rattle.verifier.specs.declared.quick.Went.TheVariants.{On, Off}

-- the state's place at another depth
abbrev pub down : Held → ℕ → Held
down h d = record { at = h.at; locals = h.locals; depth = d; flag = h.flag }

-- ---- what an answer says: where something was done, where control goes on at a depth, where it does not, where nothing was done
abbrev pub Did : Option Went → Type 0 → Type 0
Did None P = Unit {0}
Did (Some g) P = P

abbrev pub OnWent : Option Went → (ℕ → Type 0) → Type 0
OnWent None P = Unit {0}
OnWent (Some (On d)) P = P d
OnWent (Some Off) P = Unit {0}

abbrev pub OffWent : Option Went → Type 0 → Type 0
OffWent None P = Unit {0}
OffWent (Some (On d)) P = Unit {0}
OffWent (Some Off) P = P

abbrev pub Undone : Option Went → Type 0 → Type 0
Undone None P = P
Undone (Some g) P = Unit {0}

-- of an instruction
pub record Easy (L : Program) (fs : List Frame) (t u : List ℕ) (most : ℕ) (h : Held) (o : ℕ) (i : code.Instr) (v : Option Went) : Type 0 where
  pub asks : Did v ((F : Facts) → pass ≡ verdict (instr_claims L most F o i (held t h)))
  pub jumps : Did v ((F : Facts) → pass ≡ verdict (branch_claims L fs (instr_after F o i (held t h)) (targets_of i)))
  pub after : OnWent v (λ d. (F : Facts) → held u (down h d) ≡ instr_after F o i (held t h))
  pub falls : OnWent v (λ d. true ≡ falls_of i)
  pub stays : OffWent v (false ≡ falls_of i)
  pub depth : OnWent v (λ d. d ≤ 3 + h.depth)
  pub kept : Undone v (u ≡ t)
  pub outside : Outside h.at t u

pub easy_none : (L : Program) (fs : List Frame) (t : List ℕ) (most : ℕ) (h : Held) (o : ℕ) (i : code.Instr) → Easy L fs t t most h o i None
easy_none L fs t most h o i = record { asks = tt; jumps = tt; after = tt; falls = tt; stays = tt; depth = tt; kept = refl; outside = outside_none h.at t }

-- a claim that a result answers
pub said : (r : Result (Unit {0}) Refusal) (n : ℕ) (a b : ℕ) → ruled number r ≡ verdict (claim n (leb a b) ∷ []) → false ≡ is_err r → a ≤ b
said (Ok u) n a b h z = leb-true a b (T_true (leb a b) (pass_all (claim n (leb a b) ∷ []) (sym h)).0)
said (Err e) n a b h z = absurd (not_so z)

pub passes : (cs : List (Claim ℕ)) → AllT cs → pass ≡ verdict cs
passes cs a = sym (all_pass cs a)

-- where no frame is asked for and control goes on
module _ (L : Program) (fs : List Frame) (t u : List ℕ) (most : ℕ) (h : Held) (o : ℕ) (i : code.Instr) (g : targets_of i ≡ []) (e : true ≡ falls_of i) where
  pub unled : (F : Facts) → pass ≡ verdict (branch_claims L fs (instr_after F o i (held t h)) (targets_of i))
  unled F = subst (λ (ts : List ℕ). pass ≡ verdict (branch_claims L fs (instr_after F o i (held t h)) ts)) (sym g) (no_jump L fs (instr_after F o i (held t h)))

  pub easy_on : (d : ℕ) → ((F : Facts) → pass ≡ verdict (instr_claims L most F o i (held t h))) → ((F : Facts) → held u (down h d) ≡ instr_after F o i (held t h))
      → d ≤ 3 + h.depth → Outside h.at t u → Easy L fs t u most h o i (Some (On d))
  easy_on d a b l out = record { asks = a; jumps = unled; after = b; falls = e; stays = tt; depth = l; kept = tt; outside = out }

-- ---- a form: its operands are there and fit, and there is room
module _ (L : Program) (most : ℕ) (ts us : List Ty) (t : List ℕ) (h : Held) where
  pub form_pass : length ts ≤ h.depth → verdict (operands_fit L 0 ts (operands_of t h)) ≡ pass → length us + (h.depth - length ts) ≤ most → pass ≡ verdict (form_claims L most ts us (held t h))
  unfolding asked
  form_pass n f m =
      then_on pass _ _
      (sym (verdict_yes 15 (leb (length ts) (length (operands_of t h))) _ (le-leb (length ts) (length (operands_of t h)) (omega (arith, length-stack t (h.at + 32) h.depth))) ∙ f))
      (claim_yes 15 _ (le-leb _ most m))
      ∙ form-parts L most ts us t h (length us) (length ts) refl refl

-- the top operands are ints
pub record OneInt (t : List ℕ) (h : Held) : Type 0 where
  pub depth : 1 ≤ h.depth
  pub first : is_int (operand 0 (operands_of t h)) ≡ true

pub record TwoInts (t : List ℕ) (h : Held) : Type 0 where
  pub depth : 2 ≤ h.depth
  pub first : is_int (operand 0 (operands_of t h)) ≡ true
  pub second : is_int (operand 1 (operands_of t h)) ≡ true

module _ (L : Program) (t : List ℕ) (h : Held) where
  one-fits : OneInt t h → verdict (operands_fit L 0 (int ∷ []) (operands_of t h)) ≡ pass
  unfolding operands_fit fits
  one-fits e = verdict_yes 16 _ [] e.first ∙ verdict_none

  two_fit : TwoInts t h → verdict (operands_fit L 0 (int ∷ int ∷ []) (operands_of t h)) ≡ pass
  unfolding operands_fit fits
  two_fit e = verdict_yes 16 _ _ e.first ∙ verdict_yes 16 _ [] e.second ∙ verdict_none

  pub none_fits : verdict (operands_fit L 0 [] (operands_of t h)) ≡ pass
  unfolding operands_fit
  none_fits = verdict_none

-- ---- a type comes on the stack
pub record Pushed (t u : List ℕ) (most : ℕ) (h : Held) (y : Ty) (v : Option Went) : Type 0 where
  pub room : Did v (1 + h.depth ≤ most)
  pub after : OnWent v (λ d. held u (down h d) ≡ pushed 0 y (held t h))
  pub depth : OnWent v (λ d. d ≡ h.depth + 1)
  pub on : OffWent v ⊥
  pub kept : Undone v (u ≡ t)
  pub outside : Outside h.at t u

pub pushed_none : (t : List ℕ) (most : ℕ) (h : Held) (y : Ty) → Pushed t t most h y None
pushed_none t most h y = record { room = tt; after = tt; depth = tt; on = tt; kept = refl; outside = outside_none h.at t }

pub pushed_on : (t u : List ℕ) (most : ℕ) (h g : Held) (y : Ty) (r : Result (Unit {0}) Refusal) → ruled number r ≡ verdict (claim 15 (leb (1 + (h.depth - 0)) most) ∷ []) → false ≡ is_err r
    → Moved h g (h.depth - 0 + 1) → held u g ≡ pushed 0 y (held t h) → Outside h.at t u → Pushed t u most h y (Some (On g.depth))
pushed_on t u most h g y r a z m e out = record {
  room = let b = said r 15 (1 + (h.depth - 0)) most a z in omega arith;
  after = ap (held u) (down_is h g m) ∙ e;
  depth = let b = m.depth in omega arith;
  on = tt;
  kept = tt;
  outside = out;
}
  where
    down_is : (h g : Held) → Moved h g (h.depth - 0 + 1) → down h g.depth ≡ g
    down_is h g m = rw (← m.at, ← m.locals, ← m.flag)

module _ (L : Program) (fs : List Frame) (t u : List ℕ) (most : ℕ) (h : Held) (o : ℕ) (i : code.Instr) (y : Ty) (g : targets_of i ≡ []) (e : true ≡ falls_of i)
    (a : 1 + h.depth ≤ most → (F : Facts) → pass ≡ verdict (instr_claims L most F o i (held t h))) (b : (F : Facts) → pushed 0 y (held t h) ≡ instr_after F o i (held t h)) where
  pub easy_pushed : (v : Option Went) → Pushed t u most h y v → Easy L fs t u most h o i v
  easy_pushed None p = record { asks = tt; jumps = tt; after = tt; falls = tt; stays = tt; depth = tt; kept = p.kept; outside = p.outside }
  easy_pushed (Some (On d)) p = easy_on L fs t u most h o i g e d (a p.room) (λ F. p.after ∙ b F) (let q = p.depth in omega arith) p.outside
  easy_pushed (Some Off) p = absurd p.on

-- constants
module _ (L : Program) (fs : List Frame) (t u : List ℕ) (most : ℕ) (h : Held) (o : ℕ) (v : Option Went) where
  pub pushes_int : (n : ℕ) (y : Ty) → y ≡ int → Pushed t u most h y v → Easy L fs t u most h o (Simple (Iconst n)) v
  unfolding instr_claims instr_after plain_takes plain_gives targets_of falls_of
  pushes_int n y e p =
      easy_pushed L fs t u most h o (Simple (Iconst n)) y refl refl
      (λ m F. form_pass L most [] (int ∷ []) t h (omega arith) (none_fits L t h) (omega arith)) (λ F. rw e) v p

  pub pushes_null : (y : Ty) → y ≡ null → Pushed t u most h y v → Easy L fs t u most h o (Simple Aconstnull) v
  unfolding instr_claims instr_after plain_takes plain_gives targets_of falls_of
  pushes_null y e p =
      easy_pushed L fs t u most h o (Simple Aconstnull) y refl refl
      (λ m F. form_pass L most [] (null ∷ []) t h (omega arith) (none_fits L t h) (omega arith)) (λ F. rw e) v p

-- ---- locals and the stack
abbrev pub LoadsInt : List ℕ → List ℕ → ℕ → Held → ℕ → Option Went → Type 0
LoadsInt t u most h j v = (L : Program) (fs : List Frame) (o : ℕ) → Easy L fs t u most h o (OnLocal (Iload j)) v

abbrev pub LoadsReference : List ℕ → List ℕ → ℕ → Held → ℕ → Option Went → Type 0
LoadsReference t u most h j v = (L : Program) (fs : List Frame) (o : ℕ) → Easy L fs t u most h o (OnLocal (Aload j)) v

abbrev pub StoresInt : List ℕ → List ℕ → ℕ → Held → ℕ → Option Went → Type 0
StoresInt t u most h j v = (L : Program) (fs : List Frame) (o : ℕ) → Easy L fs t u most h o (OnLocal (Istore j)) v

abbrev pub StoresReference : List ℕ → List ℕ → ℕ → Held → ℕ → Option Went → Type 0
StoresReference t u most h j v = (L : Program) (fs : List Frame) (o : ℕ) → Easy L fs t u most h o (OnLocal (Astore j)) v

abbrev pub Adds : List ℕ → List ℕ → ℕ → Held → ℕ → Option Went → Type 0
Adds t u most h j v = (L : Program) (fs : List Frame) (o k : ℕ) → Easy L fs t u most h o (OnLocal (Iinc j k)) v

abbrev pub Doubles : List ℕ → List ℕ → ℕ → Held → Option Went → Type 0
Doubles t u most h v = (L : Program) (fs : List Frame) (o : ℕ) → Easy L fs t u most h o (OnStack Dup) v

-- two ints give one, by whatever is done to them
pub record Numbers (t u : List ℕ) (most : ℕ) (h : Held) (v : Option Went) : Type 0 where
  pub by : (L : Program) (fs : List Frame) (o : ℕ) (k : Op) → Easy L fs t u most h o (Simple (Ibin k)) v
  pub divided : (L : Program) (fs : List Frame) (o : ℕ) (k : Division) → Easy L fs t u most h o (Simple (Idiv k)) v

module _ (L : Program) (fs : List Frame) (t u : List ℕ) (most : ℕ) (h : Held) (o : ℕ) where
  abbrev s : List ℕ → List Ty
  s z = operands_of z h

  pub loads_int : (v : Option Went) (j : ℕ) (y : Ty) → is_int (get_or (locals_of t h) j top) ≡ true → y ≡ int → Pushed t u most h y v → Easy L fs t u most h o (OnLocal (Iload j)) v
  unfolding instr_claims instr_after local_claims local_after operands_fit targets_of falls_of
  loads_int v j y q e p =
      easy_pushed L fs t u most h o (OnLocal (Iload j)) y refl refl
      (λ m F. passes _ (true-T _ (le-leb 0 (length (s t)) (omega arith)), (true-T _ q, (true-T _ (le-leb (suc (length (s t))) most (omega (arith, length-stack t (h.at + 32) h.depth))), tt))))
      (λ F. rw e) v p

  pub loads_reference : (v : Option Went) (j : ℕ) (y : Ty) → is_reference (get_or (locals_of t h) j top) ≡ true → y ≡ get_or (locals_of t h) j top → Pushed t u most h y v
      → Easy L fs t u most h o (OnLocal (Aload j)) v
  unfolding instr_claims instr_after local_claims local_after operands_fit targets_of falls_of
  loads_reference v j y q e p =
      easy_pushed L fs t u most h o (OnLocal (Aload j)) y refl refl
      (λ m F. passes _ (true-T _ (le-leb 0 (length (s t)) (omega arith)), (true-T _ q, (true-T _ (le-leb (suc (length (s t))) most (omega (arith, length-stack t (h.at + 32) h.depth))), tt))))
      (λ F. rw e) v p

  pub doubles : (v : Option Went) (y : Ty) → 1 ≤ h.depth → y ≡ operand 0 (operands_of t h) → Pushed t u most h y v → Easy L fs t u most h o (OnStack Dup) v
  unfolding instr_claims instr_after stack_claims stack_after operands_fit fits targets_of falls_of
  doubles v y n e p =
      easy_pushed L fs t u most h o (OnStack Dup) y refl refl
      (λ m F.
      passes _ (
        true-T _ (le-leb 1 (length (s t)) (omega (arith, length-stack t (h.at + 32) h.depth))),
        (
          tt,
          (true-T _ (le-leb (suc (length (s t))) most (omega (arith, length-stack t (h.at + 32) h.depth))), tt),
        ),
      ))
      (λ F. rw e) v p

  -- the room after k operands went and p came
  pub room_said : (r : Result (Unit {0}) Refusal) (p k : ℕ) → ruled number r ≡ verdict (claim 15 (leb (p + (h.depth - k)) most) ∷ []) → false ≡ is_err r → p + (h.depth - k) ≤ most
  room_said r p k a z = said r 15 (p + (h.depth - k)) most a z

  rest : (k : ℕ) → length (drop k (operands_of t h)) ≡ h.depth - k
  rest k = ap length (drop-stack k t (h.at + 32) h.depth) ∙ length-stack t (h.at + 32) (h.depth - k)

  cut-state : (d k : ℕ) (X : State) → d ≡ h.depth - k → held u h ≡ X → held u (down h d) ≡ dropped k X
  cut-state d k X e f = cut-held u h (down h d) k (record { at = refl; locals = refl; flag = refl; depth = e }) ∙ ap (dropped k) f

  pub stores_int : (j : ℕ) (r : Result (Unit {0}) Refusal) (y : Ty) → OneInt t h → ruled number r ≡ verdict (claim 15 (leb (0 + (h.depth - 1)) most) ∷ []) → false ≡ is_err r → y ≡ int
      → held u h ≡ stored j y (held t h) → Outside h.at t u → Easy L fs t u most h o (OnLocal (Istore j)) (Some (On (h.depth - 1)))
  unfolding instr_claims instr_after local_claims local_after operands_fit fits targets_of falls_of
  stores_int j r y q a z e f out =
      easy_on L fs t u most h o (OnLocal (Istore j)) refl refl (h.depth - 1)
      (λ F.
      passes _ (
        true-T _ (le-leb 1 (length (s t)) (let b = q.depth in omega (arith, length-stack t (h.at + 32) h.depth))),
        (
          true-T _ q.first,
          (true-T _ (le-leb (length (drop 1 (s t))) most (let b = room_said r 0 1 a z in omega (arith, rest 1))), tt),
        ),
      ))
      (λ F. cut-state (h.depth - 1) 1 _ refl f ∙ rw e) (omega arith) out

  pub stores_reference : (j : ℕ) (r : Result (Unit {0}) Refusal) (y : Ty) → 1 ≤ h.depth → is_reference (operand 0 (operands_of t h)) ≡ true
      → ruled number r ≡ verdict (claim 15 (leb (0 + (h.depth - 1)) most) ∷ []) → false ≡ is_err r
      → y ≡ operand 0 (operands_of t h) → held u h ≡ stored j y (held t h) → Outside h.at t u → Easy L fs t u most h o (OnLocal (Astore j)) (Some (On (h.depth - 1)))
  unfolding instr_claims instr_after local_claims local_after operands_fit fits targets_of falls_of
  stores_reference j r y n q a z e f out =
      easy_on L fs t u most h o (OnLocal (Astore j)) refl refl (h.depth - 1)
      (λ F.
      passes _ (
        true-T _ (le-leb 1 (length (s t)) (omega (arith, length-stack t (h.at + 32) h.depth))),
        (
          tt,
          (
            true-T _ q,
            (true-T _ (le-leb (length (drop 1 (s t))) most (let b = room_said r 0 1 a z in omega (arith, rest 1))), tt),
          ),
        ),
      ))
      (λ F. cut-state (h.depth - 1) 1 _ refl f ∙ rw e) (omega arith) out

  pub adds : (j k : ℕ) (r : Result (Unit {0}) Refusal) → is_int (get_or (locals_of t h) j top) ≡ true → ruled number r ≡ verdict (claim 15 (leb (0 + (h.depth - 0)) most) ∷ []) → false ≡ is_err r
      → u ≡ t → Easy L fs t u most h o (OnLocal (Iinc j k)) (Some (On h.depth))
  unfolding instr_claims instr_after local_claims local_after operands_fit targets_of falls_of
  adds j k r q a z e =
      easy_on L fs t u most h o (OnLocal (Iinc j k)) refl refl h.depth
      (λ F.
      passes _ (
        true-T _ (le-leb 0 (length (s t)) (omega arith)),
        (
          true-T _ q,
          (true-T _ (le-leb (length (s t)) most (let b = room_said r 0 0 a z in omega (arith, length-stack t (h.at + 32) h.depth))), tt),
        ),
      ))
      (λ F. rw e) (omega arith) (rw e (outside_none h.at t))

-- two ints go, one comes
module _ (t u : List ℕ) (most : ℕ) (h g : Held) (y : Ty) (r : Result (Unit {0}) Refusal) (q : TwoInts t h) (a : ruled number r ≡ verdict (claim 15 (leb (1 + (h.depth - 2)) most) ∷ [])) (z : false ≡ is_err r)
    (m : Moved h g (h.depth - 2 + 1)) (e : held u g ≡ pushed 2 y (held t h)) (f : y ≡ int) (out : Outside h.at t u) where
  numbered : (L : Program) (fs : List Frame) (o : ℕ) (i : Plain) → plain_takes i ≡ int ∷ int ∷ [] → plain_gives i ≡ int ∷ [] → Easy L fs t u most h o (Simple i) (Some (On g.depth))
  unfolding instr_claims instr_after targets_of falls_of
  numbered L fs o i ts us =
      easy_on L fs t u most h o (Simple i) refl refl g.depth
      (λ F. rw (ts, us) (form_pass L most (int ∷ int ∷ []) (int ∷ []) t h q.depth (two_fit L t h q) (said r 15 (1 + (h.depth - 2)) most a z)))
      (λ F. ap (held u) place ∙ e ∙ rw (ts, us, f)) (let b = m.depth in omega arith) out
    where
      place : down h g.depth ≡ g
      place = rw (← m.at, ← m.locals, ← m.flag)

  pub numbers_on : Numbers t u most h (Some (On g.depth))
  unfolding plain_takes plain_gives
  numbers_on = record { by = λ L fs o k. numbered L fs o (Ibin k) refl refl; divided = λ L fs o k. numbered L fs o (Idiv k) refl refl }

pub numbers_none : (t : List ℕ) (most : ℕ) (h : Held) → Numbers t t most h None
numbers_none t most h = record { by = λ L fs o k. easy_none L fs t most h o (Simple (Ibin k)); divided = λ L fs o k. easy_none L fs t most h o (Simple (Idiv k)) }

-- ---- branches: k operands went, and the rest fits the frame of the target
pub record Goes (t : List ℕ) (kin : Kin) (f : Rows) (most : ℕ) (h : Held) (k p : ℕ) (v : Option Went) : Type 0 where
  pub room : Did v (h.depth - k ≤ most)
  pub into : Did v (pass ≡ verdict (into_frame (lineage t kin.at kin.count) (dropped k (held t h)) (frame_at (frames_of t f) p)))
  pub depth : OnWent v (λ d. d ≡ h.depth - k)
  pub on : OffWent v ⊥

pub goes_none : (t : List ℕ) (kin : Kin) (f : Rows) (most : ℕ) (h : Held) (k p : ℕ) → Goes t kin f most h k p None
goes_none t kin f most h k p = record { room = tt; into = tt; depth = tt; on = tt }

-- a ruling of what did not fail
pub passed : (r : Result (Unit {0}) Refusal) (cs : List (Claim ℕ)) → ruled number r ≡ verdict cs → false ≡ is_err r → pass ≡ verdict cs
passed (Ok u) cs h z = h
passed (Err e) cs h z = absurd (not_so z)

pub goes_on : (t : List ℕ) (kin : Kin) (f : Rows) (most : ℕ) (h g : Held) (k p : ℕ) (r a : Result (Unit {0}) Refusal) → ruled number r ≡ verdict (claim 15 (leb (0 + (h.depth - k)) most) ∷ [])
    → false ≡ is_err r → Moved h g (h.depth - k) → ruled number a ≡ verdict (into_frame (lineage t kin.at kin.count) (held t g) (frame_at (frames_of t f) p)) → false ≡ is_err a
    → Goes t kin f most h k p (Some (On g.depth))
goes_on t kin f most h g k p r a e z m i y = record {
  room = let b = said r 15 (0 + (h.depth - k)) most e z in omega arith;
  into = passed a _ i y ∙ ap (λ (X : State). verdict (into_frame (lineage t kin.at kin.count) X (frame_at (frames_of t f) p))) (cut-held t h g k m);
  depth = m.depth;
  on = tt;
}

abbrev pub Tests : List ℕ → Kin → Rows → ℕ → Held → ℕ → Option Went → Type 0
Tests t kin f most h p v = (o : ℕ) (k : Test) → Easy (lineage t kin.at kin.count) (frames_of t f) t t most h o (Jump (Ifint k p)) v

abbrev pub Compares : List ℕ → Kin → Rows → ℕ → Held → ℕ → Option Went → Type 0
Compares t kin f most h p v = (o : ℕ) (k : Test) → Easy (lineage t kin.at kin.count) (frames_of t f) t t most h o (Jump (Ificmp k p)) v

abbrev pub Away : List ℕ → Kin → Rows → ℕ → Held → ℕ → Option Went → Type 0
Away t kin f most h p v = (o : ℕ) → Easy (lineage t kin.at kin.count) (frames_of t f) t t most h o (Jump (Goto p)) v

module _ (t : List ℕ) (kin : Kin) (f : Rows) (most : ℕ) (h : Held) (p : ℕ) where
  abbrev L : Program
  L = lineage t kin.at kin.count

  abbrev fs : List Frame
  fs = frames_of t f

  module _ (k : ℕ) (ts : List Ty) (b : Branch) (o : ℕ) (e : branch_takes b ≡ ts) (n : length ts ≡ k) (m : k ≤ h.depth) (fit : verdict (operands_fit L 0 ts (operands_of t h)) ≡ pass)
      (q : p ∷ [] ≡ targets (branch_of b)) where
    asked_of : h.depth - k ≤ most → (F : Facts) → pass ≡ verdict (instr_claims L most F o (Jump b) (held t h))
    unfolding instr_claims
    asked_of a F = rw e (form_pass L most ts [] t h (omega arith) fit (omega arith))

    led : pass ≡ verdict (into_frame L (dropped k (held t h)) (frame_at fs p)) → (F : Facts) → pass ≡ verdict (branch_claims L fs (instr_after F o (Jump b) (held t h)) (targets_of (Jump b)))
    unfolding instr_after
    led i F =
        jump_branch L fs (instr_after F o (Jump b) (held t h)) pass (Jump b) b p p refl
        (i ∙ ap (λ (j : ℕ). verdict (into_frame L (dropped j (held t h)) (frame_at fs p))) (sym n ∙ ap length (sym e))) refl q

    pub jumped : true ≡ falls (branch_of b) → (v : Option Went) → Goes t kin f most h k p v → Easy L fs t t most h o (Jump b) v
    unfolding instr_after falls_of
    jumped d None g = easy_none L fs t most h o (Jump b)
    jumped d (Some (On c)) g = record {
      asks = asked_of g.room;
      jumps = led g.into;
      after = λ F. cut-held t h (down h c) k (record { at = refl; locals = refl; flag = refl; depth = g.depth }) ∙ rw (e, n);
      falls = d;
      stays = tt;
      depth = let a = g.depth in omega arith;
      kept = tt;
      outside = outside_none h.at t;
    }
    jumped d (Some Off) g = absurd g.on

    -- whatever control went on with, it went away
    pub away : false ≡ falls (branch_of b) → (g : Went) → Goes t kin f most h k p (Some g) → Easy L fs t t most h o (Jump b) (Some Off)
    unfolding falls_of
    away d g w = record { asks = asked_of w.room; jumps = led w.into; after = tt; falls = tt; stays = d; depth = tt; kept = tt; outside = outside_none h.at t }

  pub tests_on : (v : Option Went) → OneInt t h → Goes t kin f most h 1 p v → Tests t kin f most h p v
  unfolding branch_takes
  tests_on v q g o k = jumped 1 (int ∷ []) (Ifint k p) o refl refl q.depth (one-fits L t h q) refl refl v g

  pub compares_on : (v : Option Went) → TwoInts t h → Goes t kin f most h 2 p v → Compares t kin f most h p v
  unfolding branch_takes
  compares_on v q g o k = jumped 2 (int ∷ int ∷ []) (Ificmp k p) o refl refl q.depth (two_fit L t h q) refl refl v g

  pub away_on : (g : Went) → Goes t kin f most h 0 p (Some g) → Away t kin f most h p (Some Off)
  unfolding branch_takes
  away_on g w o = away 0 [] (Goto p) o refl refl (omega arith) (none_fits L t h) refl refl g w

-- ---- a line of the walk
-- a state is at hand that has met what stands at the offset, and the handlers ask nothing that fails
pub record Open (s t : List ℕ) (x : Site) (kin : Kin) (f : Rows) (h : Held) (o : ℕ) : Type 0 where
  pub walking : Walking s t x kin f h
  pub entered : Entered t f h o
  pub handled : pass ≡ verdict (handlers_by (lineage t kin.at kin.count) (catch_in t x.class (first_class + x.classes)) (frames_of t f) o h.flag (locals_of t h) (handlers_from s x.entries x.table))

-- opcodes that leave the locals as they are, of those without a name
unfoldable pub steady : ℕ → Bool
steady op = cond (ltb op 0x12) true (cond (ltb op 0x15) false (cond (ltb op 0x36) true (cond (ltb op 0x57) false (ltb op 0xa8))))

-- as the code tests it
module _ (op : ℕ) where
  pub steady_constant : op < 0x12 → true ≡ steady op
  unfolding steady
  steady_constant a = sym (rw (lt-ltb op 0x12 a))

  module _ (a : 0x12 ≤ op) where
    pub steady-named : op < 0x15 → false ≡ steady op
    unfolding steady
    steady-named b = sym (rw (le-ltb op 0x12 a, lt-ltb op 0x15 b))

    module _ (b : 0x15 ≤ op) where
      pub steady-load : op < 0x36 → true ≡ steady op
      unfolding steady
      steady-load c = sym (rw (le-ltb op 0x12 a, le-ltb op 0x15 b, lt-ltb op 0x36 c))

      module _ (c : 0x36 ≤ op) where
        pub steady-store : op < 0x57 → false ≡ steady op
        unfolding steady
        steady-store d = sym (rw (le-ltb op 0x12 a, le-ltb op 0x15 b, le-ltb op 0x36 c, lt-ltb op 0x57 d))

        pub steady-rest : 0x57 ≤ op → ltb op 0xa8 ≡ steady op
        unfolding steady
        steady-rest d = sym (rw (le-ltb op 0x12 a, le-ltb op 0x15 b, le-ltb op 0x36 c, le-ltb op 0x57 d))

-- instructions that do
abbrev local_keeps : Local → Bool
local_keeps (Iload j) = true
local_keeps (Aload j) = true
local_keeps (Istore j) = false
local_keeps (Astore j) = false
local_keeps (Iinc j k) = true

abbrev pub keeps : code.Instr → Bool
keeps (Simple i) = true
keeps (Jump i) = true
keeps (OnLocal i) = local_keeps i
keeps (OnStack i) = true
keeps (Leaving i) = false
keeps (New c) = false
keeps (Calling c) = false
keeps Illegal = false
keeps Unresolved = false

abbrev locals_in : State → List Ty
locals_in (state g l s) = l

local_kept : (i : Local) (S : State) → local_keeps i ≡ true → locals_in (local_after i S) ≡ locals_in S
unfolding local_after
local_kept (Iload j) (state g l s) e = refl
local_kept (Aload j) (state g l s) e = refl
local_kept (Istore j) (state g l s) e = absurd (not_so e)
local_kept (Astore j) (state g l s) e = absurd (not_so e)
local_kept (Iinc j k) (state g l s) e = refl

stack_kept : (i : Stack) (S : State) → locals_in (stack_after i S) ≡ locals_in S
unfolding stack_after
stack_kept Dup (state g l s) = refl
stack_kept Dupx1 (state g l s) = refl
stack_kept Swap (state g l s) = refl
stack_kept Arraylength (state g l s) = refl
stack_kept Aaload (state g l s) = refl

locals_kept : (F : Facts) (o : ℕ) (i : code.Instr) (S : State) → keeps i ≡ true → locals_in (instr_after F o i S) ≡ locals_in S
unfolding instr_after
locals_kept F o (Simple i) (state g l s) e = refl
locals_kept F o (Jump i) (state g l s) e = refl
locals_kept F o (OnLocal i) S e = local_kept i S e
locals_kept F o (OnStack i) S e = stack_kept i S
locals_kept F o (Leaving i) S e = absurd (not_so e)
locals_kept F o (New c) S e = absurd (not_so e)
locals_kept F o (Calling c) S e = absurd (not_so e)
locals_kept F o Illegal S e = absurd (not_so e)
locals_kept F o Unresolved S e = absurd (not_so e)

pub record Tried (s t u : List ℕ) (x : Site) (f : Rows) (live : Bool) (h : Held) (o : ℕ) (v : Option Went) : Type 0 where
  pub on : OnWent v (λ d. LineDone s t u x f live h o (Ok (record { live = true; held = down h d })))
  pub off : OffWent v (LineDone s t u x f live h o (Ok (record { live = false; held = h })))
  pub kept : Undone v (u ≡ t)
  pub same : OnWent v (λ d. steady (get_or (site_code s x) o 0) ≡ true → locals_of u h ≡ locals_of t h)

pub tried_none : (s t : List ℕ) (x : Site) (f : Rows) (live : Bool) (h : Held) (o : ℕ) (v : Option Went) → v ≡ None → Tried s t t x f live h o v
tried_none s t x f live h o v e = subst (λ (w : Option Went). Tried s t t x f live h o w) (sym e) (record { on = tt; off = tt; kept = refl; same = tt })

-- the turn, with the state's place as it was made
pub tried_on : (s t u : List ℕ) (x : Site) (f : Rows) (live : Bool) (h : Held) (o d : ℕ) → Tried s t u x f live h o (Some (On d)) → (q : Held) → q ≡ down h d
    → LineDone s t u x f live h o (Ok (record { live = true; held = q }))
tried_on s t u x f live h o d g q e = rw e g.on

abbrev pub calls : code.Instr → Bool
calls (Simple i) = false
calls (Jump i) = false
calls (OnLocal i) = false
calls (OnStack i) = false
calls (Leaving i) = false
calls (New c) = false
calls (Calling c) = true
calls Illegal = false
calls Unresolved = false

-- what this method returns is all that is known of it
abbrev pub own_facts : Method → Facts
own_facts M = record { results = M.results; params = []; gives = []; own = M.owner; made = 0 }

pub own_told : (P : Program) (M : Method) (i : code.Instr) (s : List Ty) → calls i ≡ false → Told P M (own_facts M) s i
own_told P M i s plain = record { results = refl; own = refl; call = λ c q. absurd (not_so (sym plain ∙ ap calls q)) }

module _ (s t u : List ℕ) (x : Site) (kin : Kin) (f : Rows) (h : Held) (o : ℕ) (i : code.Instr) (apt : Open s t x kin f h o)
    (d : DecodedAt s t x.class (site_code s x) o i) (hide : hides i ≡ false) where
  w : Walking s t x kin f h
  w = apt.walking

  abbrev Q : Program
  Q = lineage t kin.at kin.count

  -- the operands pass, and so does what the targets ask
  abbrev pub Asked : Facts → Type 0
  Asked F = pass ≡ verdict (instr_claims Q x.stack F o i (held t h))

  abbrev pub Led : Facts → Type 0
  Led F = pass ≡ verdict (branch_claims Q (frames_of t f) (instr_after F o i (held t h)) (targets_of i))

  unseen : (F : Facts) → pass ≡ verdict (handlers_by Q (catch_in t x.class (first_class + x.classes)) (frames_of t f) o h.flag (veil (hides i) (key_of (operand (length F.params) (operands_of t h))) (locals_of t h)) (handlers_from s x.entries x.table))
  unseen F =
      apt.handled
      ∙ ap (λ (l : List Ty). verdict (handlers_by Q (catch_in t x.class (first_class + x.classes)) (frames_of t f) o h.flag l (handlers_from s x.entries x.table)))
      (sym (ap (λ (b : Bool). veil b (key_of (operand (length F.params) (operands_of t h))) (locals_of t h)) hide ∙ veil_no (key_of (operand (length F.params) (operands_of t h))) (locals_of t h)))

  step : (F : Facts) → Asked F → Led F → pass ≡ verdict (step_by (lineage t 25728 (first_class + x.classes)) (catch_in t x.class (first_class + x.classes)) (frames_of t f) (handlers_from s x.entries x.table) x.stack F o i (held t h))
  step F a b =
      step_jump Q (catch_in t x.class (first_class + x.classes)) (frames_of t f) (handlers_from s x.entries x.table) x.stack F o i (held t h) a pass (unseen F) b
      ∙ ap (λ (c : ℕ). verdict (step_by (lineage t c kin.count) (catch_in t x.class (first_class + x.classes)) (frames_of t f) (handlers_from s x.entries x.table) x.stack F o i (held t h))) w.kin_at
      ∙ ap (λ (c : ℕ). verdict (step_by (lineage t 25728 c) (catch_in t x.class (first_class + x.classes)) (frames_of t f) (handlers_from s x.entries x.table) x.stack F o i (held t h))) w.kin_count

  module _ (P : Program) (M : Method) (dt : Sited s t P M x) (one : x.codes ≡ 1) where
    made_is : instr_of i ≡ instruction P M o
    made_is = decoded s t P M x dt o i one d

    line-claims : verdict (instruction_claims P M (frames_of t f) o (instruction P M o) (held t h)) ≡ verdict (line_claims P M t f o (current true (held t h)))
    line-claims = claims_left P M t f o (some (held t h)) (held t h) apt.entered.same (apt.entered.met P)

    line_left : (X : Maybe State) → X ≡ cond (falls (instruction P M o)) (some (rule P M o (instruction P M o) (held t h)).after) none → X ≡ line_after P M t f o (current true (held t h))
    line_left X q = q ∙ after_left P M t f o (some (held t h)) (held t h) apt.entered.same

    pub line_away : false ≡ falls_of i → current false (held u h) ≡ line_after P M t f o (current true (held t h))
    line_away e =
        line_left (current false (held u h))
        (ap (λ (b : Bool). cond b (some (rule P M o (instruction P M o) (held t h)).after) none) (e ∙ falls_of_lem i ∙ ap falls made_is))

    module _ (F : Facts) (told : Told P M F (operands_of t h) i) where
      pub line-says : Asked F → Led F → pass ≡ verdict (line_claims P M t f o (current true (held t h)))
      unfolding site_body
      line-says a b =
          step F a b
          ∙ step_known P M t 25728 (first_class + x.classes) dt.parents (catch_in t x.class (first_class + x.classes)) (frames_of t f) (handlers_from s x.entries x.table) x.stack F o i
          (catch_is s t P M x dt) (sym (ap (λ (b : Body). b.table) (one_body s t P M x dt one))) (sym (ap (λ (b : Body). b.max_stack) (one_body s t P M x dt one))) (held t h) told
          ∙ ap (λ (j : Instr). verdict (instruction_claims P M (frames_of t f) o j (held t h))) made_is
          ∙ line-claims

      pub line_on : (d : ℕ) → true ≡ falls_of i → held u (down h d) ≡ instr_after F o i (held t h) → current true (held u (down h d)) ≡ line_after P M t f o (current true (held t h))
      line_on d e a =
          line_left (current true (held u (down h d)))
          (ap (λ (b : Bool). current b (held u (down h d))) (e ∙ falls_of_lem i ∙ ap falls made_is)
          ∙ ap (λ (T : State). current (falls (instruction P M o)) T)
          (left_known P M t 25728 (first_class + x.classes) dt.parents F o i h.flag (locals_of t h) (operands_of t h) told (held u (down h d)) a
          ∙ ap (λ (j : Instr). (rule P M o j (held t h)).after) made_is))

  some_facts : Facts
  some_facts = record { results = []; params = []; gives = []; own = 0; made = 0 }

  module _ (plain : calls i ≡ false) (k : steady (get_or (site_code s x) o 0) ≡ true → keeps i ≡ true) where
    pub tried_easy : (v : Option Went) → Easy (lineage t kin.at kin.count) (frames_of t f) t u x.stack h o i v → Tried s t u x f true h o v
    tried_easy None e = record { on = tt; off = tt; kept = e.kept; same = tt }
    tried_easy (Some (On d)) e = record {
      on = record {
        says = λ P M dt yt one. line-says P M dt one (own_facts M) (own_told P M i (operands_of t h) plain) (e.asks (own_facts M)) (e.jumps (own_facts M));
        leaves = λ P M dt yt one. line_on P M dt one (own_facts M) (own_told P M i (operands_of t h) plain) d e.falls (e.after (own_facts M));
        going =
            going_on Q x.stack some_facts o i (held t h) (e.asks some_facts) w.bounded.stack h (down h d) u (record { at = refl; locals = refl; depth = e.depth }) (e.after some_facts);
        front = outside_front t u h.at w.at e.outside;
      };
      off = tt;
      kept = tt;
      same = λ q. ap locals_in (e.after some_facts) ∙ locals_kept some_facts o i (held t h) (k q);
    }
    tried_easy (Some Off) e = record {
      on = tt;
      off = record {
        says = λ P M dt yt one. line-says P M dt one (own_facts M) (own_told P M i (operands_of t h) plain) (e.asks (own_facts M)) (e.jumps (own_facts M));
        leaves = λ P M dt yt one. line_away P M dt one e.stays;
        going = going_same h w.depth;
        front = outside_front t u h.at w.at e.outside;
      };
      kept = tt;
      same = tt;
    }

-- by its opcode
abbrev pub target_at : List ℕ → ℕ → ℕ
target_at bytes o = (o + (get_or bytes (o + 1) 0 * 256 + get_or bytes (o + 2) 0)) % 2 ^ 16

module _ (s t u : List ℕ) (x : Site) (kin : Kin) (f : Rows) (h : Held) (o : ℕ) (v : Option Went) (bytes : List ℕ) (apt : Open s t x kin f h o) (same : bytes ≡ site_code s x) where
  pub tried_arm : (op k : ℕ) → op ≡ get_or bytes o 0 → op ≡ k → (i : code.Instr) → calls i ≡ false → hides i ≡ false → cond (steady k) (keeps i) true ≡ true
      → ((P : Program) (pool : ℕ → Resolved) → instr_of i ≡ made P pool k (get_or bytes (o + 1) 0) (get_or bytes (o + 2) 0) o)
      → Easy (lineage t kin.at kin.count) (frames_of t f) t u x.stack h o i v → Tried s t u x f true h o v
  tried_arm op k a b i plain hide l m e =
      tried_easy s t u x kin f h o i apt
      (subst (λ (l : List ℕ). DecodedAt s t x.class l o i) same
      (record { is = λ P g. m P (resolved_in s t x.class) ∙ ap (λ (j : ℕ). made P (resolved_in s t x.class) j (get_or bytes (o + 1) 0) (get_or bytes (o + 2) 0) o) (sym b ∙ a) }))
      hide plain (λ q. sym (ap (λ (c : Bool). cond c (keeps i) true) (ap steady (sym b ∙ a ∙ ap (λ (l : List ℕ). get_or l o 0) same) ∙ q)) ∙ l) v e

-- ---- the handlers
pub calm_ready : (s t : List ℕ) (x : Site) (kin : Kin) (f : Rows) (h : Held) → Walking s t x kin f h
    → (x.classes ≤ 16) × Laid t f × Placed t h × (x.table ≤ 2 ^ 63) × (x.entries ≤ 32)
calm_ready s t x kin f h w =
    let r = walking_roomy s t x kin f h w in let b = w.bounded.table in let i = r.inside in
    (w.bounded.classes, w.laid, record { inside = omega arith; locals = r.locals; depth = r.depth }, omega arith, w.bounded.entries)
