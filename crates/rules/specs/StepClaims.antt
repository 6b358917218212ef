-- All that is asked of one instruction, as the code follows it: operands, handlers, branches; and that it is the meaning's. Assumes nothing.
use Rattle.std.specs.Prelude.{◌≡◌, Bool, true, false, leb, length}
use Rattle.std.proofs.Common.{◌∙◌, arith, leb-true, ℕ, zero, suc, ◌+◌, ◌*◌, ◌%◌, ◌<◌, ◌≤◌, List, [], ◌∷◌, ◌++◌, append-nil, refl, sym, ap}
use Rattle.kit.specs.Bools.{T_true}
use Rattle.kit.specs.Words.{word}
use Rattle.kit.specs.Claims.{Claim, claim, Ruling, pass, fail, verdict, then, verdict-append, pass_then, fail_then, none_claimed, pass_all, all_split}
use Rattle.classfiles.specs.Members.{Handler}
use Rattle.reader.specs.Program.{Program, Method}
use Rattle.rules.specs.Instruction.{targets, falls}
use Rattle.rules.specs.Shape.{catch_class}
use Rattle.rules.specs.Opcodes.{body}
use Rattle.rules.specs.Types.{Ty}
use Rattle.rules.specs.States.{State, state, stack, flag, operand}
use Rattle.rules.specs.Frames.{Frame}
use Rattle.rules.specs.Rule.{Rule, rule, key_of}
use Rattle.rules.specs.Walk.{frame_at, into_frame, operands_fit, operand_claims, handlers_claims, branch_claims, instruction_claims}
use Rattle.rules.specs.InstructionWords.{plain_of, branch_of, local_of, stack_of, leave_of, call_of, instr_of}
use Rattle.rules.specs.Ancestry.{lineage, children_at, Parents}
use Rattle.rules.specs.Slots.{stack_at, locals_at, held, veil}
use Rattle.rules.specs.SlotLaws.{length-stack, locals_same, stack_same, slot-word}
use Rattle.rules.specs.Forms.{Kept}
use Rattle.rules.specs.FrameRows.{frames_at, frames_of, row_held, offset_at, Laid}
use Rattle.rules.specs.Handlers.{handlers_by, handlers_lineage, branches_lineage}
use Rattle.rules.specs.Known.{Facts, instr_claims, instr_after, instr_rule, hides}
use Rattle.rules.specs.KnownLaws.{Told, claims_known, after_known, left_known, seen_known, verdict_known}
use Rattle.rules.specs.declared.slots.Held.{Held}
use Rattle.rules.specs.declared.frames.Rows.{Rows}
use Rattle.rules.specs.declared.instruction.Plain.{Plain}
use Rattle.rules.specs.declared.instruction.Plain.TheVariants.{Nop, Aconstnull, Pop, Ineg, Iaload, Iastore, Aastore, Iconst, Ibin, Idiv, Newarray, Checkcast, Instanceof, Getfield, Putfield}
use Rattle.rules.specs.declared.instruction.Branch.{Branch}
use Rattle.rules.specs.declared.instruction.Local.{Local}
use Rattle.rules.specs.declared.instruction.Local.TheVariants.{Iload, Aload, Istore, Astore, Iinc}
use Rattle.rules.specs.declared.instruction.Stack.{Stack}
use Rattle.rules.specs.declared.instruction.Stack.TheVariants.{Dup, Dupx1, Swap, Arraylength, Aaload}
use Rattle.rules.specs.declared.instruction.Leave.{Leave}
use Rattle.rules.specs.declared.instruction.Leave.TheVariants.{Athrow, Ireturn, Areturn, Return}
use Rattle.rules.specs.declared.instruction.Call.{Call}
use Rattle.rules.specs.declared.instruction.Call.TheVariants.{Virtual, Special, Static}
use Rattle.rules.specs.declared.instruction.Instr as code
use Rattle.rules.specs.declared.instruction.Instr.TheVariants.{Simple, Jump, OnLocal, OnStack, Leaving, New, Calling, Illegal, Unresolved}

-- ---- where control goes
plain_goes : (i : Plain) → ([] ≡ targets (plain_of i)) × (true ≡ falls (plain_of i))
plain_goes Nop = (refl, refl)
plain_goes Aconstnull = (refl, refl)
plain_goes Pop = (refl, refl)
plain_goes Ineg = (refl, refl)
plain_goes Iaload = (refl, refl)
plain_goes Iastore = (refl, refl)
plain_goes Aastore = (refl, refl)
plain_goes (Iconst v) = (refl, refl)
plain_goes (Ibin f) = (refl, refl)
plain_goes (Idiv f) = (refl, refl)
plain_goes (Newarray t) = (refl, refl)
plain_goes (Checkcast t) = (refl, refl)
plain_goes (Instanceof t) = (refl, refl)
plain_goes (Getfield f) = (refl, refl)
plain_goes (Putfield f) = (refl, refl)

local_goes : (i : Local) → ([] ≡ targets (local_of i)) × (true ≡ falls (local_of i))
local_goes (Iload j) = (refl, refl)
local_goes (Aload j) = (refl, refl)
local_goes (Istore j) = (refl, refl)
local_goes (Astore j) = (refl, refl)
local_goes (Iinc j k) = (refl, refl)

stack_goes : (i : Stack) → ([] ≡ targets (stack_of i)) × (true ≡ falls (stack_of i))
stack_goes Dup = (refl, refl)
stack_goes Dupx1 = (refl, refl)
stack_goes Swap = (refl, refl)
stack_goes Arraylength = (refl, refl)
stack_goes Aaload = (refl, refl)

leave_goes : (i : Leave) → ([] ≡ targets (leave_of i)) × (false ≡ falls (leave_of i))
leave_goes Athrow = (refl, refl)
leave_goes Ireturn = (refl, refl)
leave_goes Areturn = (refl, refl)
leave_goes Return = (refl, refl)

call_goes : (i : Call) → ([] ≡ targets (call_of i)) × (true ≡ falls (call_of i))
call_goes (Virtual m) = (refl, refl)
call_goes (Special m) = (refl, refl)
call_goes (Static m) = (refl, refl)

-- kept shut, for proofs that know the form
abbrev pub targets' : code.Instr → List ℕ
targets' (Simple i) = []
targets' (Jump i) = targets (branch_of i)
targets' (OnLocal i) = []
targets' (OnStack i) = []
targets' (Leaving i) = []
targets' (New c) = []
targets' (Calling c) = []
targets' Illegal = []
targets' Unresolved = []

abbrev pub falls' : code.Instr → Bool
falls' (Simple i) = true
falls' (Jump i) = falls (branch_of i)
falls' (OnLocal i) = true
falls' (OnStack i) = true
falls' (Leaving i) = false
falls' (New c) = true
falls' (Calling c) = true
falls' Illegal = true
falls' Unresolved = true

unfoldable pub targets_of : code.Instr → List ℕ
targets_of i = targets' i

unfoldable pub falls_of : code.Instr → Bool
falls_of i = falls' i

pub targets_of_lem : (i : code.Instr) → targets_of i ≡ targets (instr_of i)
unfolding targets_of
targets_of_lem (Simple i) = (plain_goes i).0
targets_of_lem (Jump i) = refl
targets_of_lem (OnLocal i) = (local_goes i).0
targets_of_lem (OnStack i) = (stack_goes i).0
targets_of_lem (Leaving i) = (leave_goes i).0
targets_of_lem (New c) = refl
targets_of_lem (Calling c) = (call_goes c).0
targets_of_lem Illegal = refl
targets_of_lem Unresolved = refl

pub falls_of_lem : (i : code.Instr) → falls_of i ≡ falls (instr_of i)
unfolding falls_of
falls_of_lem (Simple i) = (plain_goes i).1
falls_of_lem (Jump i) = refl
falls_of_lem (OnLocal i) = (local_goes i).1
falls_of_lem (OnStack i) = (stack_goes i).1
falls_of_lem (Leaving i) = (leave_goes i).1
falls_of_lem (New c) = refl
falls_of_lem (Calling c) = (call_goes c).1
falls_of_lem Illegal = refl
falls_of_lem Unresolved = refl

-- what a match found
pub falls_form : (q : Bool) (i i' : code.Instr) → i ≡ i' → q ≡ falls' i' → q ≡ falls_of i
unfolding falls_of
falls_form q i i' e h = rw e h

pub no_jump : (L : Program) (fs : List Frame) (S : State) → pass ≡ verdict (branch_claims L fs S [])
unfolding branch_claims
no_jump L fs S = none_claimed

module _ (L : Program) (fs : List Frame) (S : State) (R : Ruling ℕ) where
  pub jump_form : (i i' : code.Instr) → i ≡ i' → R ≡ verdict (branch_claims L fs S (targets' i')) → R ≡ verdict (branch_claims L fs S (targets_of i))
  unfolding targets_of
  jump_form i i' e h = rw e h

  one_jump : (b : Branch) (o p : ℕ) → R ≡ verdict (into_frame L S (frame_at fs o)) → o ≡ p → p ∷ [] ≡ targets (branch_of b) → R ≡ verdict (branch_claims L fs S (targets (branch_of b)))
  unfolding branch_claims
  one_jump b o p h e f =
      h ∙ ap (λ (z : ℕ). verdict (into_frame L S (frame_at fs z))) e ∙ ap (λ (cs : List (Claim ℕ)). verdict cs) (sym (append-nil (into_frame L S (frame_at fs p))))
      ∙ ap (λ (ts : List ℕ). verdict (branch_claims L fs S ts)) f

  pub jump_branch : (i : code.Instr) (b : Branch) (o p : ℕ) → i ≡ Jump b → R ≡ verdict (into_frame L S (frame_at fs o)) → o ≡ p → p ∷ [] ≡ targets (branch_of b) → R ≡ verdict (branch_claims L fs S (targets_of i))
  jump_branch i b o p e h f g = jump_form i (Jump b) e (one_jump b o p h f g)

-- ---- the whole of one instruction
module _ (L : Program) (catch_of : ℕ → ℕ) (fs : List Frame) (hs : List Handler) (most : ℕ) (F : Facts) (o : ℕ) (i : code.Instr) where
  abbrev pub seen_by : State → List Ty
  seen_by (state g l s) = veil (hides i) (key_of (operand (length F.params) s)) l

  unfoldable pub step_by : State → List (Claim ℕ)
  step_by S =
      instr_claims L most F o i S ++ (handlers_by L catch_of fs o (flag S) (seen_by S) hs ++ branch_claims L fs (instr_after F o i S) (targets_of i))

  whole : (S : State) → verdict (step_by S) ≡ then (verdict (instr_claims L most F o i S)) (then (verdict (handlers_by L catch_of fs o (flag S) (seen_by S) hs)) (verdict (branch_claims L fs (instr_after F o i S) (targets_of i))))
  unfolding step_by
  whole S =
      verdict-append (instr_claims L most F o i S) _
      ∙ ap (then (verdict (instr_claims L most F o i S))) (verdict-append (handlers_by L catch_of fs o (flag S) (seen_by S) hs) (branch_claims L fs (instr_after F o i S) (targets_of i)))

  module _ (S : State) where
    pub step_ask : (k : ℕ) → fail k ≡ verdict (instr_claims L most F o i S) → fail k ≡ verdict (step_by S)
    step_ask k p = sym (whole S ∙ fail_then _ _ k (sym p))

    module _ (p : pass ≡ verdict (instr_claims L most F o i S)) where
      pub step_hand : (k : ℕ) → fail k ≡ verdict (handlers_by L catch_of fs o (flag S) (seen_by S) hs) → fail k ≡ verdict (step_by S)
      step_hand k q = sym (whole S ∙ pass_then _ _ (sym p) ∙ fail_then _ _ k (sym q))

      pub step_jump : (R : Ruling ℕ) → pass ≡ verdict (handlers_by L catch_of fs o (flag S) (seen_by S) hs)
          → R ≡ verdict (branch_claims L fs (instr_after F o i S) (targets_of i)) → R ≡ verdict (step_by S)
      step_jump R q r = r ∙ sym (whole S ∙ pass_then _ _ (sym p) ∙ pass_then _ _ (sym q))

-- what the handlers see, by what the code found to hide
pub hand_via : (L : Program) (catch_of : ℕ → ℕ) (fs : List Frame) (hs : List Handler) (o : ℕ) (g : Bool) (l m s : List Ty) (F : Facts) (i : code.Instr) (R : Ruling ℕ) (k : ℕ)
    → R ≡ verdict (handlers_by L catch_of fs o g m hs) → m ≡ veil (hides i) (key_of (operand k s)) l → k ≡ length F.params
    → R ≡ verdict (handlers_by L catch_of fs o g (veil (hides i) (key_of (operand (length F.params) s)) l) hs)
hand_via L catch_of fs hs o g l m s F i R k h e d =
    h ∙ ap (λ (n : List Ty). verdict (handlers_by L catch_of fs o g n hs)) (e ∙ ap (λ (j : ℕ). veil (hides i) (key_of (operand j s)) l) d)

-- the stack after has room
room_after : (L : Program) (most : ℕ) (F : Facts) (o : ℕ) (i : code.Instr) (S : State) → pass ≡ verdict (instr_claims L most F o i S)
    → (T : State) → T ≡ instr_after F o i S → length (stack T) ≤ most
room_after L most F o i (state g l s) p T e =
    let R = instr_rule L F o i (state g l s) in
    let v = pass_all (operand_claims L most s R) (sym (claims_known L most F o i g l s) ∙ sym p) in
    let last : List (Claim ℕ) = claim 15 (leb (length (stack R.after)) most) ∷ [] in
    let w = (all_split R.asks last (all_split (operands_fit L 0 R.takes s) (R.asks ++ last) v.1).1).1 in
    let x : length (stack T) ≡ length (stack R.after) = ap (λ (U : State). length (stack U)) (e ∙ after_known L F o i g l s) in
    let y : length (stack R.after) ≤ most = leb-true _ _ (T_true _ w.0) in
    omega arith

-- ---- it is the meaning's
module _ (P : Program) (M : Method) (t : List ℕ) (x n : ℕ) (p : Parents P t x n) (catch_of : ℕ → ℕ) (fs : List Frame) (hs : List Handler) (most : ℕ)
    (F : Facts) (o : ℕ) (i : code.Instr) (c : (h : Handler) → catch_of h.catch ≡ catch_class P M h) (table : hs ≡ (body M).table) (stacks : most ≡ (body M).max_stack) where
  pub step_known : (S : State) → Told P M F (stack S) i → verdict (step_by (lineage t x n) catch_of fs hs most F o i S) ≡ verdict (instruction_claims P M fs o (instr_of i) S)
  unfolding instruction_claims
  step_known (state g l s) h =
      whole Q catch_of fs hs most F o i (state g l s)
      ∙ ap (λ (v : Ruling ℕ). then v (then (verdict (handlers_by Q catch_of fs o g seen hs)) (verdict (branch_claims Q fs after (targets_of i)))))
      (asked_is ∙ ap (λ (m : ℕ). verdict (operand_claims P m s R)) stacks)
      ∙ ap (then (verdict (operand_claims P (body M).max_stack s R)))
      (ap (λ (v : Ruling ℕ). then v (verdict (branch_claims Q fs after (targets_of i)))) handed ∙ ap (then (verdict (handlers_claims P M fs o g R.caught (body M).table))) jumped)
      ∙ sym (verdict-append (operand_claims P (body M).max_stack s R) _
      ∙ ap (then (verdict (operand_claims P (body M).max_stack s R))) (verdict-append (handlers_claims P M fs o g R.caught (body M).table) (branch_claims P fs R.after (targets (instr_of i)))))
    where
      Q : Program
      Q = lineage t x n

      R : Rule
      R = rule P M o (instr_of i) (state g l s)

      seen : List Ty
      seen = veil (hides i) (key_of (operand (length F.params) s)) l

      after : State
      after = instr_after F o i (state g l s)

      asked_is : verdict (instr_claims Q most F o i (state g l s)) ≡ verdict (operand_claims P most s R)
      asked_is = verdict_known P M t x n p F o i g l s h most

      handed : verdict (handlers_by Q catch_of fs o g seen hs) ≡ verdict (handlers_claims P M fs o g R.caught (body M).table)
      handed =
          ap (λ (cs : List (Claim ℕ)). verdict cs) (handlers_lineage P M t x n p catch_of fs o g seen c hs)
          ∙ ap (λ (k : List Ty). verdict (handlers_claims P M fs o g k hs)) (seen_known P M t x n p F o i g l s h)
          ∙ ap (λ (k : List Handler). verdict (handlers_claims P M fs o g R.caught k)) table

      jumped : verdict (branch_claims Q fs after (targets_of i)) ≡ verdict (branch_claims P fs R.after (targets (instr_of i)))
      jumped =
          ap (λ (cs : List (Claim ℕ)). verdict cs) (branches_lineage P M t x n p fs after (targets_of i))
          ∙ ap (λ (T : State). verdict (branch_claims P fs T (targets_of i))) (left_known P M t x n p F o i g l s h after refl)
          ∙ ap (λ (ts : List ℕ). verdict (branch_claims P fs R.after ts)) (targets_of_lem i)

-- ---- a write to the state leaves parents and frames alone
module _ (x : ℕ) (t u : List ℕ) (h : (j : ℕ) → j < x → word u j ≡ word t j) where
  children_outside : (a n : ℕ) → a + n ≤ x → children_at u a n ≡ children_at t a n
  unfolding children_at
  children_outside a zero l = refl
  children_outside a (suc n) l =
      let e : word u a ≡ word t a = h a (omega arith) in
      let f : children_at u (suc a) n ≡ children_at t (suc a) n = children_outside (suc a) n (omega arith) in
      cc

  pub lineage_outside : (a n : ℕ) → a + n ≤ x → lineage u a n ≡ lineage t a n
  unfolding lineage
  lineage_outside a n l = let e : children_at u a n ≡ children_at t a n = children_outside a n l in rw e

  row_outside : (n a : ℕ) → n ≤ 32 → a + 68 ≤ x → held u (row_held u n a) ≡ held t (row_held t n a)
  row_outside n a m l =
      let d : word u (a + 65) ≡ word t (a + 65) = h (a + 65) (omega arith) in
      let g : word u (a + 66) ≡ word t (a + 66) = h (a + 66) (omega arith) in
      let b : locals_at u a n ≡ locals_at t a n = locals_same t u a n (λ i p q. slot-word t u i (h i (omega arith))) in
      let c : stack_at u (a + 32) (word t (a + 65) % 33) ≡ stack_at t (a + 32) (word t (a + 65) % 33) =
      stack_same t u (a + 32) (word t (a + 65) % 33) (λ i p q. slot-word t u i (h i (omega arith))) in
      rw (d, g, b, c)

  frames_outside' : (n a k : ℕ) → n ≤ 32 → a + 68 * k ≤ x → frames_at u n a k ≡ frames_at t n a k
  unfolding frames_at
  frames_outside' n a zero m l = refl
  frames_outside' n a (suc k) m l =
      let e : word u (a + 64) ≡ word t (a + 64) = h (a + 64) (omega arith) in
      let f : held u (row_held u n a) ≡ held t (row_held t n a) = row_outside n a m (omega arith) in
      let g : frames_at u n (a + 68) k ≡ frames_at t n (a + 68) k = frames_outside' n (a + 68) k m (omega arith) in
      rw (e, f, g)

  pub frames_outside : (f : Rows) → f.locals ≤ 32 → f.at + 68 * f.count ≤ x → frames_of u f ≡ frames_of t f
  frames_outside f m l = frames_outside' f.locals f.at f.count m l

  -- what was asked of the state after is asked under the parents and frames before
  pub jump_outside : (R : Ruling ℕ) (a n : ℕ) (f : Rows) (S : State) (i : code.Instr) → a + n ≤ x → f.locals ≤ 32 → f.at + 68 * f.count ≤ x
      → R ≡ verdict (branch_claims (lineage u a n) (frames_of u f) S (targets_of i)) → (T : State) → S ≡ T → R ≡ verdict (branch_claims (lineage t a n) (frames_of t f) T (targets_of i))
  jump_outside R a n f S i l m k e T q =
      e ∙ ap (λ (L : Program). verdict (branch_claims L (frames_of u f) S (targets_of i))) (lineage_outside a n l)
      ∙ ap (λ (fs : List Frame). verdict (branch_claims (lineage t a n) fs S (targets_of i))) (frames_outside f m k)
      ∙ ap (λ (U : State). verdict (branch_claims (lineage t a n) (frames_of t f) U (targets_of i))) q

-- the same place, no deeper than a stack may be
pub record Going (h r : Held) : Type 0 where
  pub at : r.at ≡ h.at
  pub locals : r.locals ≡ h.locals
  pub depth : r.depth ≤ 32

pub going_same : (h : Held) → h.depth ≤ 32 → Going h h
going_same h l = record { at = refl; locals = refl; depth = l }

pub going_on : (L : Program) (most : ℕ) (F : Facts) (o : ℕ) (i : code.Instr) (S : State) → pass ≡ verdict (instr_claims L most F o i S) → most ≤ 32
    → (h r : Held) (u : List ℕ) → Kept h r → held u r ≡ instr_after F o i S → Going h r
going_on L most F o i S p l h r u k e =
    record { at = k.at; locals = k.locals; depth = omega (arith, room_after L most F o i S p (held u r) e, length-stack u (r.at + 32) r.depth) }

pub laid_outside : (x : ℕ) (t u : List ℕ) (f : Rows) → ((j : ℕ) → j < x → word u j ≡ word t j) → f.at + 68 * f.count ≤ x → length u ≡ length t → Laid t f → Laid u f
laid_outside x t u f h l e p = record {
  inside = let i = p.inside in omega arith;
  locals = p.locals;
  rising = λ i j a b.
      let y : offset_at u f i ≡ offset_at t f i = h (f.at + 68 * i + 64) (omega arith) in
      let z : offset_at u f j ≡ offset_at t f j = h (f.at + 68 * j + 64) (omega arith) in
      rw (y, z) (p.rising i j a b);
}
