-- Each instruction's rule as the code follows it is the meaning's, where what the code knows is so of the program. Assumes nothing.
use Rattle.std.specs.Prelude.{ℕ, suc, ◌+◌, ◌-◌, ◌/◌, ◌%◌, ◌<◌, ◌≤◌, ◌≡◌, Bool, true, eqb, leb, length, drop}
use Rattle.std.proofs.Common.{sym, ◌∙◌, arith, eq-eqb, ne_eqb, length-append, List, [], ◌∷◌, ◌++◌, append-nil, refl, ap, false}
use Rattle.std.proofs.Math.Dec.{leb-zero}
use Rattle.kit.specs.Claims.{Claim, claim, Ruling, verdict, then, verdict_yes, verdict_no}
use Rattle.classfiles.specs.Descriptors.{cls, Desc}
use Rattle.reader.specs.Program.{Program, Method, class}
use Rattle.rules.specs.Instruction.{MethodRef, invokespecial}
use Rattle.rules.specs.Resolve.{found}
use Rattle.rules.specs.Lines.{new_class_at}
use Rattle.rules.specs.Types.{Key, at, self, Ty, top, int, null, ini, uninit, tys_of, fits}
use Rattle.rules.specs.States.{State, state, stack, operand, replace_all}
use Rattle.rules.specs.Rule.{Rule, rule, key_of, key_ok, init_ok, key_class, initialised, arguments, constructing}
use Rattle.rules.specs.Walk.{operands_fit, operand_claims}
use Rattle.rules.specs.InstructionWords.{callee_of, call_of, instr_of}
use Rattle.rules.specs.TypeWords.{type_of}
use Rattle.rules.specs.TypeLaws.{of_type, at_kind, kinds, type-uninit, type_this}
use Rattle.rules.specs.Ancestry.{lineage, Parents, parented, fits-lineage}
use Rattle.rules.specs.Slots.{stack_at, locals_at, held, Moved, Outside, dropped, all_swapped, veil}
use Rattle.rules.specs.SlotLaws.{length-stack, drop-stack, stack_none, cut-held, veil_no, veil_yes}
use Rattle.rules.specs.Forms.{asked, turned, Kept, form_claims, plain-rule, branch-rule}
use Rattle.rules.specs.Groups.{local_rule, local_claims, local_after, stack_rule, stack_claims, stack_after, leave_rule, leave_claims, new_claims, new_after, local-rule, stack-rule, leave-rule, new-rule}
use Rattle.rules.specs.GroupLaws.{claims_of, own_claims}
use Rattle.rules.specs.CallLaws.{virtual_rule, static-rule}
use Rattle.rules.specs.Known.{Facts, key_fits, init_fits, made_class, readied, special_rule, special_claims, special_after, emptied, callee_in, virtual_takes, call_rule, call_claims', call_after', call_claims, call_after, instr_rule, instr_claims', instr_after', instr_claims, instr_after, call_hides, hides', hides}
use Rattle.rules.specs.declared.slots.Held.{Held}
use Rattle.rules.specs.declared.instruction.Callee.{Callee}
use Rattle.rules.specs.declared.instruction.Call.{Call}
use Rattle.rules.specs.declared.instruction.Call.TheVariants.{Virtual, Special, Static}
use Rattle.rules.specs.declared.instruction.Local.{Local}
use Rattle.rules.specs.declared.instruction.Local.TheVariants.{Iload, Aload, Istore, Astore, Iinc}
use Rattle.rules.specs.declared.instruction.Stack.{Stack}
use Rattle.rules.specs.declared.instruction.Stack.TheVariants.{Dup, Dupx1, Swap, Arraylength, Aaload}
use Rattle.rules.specs.declared.instruction.Leave.{Leave}
use Rattle.rules.specs.declared.instruction.Leave.TheVariants.{Athrow, Ireturn, Areturn, Return}
use Rattle.rules.specs.declared.instruction.Instr as code
use Rattle.rules.specs.declared.instruction.Instr.TheVariants.{Simple, Jump, OnLocal, OnStack, Leaving, New, Calling, Illegal, Unresolved}

-- what is known of a call is so: its parameters, what it gives back, and the class of the new that made the receiver
pub record CallTold (P : Program) (M : Method) (F : Facts) (s : List Ty) (m : MethodRef) : Type 0 where
  pub params : F.params ≡ arguments (found P m)
  pub gives : F.gives ≡ tys_of (found P m).results
  pub made : (x : ℕ) → key_of (operand (length F.params) s) ≡ at x → F.made ≡ new_class_at P M x

pub record Told (P : Program) (M : Method) (F : Facts) (s : List Ty) (i : code.Instr) : Type 0 where
  pub results : F.results ≡ M.results
  pub own : F.own ≡ M.owner
  pub call : (c : Call) → i ≡ Calling c → CallTold P M F s (callee_of (callee_in c))

module _ (P L : Program) (M : Method) (F : Facts) (parents : (c : ℕ) → (class L c).parent ≡ (class P c).parent) where
  -- ---- a constructor's call
  key_fits_lem : F.own ≡ M.owner → (c : ℕ) (k : Key) → ((x : ℕ) → k ≡ at x → F.made ≡ new_class_at P M x) → key_ok P M c k ≡ key_fits L F c k
  key_fits_lem e c (at x) h = rw (h x refl)
  key_fits_lem e c self h = rw (e, parents M.owner)

  init-fits : F.own ≡ M.owner → (c : ℕ) (t : Ty) → ((x : ℕ) → key_of t ≡ at x → F.made ≡ new_class_at P M x) → init_ok P M c t ≡ init_fits L F c t
  init-fits e c top h = refl
  init-fits e c int h = refl
  init-fits e c null h = refl
  init-fits e c (ini r) h = refl
  init-fits e c (uninit k) h = key_fits_lem e c k h

  key-class : F.own ≡ M.owner → (k : Key) → ((x : ℕ) → k ≡ at x → F.made ≡ new_class_at P M x) → key_class P M k ≡ made_class F k
  key-class e (at x) h = sym (h x refl)
  key-class e self h = sym e

  init-after : F.own ≡ M.owner → (k : Key) (S : State) → ((x : ℕ) → k ≡ at x → F.made ≡ new_class_at P M x) → initialised P M k S ≡ readied F k S
  init-after e k (state g l s) h = rw (key-class e k h)

  special-rule : F.own ≡ M.owner → (m : MethodRef) (g : Bool) (l s : List Ty) → CallTold P M F s m
      → constructing P M m (arguments (found P m)) (state g l s) ≡ special_rule L F m.named (state g l s)
  unfolding constructing
  special-rule e m g l s h =
      rw (← h.params, init-fits e m.named (operand (length F.params) s) h.made, init-after e (key_of (operand (length F.params) s)) (state g l (drop (suc (length F.params)) s)) h.made)

  special_is : (o : ℕ) (m : MethodRef) (S : State) → rule P M o (invokespecial m) S ≡ constructing P M m (arguments (found P m)) S
  unfolding rule
  special_is o m S = refl

  call-rule : (o : ℕ) (c : Call) (g : Bool) (l s : List Ty) → F.own ≡ M.owner → CallTold P M F s (callee_of (callee_in c)) → rule P M o (call_of c) (state g l s) ≡ call_rule L F c (state g l s)
  call-rule o (Virtual m) g l s e h = virtual_rule P M o (callee_of m) (state g l s) ∙ rw (h.params, h.gives)
  call-rule o (Special m) g l s e h = special_is o (callee_of m) (state g l s) ∙ special-rule e (callee_of m) g l s h
  call-rule o (Static m) g l s e h = static-rule P M o (callee_of m) (state g l s) ∙ rw (h.params, h.gives, append-nil (arguments (found P (callee_of m))))

  pub rule_known : (o : ℕ) (i : code.Instr) (g : Bool) (l s : List Ty) → Told P M F s i → rule P M o (instr_of i) (state g l s) ≡ instr_rule L F o i (state g l s)
  unfolding rule
  rule_known o (Simple i) g l s h = plain-rule P M o i (state g l s)
  rule_known o (Jump i) g l s h = branch-rule P M o i (state g l s)
  rule_known o (OnLocal i) g l s h = local-rule P M o i (state g l s)
  rule_known o (OnStack i) g l s h = stack-rule P M o i (state g l s)
  rule_known o (Leaving i) g l s h = leave-rule P M o i (state g l s) ∙ ap (λ (ds : List Desc). leave_rule ds i (state g l s)) (sym h.results)
  rule_known o (New c) g l s h = new-rule P M o c (state g l s)
  rule_known o (Calling c) g l s h = call-rule o c g l s h.own (h.call c refl)
  rule_known o Illegal g l s h = refl
  rule_known o Unresolved g l s h = refl

-- ---- the claims and the state after, by the code's groups
module _ (L : Program) (most : ℕ) (F : Facts) where
  call-claims : (c : Call) (S : State) → call_claims L most F c S ≡ operand_claims L most (stack S) (call_rule L F c S)
  unfolding call_claims form_claims special_claims
  call-claims (Virtual m) S = refl
  call-claims (Special m) S = refl
  call-claims (Static m) S = refl

  refused : (n : ℕ) (s : List Ty) (cs : List (Claim ℕ)) → verdict {K = ℕ} (claim n false ∷ []) ≡ verdict {K = ℕ} (claim 15 (leb 0 (length s)) ∷ claim n false ∷ cs)
  refused n s cs = verdict_no n false [] refl ∙ sym (verdict_yes 15 (leb 0 (length s)) (claim n false ∷ cs) (leb-zero (length s)) ∙ verdict_no n false cs refl)

  pub claims_known : (o : ℕ) (i : code.Instr) (g : Bool) (l s : List Ty)
      → verdict (instr_claims L most F o i (state g l s)) ≡ verdict (operand_claims L most s (instr_rule L F o i (state g l s)))
  unfolding instr_claims form_claims local_claims stack_claims leave_claims new_claims operands_fit
  claims_known o (Simple i) g l s = refl
  claims_known o (Jump i) g l s = refl
  claims_known o (OnLocal i) g l s = refl
  claims_known o (OnStack i) g l s = refl
  claims_known o (Leaving i) g l s = refl
  claims_known o (New c) g l s = refl
  claims_known o (Calling c) g l s = ap (λ (cs : List (Claim ℕ)). verdict cs) (call-claims c (state g l s))
  claims_known o Illegal g l s = refused 11 s _
  claims_known o Unresolved g l s = refused 13 s _

module _ (L : Program) (F : Facts) where
  call-after : (c : Call) (g : Bool) (l s : List Ty) → call_after F c (state g l s) ≡ (call_rule L F c (state g l s)).after
  unfolding call_after special_after
  call-after (Virtual m) g l s = refl
  call-after (Special m) g l s = refl
  call-after (Static m) g l s = refl

  leave-after : (ds : List Desc) (i : Leave) (g : Bool) (l s : List Ty) → state g l [] ≡ (leave_rule ds i (state g l s)).after
  leave-after ds Athrow g l s = refl
  leave-after ds Ireturn g l s = refl
  leave-after ds Areturn g l s = refl
  leave-after ds Return g l s = refl

  pub after_known : (o : ℕ) (i : code.Instr) (g : Bool) (l s : List Ty) → instr_after F o i (state g l s) ≡ (instr_rule L F o i (state g l s)).after
  unfolding instr_after local_after stack_after new_after
  after_known o (Simple i) g l s = refl
  after_known o (Jump i) g l s = refl
  after_known o (OnLocal i) g l s = refl
  after_known o (OnStack i) g l s = refl
  after_known o (Leaving i) g l s = leave-after F.results i g l s
  after_known o (New c) g l s = refl
  after_known o (Calling c) g l s = call-after c g l s
  after_known o Illegal g l s = refl
  after_known o Unresolved g l s = refl

  -- what a handler sees of the locals
  local_caught : (i : Local) (g : Bool) (l s : List Ty) → l ≡ (local_rule i (state g l s)).caught
  local_caught (Iload j) g l s = refl
  local_caught (Aload j) g l s = refl
  local_caught (Istore j) g l s = refl
  local_caught (Astore j) g l s = refl
  local_caught (Iinc j k) g l s = refl

  stack-caught : (i : Stack) (g : Bool) (l s : List Ty) → l ≡ (stack_rule i (state g l s)).caught
  stack-caught Dup g l s = refl
  stack-caught Dupx1 g l s = refl
  stack-caught Swap g l s = refl
  stack-caught Arraylength g l s = refl
  stack-caught Aaload g l s = refl

  leave-caught : (ds : List Desc) (i : Leave) (g : Bool) (l s : List Ty) → l ≡ (leave_rule ds i (state g l s)).caught
  leave-caught ds Athrow g l s = refl
  leave-caught ds Ireturn g l s = refl
  leave-caught ds Areturn g l s = refl
  leave-caught ds Return g l s = refl

  call-caught : (c : Call) (g : Bool) (l s : List Ty) → veil (call_hides c) (key_of (operand (length F.params) s)) l ≡ (call_rule L F c (state g l s)).caught
  call-caught (Virtual m) g l s = veil_no _ l
  call-caught (Special m) g l s = veil_yes _ l
  call-caught (Static m) g l s = veil_no _ l

  pub caught_known : (o : ℕ) (i : code.Instr) (g : Bool) (l s : List Ty)
      → veil (hides i) (key_of (operand (length F.params) s)) l ≡ (instr_rule L F o i (state g l s)).caught
  unfolding hides
  caught_known o (Simple i) g l s = veil_no _ l
  caught_known o (Jump i) g l s = veil_no _ l
  caught_known o (OnLocal i) g l s = veil_no _ l ∙ local_caught i g l s
  caught_known o (OnStack i) g l s = veil_no _ l ∙ stack-caught i g l s
  caught_known o (Leaving i) g l s = veil_no _ l ∙ leave-caught F.results i g l s
  caught_known o (New c) g l s = veil_no _ l
  caught_known o (Calling c) g l s = call-caught c g l s
  caught_known o Illegal g l s = veil_no _ l
  caught_known o Unresolved g l s = veil_no _ l

-- ---- the same under a program with these parents
operands_same : (P Q : Program) → ((a b : Ty) → fits P a b ≡ fits Q a b) → (k : ℕ) (us s : List Ty) → operands_fit P k us s ≡ operands_fit Q k us s
unfolding operands_fit
operands_same P Q h k [] s = refl
operands_same P Q h k (u ∷ us) s =
    let p : fits P (operand k s) u ≡ fits Q (operand k s) u = h (operand k s) u in
    let q : operands_fit P (suc k) us s ≡ operands_fit Q (suc k) us s = operands_same P Q h (suc k) us s in
    cc

module _ (P : Program) (M : Method) (t : List ℕ) (x n : ℕ) (p : Parents P t x n) (F : Facts) (o : ℕ) (i : code.Instr) (g : Bool) (l s : List Ty) (h : Told P M F s i) where
  abbrev Q : Program
  Q = lineage t x n

  known : rule P M o (instr_of i) (state g l s) ≡ instr_rule Q F o i (state g l s)
  known = rule_known P Q M F (parented P t x n p) o i g l s h

  pub verdict_known : (most : ℕ) → verdict (instr_claims Q most F o i (state g l s)) ≡ verdict (operand_claims P most s (rule P M o (instr_of i) (state g l s)))
  verdict_known most =
      claims_known Q most F o i g l s ∙ ap (λ (R : Rule). verdict (operand_claims Q most s R)) (sym known)
      ∙ ap (λ (cs : List (Claim ℕ)). verdict (claim 15 (leb (length R₀.takes) (length s)) ∷ (cs ++ (R₀.asks ++ (claim 15 (leb (length (stack R₀.after)) most) ∷ [])))))
      (operands_same Q P (fits-lineage P t x n p) 0 R₀.takes s)
    where
      R₀ : Rule
      R₀ = rule P M o (instr_of i) (state g l s)

  pub left_known : (X : State) → X ≡ instr_after F o i (state g l s) → X ≡ (rule P M o (instr_of i) (state g l s)).after
  left_known X e = e ∙ after_known Q F o i g l s ∙ ap (λ (R : Rule). R.after) (sym known)

  pub seen_known : veil (hides i) (key_of (operand (length F.params) s)) l ≡ (rule P M o (instr_of i) (state g l s)).caught
  seen_known = caught_known Q F o i g l s ∙ ap (λ (R : Rule). R.caught) (sym known)

-- ---- what a match found
module _ (L : Program) (most : ℕ) (F : Facts) (S : State) (R : Ruling ℕ) where
  pub by_call : (c c' : Call) → c ≡ c' → R ≡ verdict (call_claims' L most F c' S) → R ≡ verdict (call_claims L most F c S)
  unfolding call_claims
  by_call c c' e h = rw e h

  pub by_form : (o : ℕ) (i i' : code.Instr) → i ≡ i' → R ≡ verdict (instr_claims' L most F o i' S) → R ≡ verdict (instr_claims L most F o i S)
  unfolding instr_claims
  by_form o i i' e h = rw e h

module _ (F : Facts) (X S : State) where
  pub after_call : (c c' : Call) → c ≡ c' → X ≡ call_after' F c' S → X ≡ call_after F c S
  unfolding call_after
  after_call c c' e h = rw e h

  pub after_form : (o : ℕ) (i i' : code.Instr) → i ≡ i' → X ≡ instr_after' F o i' S → X ≡ instr_after F o i S
  unfolding instr_after
  after_form o i i' e h = rw e h

pub hides_form : (q : Bool) (i i' : code.Instr) → i ≡ i' → q ≡ hides' i' → q ≡ hides i
unfolding hides
hides_form q i i' e h = rw e h

pub hides-call : (q : Bool) (c c' : Call) → c ≡ c' → q ≡ call_hides c' → q ≡ call_hides c
hides-call q c c' e h = rw e h

-- ---- a constructor's receiver by its word
module _ (L : Program) (F : Facts) (c w : ℕ) where
  pub init_not : w % 8 < 5 → false ≡ init_fits L F c (type_of w)
  init_not h =
      let p : w % 8 ≡ 5 → ⊥ = λ e. omega arith in
      let q : w % 8 ≤ 5 = omega arith in
      of_type (init_fits L F c) w false (search kinds depth 12)

  pub init-made : w % 8 ≡ 5 → eqb F.made c ≡ init_fits L F c (type_of w)
  init-made h = at_kind (init_fits L F c) w 5 _ h refl

  module _ (h : 5 ≤ w % 8) (g : w % 8 ≡ 5 → ⊥) where
    pub init_own : F.own ≡ c → true ≡ init_fits L F c (type_of w)
    init_own e = rw (type_this w (omega arith), eq-eqb F.own c e)

    pub init-super : (p : ℕ) → (F.own ≡ c → ⊥) → p ≡ (class L F.own).parent → eqb p c ≡ init_fits L F c (type_of w)
    init-super p e q = rw (type_this w (omega arith), ne_eqb F.own c e, q)

-- ---- a constructor's call in words
length_replaced : (k : Key) (u : Ty) (l : List Ty) → length (replace_all k u l) ≡ length l
unfolding replace_all
length_replaced k u [] = refl
length_replaced k u (t ∷ l) = ap suc (length_replaced k u l)

pub key_self : (w : ℕ) → (w % 8 ≡ 5 → ⊥) → self ≡ key_of (type_of w)
key_self w h = of_type key_of w self (search kinds depth 12)

module _ (L : Program) (most : ℕ) (F : Facts) (c : ℕ) (t : List ℕ) (h : Held) where
  pub special-parts : (k u : ℕ) (q : Bool) → k ≡ length F.params → type_of u ≡ top → q ≡ init_fits L F c (operand k (stack_at t (h.at + 32) h.depth))
      → then (verdict (asked L (stack_at t (h.at + 32) h.depth) (F.params ++ (type_of u ∷ []))))
      (then (verdict (claim 18 q ∷ [])) (verdict (claim 15 (leb (0 + (h.depth - (k + 1))) most) ∷ []))) ≡ verdict (special_claims L most F c (held t h))
  unfolding special_claims claims_of
  special-parts k u q e f i =
      own_claims L most s (F.params ++ (type_of u ∷ [])) (F.params ++ (top ∷ [])) (claim 18 (init_fits L F c (operand (length F.params) s)) ∷ []) _ (verdict (claim 18 q ∷ [])) (0 + (h.depth - (k + 1))) (length (replace_all K T (drop (suc (length F.params)) s)))
      refl (ap (λ (j : Ty). F.params ++ (j ∷ [])) f) (ap (λ (b : Bool). verdict {K = ℕ} (claim 18 b ∷ [])) fit) long
    where
      s : List Ty
      s = stack_at t (h.at + 32) h.depth

      K : Key
      K = key_of (operand (length F.params) s)

      T : Ty
      T = ini (cls (made_class F K))

      fit : q ≡ init_fits L F c (operand (length F.params) s)
      fit = i ∙ ap (λ (j : ℕ). init_fits L F c (operand j s)) e

      long : 0 + (h.depth - (k + 1)) ≡ length (replace_all K T (drop (suc (length F.params)) s))
      long =
          let x : length (drop (suc (length F.params)) s) ≡ h.depth - suc (length F.params) = ap length (drop-stack (suc (length F.params)) t (h.at + 32) h.depth) ∙ length-stack t (h.at + 32) (h.depth - suc (length F.params)) in
          omega (arith, length_replaced K T (drop (suc (length F.params)) s))

module _ (F : Facts) (t z : List ℕ) (h m : Held) (k w v : ℕ) (e : k ≡ length F.params) (g : type_of w ≡ operand k (stack_at t (h.at + 32) h.depth))
    (c : Moved h m (h.depth - (k + 1))) (a : held z m ≡ all_swapped (key_of (type_of w)) (type_of v) (held t m)) where
  cut_to : held t m ≡ dropped (suc (length F.params)) (held t h)
  cut_to =
      let d : k + 1 ≡ suc (length F.params) = omega arith in
      cut-held t h m (k + 1) c ∙ ap (λ (j : ℕ). dropped j (held t h)) d

  receiver : operand (length F.params) (stack_at t (h.at + 32) h.depth) ≡ type_of w
  receiver = sym (g ∙ ap (λ (j : ℕ). operand j (stack_at t (h.at + 32) h.depth)) e)

  pub special_made : w % 8 ≡ 5 → type_of v ≡ ini (cls F.made) → held z m ≡ special_after F (held t h)
  unfolding special_after
  special_made d f =
      a ∙ ap (λ (S : State). all_swapped (key_of (type_of w)) (type_of v) S) cut_to
      ∙ ap (λ (u : Ty). all_swapped (key_of (type_of w)) u (dropped (suc (length F.params)) (held t h))) f
      ∙ rw (receiver, type-uninit w (w / 64) d refl)

  pub special_own : (w % 8 ≡ 5 → ⊥) → type_of v ≡ ini (cls F.own) → (r : Held) → r ≡ record { at = m.at; locals = m.locals; depth = m.depth; flag = false } → held z r ≡ special_after F (held t h)
  unfolding special_after
  special_own d f r x =
      ap (held z) x ∙ ap lowered (a ∙ ap (λ (S : State). all_swapped (key_of (type_of w)) (type_of v) S) cut_to
      ∙ ap (λ (u : Ty). all_swapped (key_of (type_of w)) u (dropped (suc (length F.params)) (held t h))) f)
      ∙ rw (receiver, ← key_self w d)
    where
      lowered : State → State
      lowered (state g l s) = state false l s

pub outside_at : (x y : ℕ) (t u : List ℕ) → y ≡ x → Outside y t u → Outside x t u
outside_at x y t u e p = rw (← e) p

pub kept_lowered : (h m r : Held) (d : ℕ) → Moved h m d → d ≤ 3 + h.depth → r ≡ record { at = m.at; locals = m.locals; depth = m.depth; flag = false } → Kept h r
kept_lowered h m r d p l e = rw e (record { at = p.at; locals = p.locals; depth = omega arith })

-- leaving empties the stack
pub emptied-held : (t : List ℕ) (h r : Held) → Moved h r (h.depth - h.depth) → held t r ≡ emptied (held t h)
emptied-held t h r m =
    cut-held t h r h.depth m
    ∙ ap (λ (s : List Ty). state h.flag (locals_at t h.at h.locals) s) (drop-stack h.depth t (h.at + 32) h.depth ∙ stack_none t (h.at + 32) (h.depth - h.depth) (omega arith))

-- a call's operands as the code counts them
module _ (L : Program) (most : ℕ) (F : Facts) (S : State) (R : Ruling ℕ) (c : Call) (m : Callee) (u : Ty) where
  pub by_virtual : c ≡ Virtual m → R ≡ verdict (form_claims L most (F.params ++ (u ∷ [])) F.gives S) → u ≡ ini (cls m.named) → R ≡ verdict (call_claims L most F c S)
  by_virtual e h f =
      by_call L most F S R c (Virtual m) e (h ∙ ap (λ (y : Ty). verdict (form_claims L most (F.params ++ (y ∷ [])) F.gives S)) f)

module _ (F : Facts) (X S : State) (c : Call) (m : Callee) (n : ℕ) (l : n ≡ length F.params) where
  pub after_virtual : c ≡ Virtual m → X ≡ turned (n + 1) F.gives S → X ≡ call_after F c S
  after_virtual e h =
      let z : n + 1 ≡ length (virtual_takes F m) = omega (arith, length-append F.params (ini (cls m.named) ∷ [])) in
      after_call F X S c (Virtual m) e (h ∙ ap (λ (k : ℕ). turned k F.gives S) z)

  pub after-static : c ≡ Static m → X ≡ turned n F.gives S → X ≡ call_after F c S
  after-static e h =
      let z : n ≡ length (F.params ++ []) = omega (arith, length-append F.params []) in
      after_call F X S c (Static m) e (h ∙ ap (λ (k : ℕ). turned k F.gives S) z)
