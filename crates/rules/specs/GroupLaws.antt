-- The rules by which `search` finds the claims of a group's forms and the states that they leave. Assumes nothing.
use Rattle.rules.specs.Rule.{key_of, returns_int, returns_ref, returns_void, returned}
use Rattle.std.specs.Prelude.{ℕ, suc, ◌+◌, ◌-◌, ◌%◌, ◌≡◌, refl, Option, Some, None, Bool, true, false, cond, not, List, [], ◌∷◌, ◌++◌, eqb, leb, length, drop, set}
use Rattle.std.proofs.Common.{sym, ap, ◌∙◌, arith}
use Rattle.kit.specs.Pick.{same}
use Rattle.kit.specs.Claims.{Claim, claim, Ruling, verdict, then, verdict-append, none_claimed}
use Rattle.classfiles.specs.Descriptors.{Desc, dint, dref}
use Rattle.reader.specs.Program.{Program}
use Rattle.rules.specs.Types.{Ty, top, at, uninit, ty_of, is_int, is_reference, is_array, element_ty}
use Rattle.rules.specs.States.{State, state, stack, no_copy}
use Rattle.rules.specs.Walk.{operands_fit}
use Rattle.rules.specs.Slots.{stack_at, held, Moved, Outside, dropped, stored, locals_swapped, pushed}
use Rattle.rules.specs.SlotLaws.{length-stack, drop-stack, cut-held, outside_two, claim_via}
use Rattle.rules.specs.Forms.{asked, turned, Kept, form_claims, one_type, two_types, three_types, base_int, base_object}
use Rattle.rules.specs.Groups.{local_rule, local_claims, local_after, stack_rule, stack_claims, stack_after, results_of, leave_rule, leave_claims, new_rule, new_claims, new_after}
use Rattle.rules.specs.InstructionWords.{ref_of, desc_of}
use Rattle.rules.specs.declared.slots.Held.{Held}
use Rattle.rules.specs.declared.instruction.Local.{Local}
use Rattle.rules.specs.declared.instruction.Stack.{Stack}
use Rattle.rules.specs.declared.instruction.Leave.{Leave}
use Rattle.rules.specs.declared.types.Ty as code

-- what is asked in all: operands, the form's own, room for a stack of n
unfoldable pub claims_of : Program → ℕ → List Ty → List Ty → List (Claim ℕ) → ℕ → List (Claim ℕ)
claims_of P most s ts cs n = claim 15 (leb (length ts) (length s)) ∷ (operands_fit P 0 ts s ++ (cs ++ (claim 15 (leb n most) ∷ [])))

pub own_claims : (P : Program) (most : ℕ) (s ts us : List Ty) (cs : List (Claim ℕ)) (R own : Ruling ℕ) (m n : ℕ)
    → R ≡ then (verdict (asked P s ts)) (then own (verdict (claim 15 (leb m most) ∷ []))) → ts ≡ us → own ≡ verdict cs → m ≡ n
    → R ≡ verdict (claims_of P most s us cs n)
unfolding asked claims_of
own_claims P most s ts us cs R own m n h e o l =
    h ∙ ap (λ (ys : List Ty). then (verdict (claim 15 (leb (length ys) (length s)) ∷ operands_fit P 0 ys s)) (then own (verdict (claim 15 (leb m most) ∷ [])))) e
    ∙ ap (then (verdict (claim 15 (leb (length us) (length s)) ∷ operands_fit P 0 us s))) tail
    ∙ sym (verdict-append (claim 15 (leb (length us) (length s)) ∷ operands_fit P 0 us s) (cs ++ (claim 15 (leb n most) ∷ [])))
  where
    tail : then own (verdict (claim 15 (leb m most) ∷ [])) ≡ verdict (cs ++ (claim 15 (leb n most) ∷ []))
    tail =
        ap (λ (v : Ruling ℕ). then v (verdict (claim 15 (leb m most) ∷ []))) o
        ∙ ap (λ (k : ℕ). then (verdict cs) (verdict (claim 15 (leb k most) ∷ []))) l
        ∙ sym (verdict-append cs (claim 15 (leb n most) ∷ []))

-- the form that a match found
module _ (P : Program) (most : ℕ) (S : State) (R : Ruling ℕ) where
  pub by_local : (i i' : Local) → i ≡ i'
      → R ≡ verdict (claims_of P most (stack S) (local_rule i' S).takes (local_rule i' S).asks (length (stack (local_rule i' S).after)))
      → R ≡ verdict (local_claims P most i S)
  unfolding claims_of local_claims
  by_local i i' e h = rw e h

  pub by_stack : (i i' : Stack) → i ≡ i'
      → R ≡ verdict (claims_of P most (stack S) (stack_rule i' S).takes (stack_rule i' S).asks (length (stack (stack_rule i' S).after)))
      → R ≡ verdict (stack_claims P most i S)
  unfolding claims_of stack_claims
  by_stack i i' e h = rw e h

  pub by_leave : (ds : List Desc) (i i' : Leave) → i ≡ i'
      → R ≡ verdict (claims_of P most (stack S) (leave_rule ds i' S).takes (leave_rule ds i' S).asks (length (stack (leave_rule ds i' S).after)))
      → R ≡ verdict (leave_claims P most ds i S)
  unfolding claims_of leave_claims
  by_leave ds i i' e h = rw e h

  pub by_new : (o : ℕ) → R ≡ verdict (claims_of P most (stack S) (new_rule o S).takes (new_rule o S).asks (length (stack (new_rule o S).after)))
      → R ≡ verdict (new_claims P most o S)
  unfolding claims_of new_claims
  by_new o h = h

-- the stack's length after
module _ (t : List ℕ) (x d : ℕ) where
  rest : (k : ℕ) → length (drop k (stack_at t x d)) ≡ d - k
  rest k = ap length (drop-stack k t x d) ∙ length-stack t x (d - k)

  pub len_same : 0 + (d - 0) ≡ length (stack_at t x d)
  len_same = omega (arith, length-stack t x d)

  pub len_none : 0 + (d - d) ≡ 0
  len_none = omega arith

  pub len_push : 1 + (d - 0) ≡ suc (length (stack_at t x d))
  len_push = omega (arith, length-stack t x d)

  pub len_drop : (k : ℕ) → 0 + (d - k) ≡ length (drop k (stack_at t x d))
  len_drop k = omega (arith, rest k)

  pub len_turn : (k : ℕ) → 1 + (d - k) ≡ suc (length (drop k (stack_at t x d)))
  len_turn k = omega (arith, rest k)

  pub len_two : (k : ℕ) → 2 + (d - k) ≡ suc (suc (length (drop k (stack_at t x d))))
  len_two k = omega (arith, rest k)

  pub len_three : (k : ℕ) → 3 + (d - k) ≡ suc (suc (suc (length (drop k (stack_at t x d)))))
  len_three k = omega (arith, rest k)

module _ (q : Bool) (u v : Ty) where
  pub int_via : q ≡ is_int u → u ≡ v → q ≡ is_int v
  int_via h e = h ∙ ap is_int e

  pub reference_via : q ≡ is_reference u → u ≡ v → q ≡ is_reference v
  reference_via h e = h ∙ ap is_reference e

  pub array_via : q ≡ is_array u → u ≡ v → q ≡ is_array v
  array_via h e = h ∙ ap is_array e

-- no copy of the object that new makes at o
pub copy_via : (q : Bool) (u : Ty) (o : ℕ) (s : List Ty) → q ≡ no_copy (key_of u) s → u ≡ uninit (at o) → q ≡ no_copy (at o) s
copy_via q u o s h e = h ∙ ap (λ (y : Ty). no_copy (key_of y) s) e

-- what a descriptor returns, by what a match found
int_desc : (w : ℕ) → eqb (w % 8) 1 ≡ returns_int (desc_of w ∷ [])
int_desc w = go (eqb (w % 8) 1)
  where
    go : (t : Bool) → t ≡ returns_int (cond t dint (dref (ref_of w)) ∷ [])
    go true = refl
    go false = refl

reference_desc : (w : ℕ) → not (eqb (w % 8) 1) ≡ returns_ref (desc_of w ∷ [])
reference_desc w = go (eqb (w % 8) 1)
  where
    go : (t : Bool) → not t ≡ returns_ref (cond t dint (dref (ref_of w)) ∷ [])
    go true = refl
    go false = refl

module _ (g : Option code.Ty) (e : g ≡ None) where
  pub int_none : false ≡ returns_int (results_of g)
  int_none = rw e

  pub reference_none : false ≡ returns_ref (results_of g)
  reference_none = rw e

  pub void_none : true ≡ returns_void (results_of g)
  void_none = rw e

  pub returned_none : (v : Ty) → v ≡ top → v ≡ returned (results_of g)
  returned_none v h = rw e h

module _ (g : Option code.Ty) (w : code.Ty) (e : g ≡ Some w) where
  pub int_value : eqb (w.word % 8) 1 ≡ returns_int (results_of g)
  int_value = rw e (int_desc w.word)

  pub reference_value : not (eqb (w.word % 8) 1) ≡ returns_ref (results_of g)
  reference_value = rw e (reference_desc w.word)

  pub void_value : false ≡ returns_void (results_of g)
  void_value = rw e

  pub returned_value : (v : Ty) → v ≡ ty_of (desc_of w.word) → v ≡ returned (results_of g)
  returned_value v h = rw e h

-- a kind of result that a call told
pub kinds_via : (R : Ruling ℕ) (q b c : Bool) → R ≡ verdict (claim 16 q ∷ claim 18 c ∷ []) → q ≡ b → R ≡ verdict (claim 16 b ∷ claim 18 c ∷ [])
kinds_via R q b c h e = h ∙ ap (λ (x : Bool). verdict (claim 16 x ∷ claim 18 c ∷ [])) e

pub ruleset own = (copy_via, claim_via, int_via, reference_via, array_via)

pub ruleset ways = (by_local, by_stack, by_leave, by_new, kinds_via, len_none, own_claims, one_type, two_types, three_types, base_int, base_object, len_same, len_push, len_drop, len_turn, len_two, len_three, none_claimed, same)

-- the group's types in place of what calls gave
pub form_to : (P : Program) (most : ℕ) (ts us ts' us' : List Ty) (S : State) (R : Ruling ℕ) → R ≡ verdict (form_claims P most ts us S) → ts ≡ ts' → us ≡ us'
    → R ≡ verdict (form_claims P most ts' us' S)
form_to P most ts us ts' us' S R h e f = h ∙ cc

pub turned_to : (X S : State) (k : ℕ) (ts us us' : List Ty) → X ≡ turned k us S → k ≡ length ts → us ≡ us' → X ≡ turned (length ts) us' S
turned_to X S k ts us us' h e f = h ∙ ap (λ (i : ℕ). turned i us S) e ∙ ap (λ (y : List Ty). turned (length ts) y S) f

-- ---- states after
module _ (X S : State) where
  pub local-after : (i i' : Local) → i ≡ i' → X ≡ (local_rule i' S).after → X ≡ local_after i S
  unfolding local_after
  local-after i i' e h = rw e h

  pub stack-after : (i i' : Stack) → i ≡ i' → X ≡ (stack_rule i' S).after → X ≡ stack_after i S
  unfolding stack_after
  stack-after i i' e h = rw e h

-- what calls gave in place
module _ (X : State) (g : Bool) (l s : List Ty) (u v : Ty) where
  pub top_to : X ≡ state g l (u ∷ s) → u ≡ v → X ≡ state g l (v ∷ s)
  top_to h e = h ∙ ap (λ (y : Ty). state g l (y ∷ s)) e

  pub set_to : (j : ℕ) → X ≡ state g (set l j u) s → u ≡ v → X ≡ state g (set l j v) s
  set_to j h e = h ∙ ap (λ (y : Ty). state g (set l j y) s) e

  module _ (a b : Ty) where
    pub two_to : X ≡ state g l (u ∷ a ∷ s) → u ≡ v → a ≡ b → X ≡ state g l (v ∷ b ∷ s)
    two_to h e f = h ∙ cc

    pub three_to : X ≡ state g l (u ∷ a ∷ u ∷ s) → u ≡ v → a ≡ b → X ≡ state g l (v ∷ b ∷ v ∷ s)
    three_to h e f = h ∙ cc

-- an array's element, where the array is what a call gave
pub element_via : (w : Ty) (u v : Ty) → w ≡ element_ty u → u ≡ v → w ≡ element_ty v
element_via w u v h e = h ∙ ap element_ty e

-- two moves
module _ (h m r : Held) (d e : ℕ) where
  pub moved_two : Moved h m d → Moved m r (m.depth - 0 + 1) → d + 1 ≡ e → Moved h r e
  moved_two p q l = record { at = q.at ∙ p.at; locals = q.locals ∙ p.locals; flag = q.flag ∙ p.flag; depth = omega arith }

pub state_two : (X : State) (g g' : Bool) (l l' s s' : List Ty) (v : Ty) → X ≡ state g' l' (v ∷ s') → state g' l' s' ≡ state g l s → X ≡ state g l (v ∷ s)
state_two X g g' l l' s s' v h e = cc

pub kept_same : (h : Held) → Kept h h
kept_same h = record { at = refl; locals = refl; depth = omega arith }

pub outside_on : (x y : ℕ) (t u v : List ℕ) → y ≡ x → Outside x t u → Outside y u v → Outside x t v
outside_on x y t u v e p q = outside_two x t u v p (rw (← e) q)

-- after a store, the operand that was stored goes
pub store-held : (t u : List ℕ) (h r : Held) (j : ℕ) (v : Ty) → held u h ≡ stored j v (held t h) → Moved h r (h.depth - 1) → held u r ≡ dropped 1 (stored j v (held t h))
store-held t u h r j v e m = cut-held u h r 1 m ∙ ap (dropped 1) e

pub ruleset afters = (local-after, stack-after, top_to, set_to, two_to, three_to, element_via, same)

-- after new: the old copies in the locals count as top
pub new-held : (t u v : List ℕ) (h r : Held) (k : Ty) (o : ℕ) (w : Ty) → held u h ≡ locals_swapped (key_of k) w (held t h) → held v r ≡ pushed 0 k (held u h)
    → k ≡ uninit (at o) → w ≡ top → held v r ≡ new_after o (held t h)
unfolding new_after
new-held t u v h r k o w a b e f =
    b ∙ ap (pushed 0 k) a ∙ ap (λ (y : Ty). pushed 0 y (locals_swapped (key_of y) w (held t h))) e
    ∙ ap (λ (y : Ty). pushed 0 (uninit (at o)) (locals_swapped (at o) y (held t h))) f
