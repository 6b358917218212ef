-- Calls: arguments from a table, the receiver below them; and that a call's rule is a form's. Assumes nothing.
use Rattle.std.specs.Prelude.{ℕ, suc, ◌+◌, ◌-◌, ◌<◌, ◌≤◌, ◌≡◌, Option, Some, None, Bool, true, false, not, leb}
use Rattle.std.proofs.Common.{◌∙◌, arith, List, [], ◌∷◌, ◌++◌, refl, sym, ap, length, length-append}
use Rattle.std.proofs.lemmas.Bool.{not-true, not-false}
use Rattle.kit.specs.Claims.{Claim, claim, Ruling, pass, fail, verdict, then, verdict_yes, verdict-append, none_claimed, claim_fails}
use Rattle.kit.specs.Words.{word}
use Rattle.classfiles.specs.Descriptors.{cls}
use Rattle.reader.specs.Program.{Program, Method}
use Rattle.rules.specs.Instruction.{MethodRef, invokevirtual, invokestatic}
use Rattle.rules.specs.Resolve.{found}
use Rattle.rules.specs.Types.{Ty, ini, tys_of, fits}
use Rattle.rules.specs.States.{State, state, operand}
use Rattle.rules.specs.Rule.{rule, calling, arguments}
use Rattle.rules.specs.Walk.{operands_fit}
use Rattle.rules.specs.TypeWords.{type_of}
use Rattle.rules.specs.Slots.{slot, stack_at}
use Rattle.rules.specs.SlotLaws.{slot_is, stack_next, stack_none, length-stack}
use Rattle.rules.specs.Forms.{gives_of, asked, form_rule}
use Rattle.rules.specs.declared.types.Ty as code

module _ (P : Program) (M : Method) (o : ℕ) where
  pub virtual_rule : (m : MethodRef) (S : State)
      → rule P M o (invokevirtual m) S ≡ form_rule (arguments (found P m) ++ (ini (cls m.named) ∷ [])) (tys_of (found P m).results) S
  unfolding rule calling
  virtual_rule m (state g l s) = refl

  pub static-rule : (m : MethodRef) (S : State) → rule P M o (invokestatic m) S ≡ form_rule (arguments (found P m)) (tys_of (found P m).results) S
  unfolding rule calling
  static-rule m (state g l s) = refl

-- ---- the arguments' loop: v is the operand, a the word read, f what was found
module _ (P : Program) (t : List ℕ) (s : List Ty) (x n k : ℕ) (R : Ruling ℕ) where
  args_cons : k < n → verdict (operands_fit P k (stack_at t x (n - k)) s)
      ≡ verdict (claim 16 (fits P (operand k s) (slot t (x + (n - (k + 1))))) ∷ operands_fit P (k + 1) (stack_at t x (n - (k + 1))) s)
  unfolding operands_fit
  args_cons h = ap (λ (l : List Ty). verdict (operands_fit P k l s)) (stack_next t x n k h) ∙ again
    where
      again : verdict (claim 16 (fits P (operand k s) (slot t (x + (n - (k + 1))))) ∷ operands_fit P (suc k) (stack_at t x (n - (k + 1))) s)
          ≡ verdict (claim 16 (fits P (operand k s) (slot t (x + (n - (k + 1))))) ∷ operands_fit P (k + 1) (stack_at t x (n - (k + 1))) s)
      again = let e : suc k ≡ k + 1 = omega arith in ap (λ (i : ℕ). verdict (claim 16 (fits P (operand k s) (slot t (x + (n - (k + 1))))) ∷ operands_fit P i (stack_at t x (n - (k + 1))) s)) e

  module _ (a v : ℕ) (f : Bool) where
    seen : (c : Bool) → f ≡ c → f ≡ fits P (type_of v) (type_of a) → type_of v ≡ operand k s → a ≡ word t (x + (n - (k + 1)))
        → fits P (operand k s) (slot t (x + (n - (k + 1)))) ≡ c
    seen c e h g w =
        sym (h ∙ ap (λ (y : Ty). fits P y (type_of a)) g ∙ ap (fits P (operand k s)) (ap type_of w ∙ slot_is t (x + (n - (k + 1))))) ∙ e

    pub args_more : verdict (operands_fit P k (stack_at t x (n - k)) s) ≡ R → k < n → not f ≡ false → f ≡ fits P (type_of v) (type_of a)
        → type_of v ≡ operand k s → a ≡ word t (x + (n - (k + 1))) → verdict (operands_fit P (k + 1) (stack_at t x (n - (k + 1))) s) ≡ R
    args_more i h e q g w = sym (args_cons h ∙ verdict_yes 16 _ _ (seen true (not-false f e) q g w)) ∙ i

    pub args_no : verdict (operands_fit P k (stack_at t x (n - k)) s) ≡ R → k < n → not f ≡ true → f ≡ fits P (type_of v) (type_of a)
        → type_of v ≡ operand k s → a ≡ word t (x + (n - (k + 1))) → fail 16 ≡ R
    args_no i h e q g w = claim_fails 16 _ _ (seen false (not-true f e) q g w) ∙ sym (args_cons h) ∙ i

  pub args_end : verdict (operands_fit P k (stack_at t x (n - k)) s) ≡ R → n ≤ k → pass ≡ R
  unfolding operands_fit
  args_end i h = none_claimed ∙ sym (ap (λ (l : List Ty). verdict (operands_fit P k l s)) (stack_none t x (n - k) (omega arith))) ∙ i

pub ruleset arguments-turns = (args_more, args_no, args_end)

-- ---- the receiver
module _ (P : Program) (n : ℕ) (s : List Ty) (g : Option code.Ty) where
  pub receiver_none : g ≡ None → pass ≡ verdict (operands_fit P n (gives_of g) s)
  unfolding operands_fit
  receiver_none e = none_claimed ∙ sym (ap (λ (y : Option code.Ty). verdict (operands_fit P n (gives_of y) s)) e)

  pub receiver_some : (w : code.Ty) (R : Ruling ℕ) → g ≡ Some w → R ≡ verdict (claim 16 (fits P (operand n s) (type_of w.word)) ∷ [])
      → R ≡ verdict (operands_fit P n (gives_of g) s)
  unfolding operands_fit
  receiver_some w R e h = h ∙ sym (ap (λ (y : Option code.Ty). verdict (operands_fit P n (gives_of y) s)) e)

-- ---- all operands
operands_append : (P : Program) (k : ℕ) (us vs s : List Ty) → operands_fit P k (us ++ vs) s ≡ operands_fit P k us s ++ operands_fit P (k + length us) vs s
unfolding operands_fit
operands_append P k [] vs s =
    let e : k ≡ k + 0 = omega arith in
    ap (λ (i : ℕ). operands_fit P i vs s) e
operands_append P k (u ∷ us) vs s =
    let e : suc k + length us ≡ k + suc (length us) = omega arith in
    ap (λ (l : List (Claim ℕ)). claim 16 (fits P (operand k s) u) ∷ l)
    (operands_append P (suc k) us vs s ∙ ap (λ (i : ℕ). operands_fit P (suc k) us s ++ operands_fit P i vs s) e)

module _ (P : Program) (t : List ℕ) (y d x n : ℕ) (vs : List Ty) (c : ℕ) where
  -- c is how many the code counts below the n arguments
  pub args-parts : c ≡ length vs → then (verdict (claim 15 (leb (n + c) d) ∷ [])) (then (verdict (operands_fit P 0 (stack_at t x n) (stack_at t y d))) (verdict (operands_fit P n vs (stack_at t y d))))
      ≡ verdict (asked P (stack_at t y d) (stack_at t x n ++ vs))
  unfolding asked
  args-parts e =
      ap (λ (v : Ruling ℕ). then v (then (verdict (operands_fit P 0 (stack_at t x n) (stack_at t y d))) (verdict (operands_fit P n vs (stack_at t y d))))) count
      ∙ ap (then (verdict (claim 15 (leb (length (stack_at t x n ++ vs)) (length (stack_at t y d))) ∷ []))) (sym joined)
      ∙ sym (verdict-append (claim 15 (leb (length (stack_at t x n ++ vs)) (length (stack_at t y d))) ∷ []) (operands_fit P 0 (stack_at t x n ++ vs) (stack_at t y d)))
    where
      long : n + c ≡ length (stack_at t x n ++ vs)
      long = omega (arith, length-append (stack_at t x n) vs, length-stack t x n)

      count : verdict {K = ℕ} (claim 15 (leb (n + c) d) ∷ []) ≡ verdict {K = ℕ} (claim 15 (leb (length (stack_at t x n ++ vs)) (length (stack_at t y d))) ∷ [])
      count =
          ap (λ (i : ℕ). verdict {K = ℕ} (claim 15 (leb i d) ∷ [])) long
          ∙ ap (λ (i : ℕ). verdict {K = ℕ} (claim 15 (leb (length (stack_at t x n ++ vs)) i) ∷ [])) (sym (length-stack t y d))

      joined : verdict (operands_fit P 0 (stack_at t x n ++ vs) (stack_at t y d))
          ≡ then (verdict (operands_fit P 0 (stack_at t x n) (stack_at t y d))) (verdict (operands_fit P n vs (stack_at t y d)))
      joined =
          let e : 0 + length (stack_at t x n) ≡ n = omega (arith, length-stack t x n) in
          ap (λ (l : List (Claim ℕ)). verdict l) (operands_append P 0 (stack_at t x n) vs (stack_at t y d)
          ∙ ap (λ (i : ℕ). operands_fit P 0 (stack_at t x n) (stack_at t y d) ++ operands_fit P i vs (stack_at t y d)) e)
          ∙ verdict-append (operands_fit P 0 (stack_at t x n) (stack_at t y d)) (operands_fit P n vs (stack_at t y d))

pub length_args : (t : List ℕ) (x n c : ℕ) (vs : List Ty) → c ≡ length vs → n + c ≡ length (stack_at t x n ++ vs)
length_args t x n c vs e = omega (arith, length-append (stack_at t x n) vs, length-stack t x n)

pub length-gives : (g : Option code.Ty) → length (gives_of g) ≤ 1
length-gives None = omega arith
length-gives (Some w) = omega arith
