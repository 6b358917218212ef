-- What a form takes and leaves, where its rule depends on nothing else; and the rules of each group as the code follows them.
use Rattle.std.specs.Prelude.{ℕ, ◌+◌, ◌/◌, ◌%◌, ◌≤◌, ◌≡◌, Option, Some, None, List, [], ◌∷◌, ◌++◌, leb, length, drop}
use Rattle.std.proofs.Common.{sym, ◌∙◌, eq-eqb, ne_eqb, refl}
use Rattle.kit.specs.Claims.{Claim, claim}
use Rattle.kit.specs.Pick.{same}
use Rattle.classfiles.specs.Descriptors.{cls, arr}
use Rattle.reader.specs.Program.{Program, Method}
use Rattle.rules.specs.Types.{Ty, top, int, null, ini, ty_of, object_ty, int_array, object_array}
use Rattle.rules.specs.States.{State, state, stack}
use Rattle.rules.specs.Rule.{Rule, rule', rule}
use Rattle.rules.specs.TypeWords.{base_of, nest, type_of}
use Rattle.rules.specs.TypeLaws.{type-int, type-class, type_array}
use Rattle.rules.specs.InstructionWords.{ref_of, desc_of, element_of, plain_of, branch_of}
use Rattle.rules.specs.Walk.{operands_fit, operand_claims}
use Rattle.rules.specs.declared.slots.Held.{Held}
use Rattle.rules.specs.declared.instruction.Plain.{Plain}
use Rattle.rules.specs.declared.instruction.Plain.TheVariants.{Nop, Aconstnull, Pop, Ineg, Iaload, Iastore, Aastore, Iconst, Ibin, Idiv, Newarray, Checkcast, Instanceof, Getfield, Putfield}
use Rattle.rules.specs.declared.instruction.Branch.{Branch}
use Rattle.rules.specs.declared.instruction.Branch.TheVariants.{Goto, Ifint, Ificmp, Ifacmp, Ifnull}
use Rattle.rules.specs.declared.forms.Takes.{Takes}
use Rattle.rules.specs.declared.forms.Takes.TheVariants.{Zero, One, Two, Three}
use Rattle.rules.specs.declared.types.Ty as code

abbrev pub takes_of : Takes → List Ty
takes_of Zero = []
takes_of (One a) = type_of a.word ∷ []
takes_of (Two a b) = type_of a.word ∷ type_of b.word ∷ []
takes_of (Three a b c) = type_of a.word ∷ type_of b.word ∷ type_of c.word ∷ []

abbrev pub gives_of : Option code.Ty → List Ty
gives_of None = []
gives_of (Some a) = type_of a.word ∷ []

-- a form's operands: count, then fit from the top down
unfoldable pub asked : Program → List Ty → List Ty → List (Claim ℕ)
asked P s ts = claim 15 (leb (length ts) (length s)) ∷ operands_fit P 0 ts s

-- k operands go, us come
abbrev pub turned : ℕ → List Ty → State → State
turned k us (state g l s) = state g l (us ++ drop k s)

-- the same place, with little more on the stack
pub record Kept (h r : Held) : Type 0 where
  pub at : r.at ≡ h.at
  pub locals : r.locals ≡ h.locals
  pub depth : r.depth ≤ 3 + h.depth

abbrev pub form_rule : List Ty → List Ty → State → Rule
form_rule ts us (state g l s) = rule' ts [] (state g l (us ++ drop (length ts) s)) l

abbrev pub plain_takes' : Plain → List Ty
plain_takes' Nop = []
plain_takes' Aconstnull = []
plain_takes' Pop = top ∷ []
plain_takes' Ineg = int ∷ []
plain_takes' Iaload = int ∷ int_array ∷ []
plain_takes' Iastore = int ∷ int ∷ int_array ∷ []
plain_takes' Aastore = object_ty ∷ int ∷ object_array ∷ []
plain_takes' (Iconst v) = []
plain_takes' (Ibin f) = int ∷ int ∷ []
plain_takes' (Idiv f) = int ∷ int ∷ []
plain_takes' (Newarray t) = int ∷ []
plain_takes' (Checkcast t) = object_ty ∷ []
plain_takes' (Instanceof t) = object_ty ∷ []
plain_takes' (Getfield f) = ini (cls f.named) ∷ []
plain_takes' (Putfield f) = ty_of (desc_of f.of.word) ∷ ini (cls f.named) ∷ []

abbrev pub plain_gives' : Plain → List Ty
plain_gives' Nop = []
plain_gives' Aconstnull = null ∷ []
plain_gives' Pop = []
plain_gives' Ineg = int ∷ []
plain_gives' Iaload = int ∷ []
plain_gives' Iastore = []
plain_gives' Aastore = []
plain_gives' (Iconst v) = int ∷ []
plain_gives' (Ibin f) = int ∷ []
plain_gives' (Idiv f) = int ∷ []
plain_gives' (Newarray t) = ini (arr (element_of t.word)) ∷ []
plain_gives' (Checkcast t) = ini (ref_of t.word) ∷ []
plain_gives' (Instanceof t) = int ∷ []
plain_gives' (Getfield f) = ty_of (desc_of f.of.word) ∷ []
plain_gives' (Putfield f) = []

abbrev pub branch_takes' : Branch → List Ty
branch_takes' (Goto t) = []
branch_takes' (Ifint f t) = int ∷ []
branch_takes' (Ificmp f t) = int ∷ int ∷ []
branch_takes' (Ifacmp b t) = object_ty ∷ object_ty ∷ []
branch_takes' (Ifnull b t) = object_ty ∷ []

unfoldable pub form_claims : Program → ℕ → List Ty → List Ty → State → List (Claim ℕ)
form_claims P most ts us S = operand_claims P most (stack S) (form_rule ts us S)

-- words as types that are written down
module _ (w : ℕ) where
  pub reference_array : w % 8 ≡ 4 → type_of w ≡ ini (ref_of w)
  reference_array h = type_array w (w / 64) (w / 8 % 8) h refl refl ∙ sym (rw (eq-eqb (w % 8) 4 h))

  pub reference_class : (v : ℕ) → (w % 8 ≡ 4 → ⊥) → v % 8 ≡ 3 → v / 64 ≡ w / 64 → type_of v ≡ ini (ref_of w)
  reference_class v h p q = type-class v (w / 64) p q ∙ sym (rw (ne_eqb (w % 8) 4 h))

  pub described_int : w % 8 ≡ 1 → type_of w ≡ ty_of (desc_of w)
  described_int h = type-int w h ∙ sym (rw (eq-eqb (w % 8) 1 h))

  pub described_reference : (v : ℕ) → (w % 8 ≡ 1 → ⊥) → type_of v ≡ ini (ref_of w) → type_of v ≡ ty_of (desc_of w)
  described_reference v h e = e ∙ sym (rw (ne_eqb (w % 8) 1 h))

-- kept shut, for proofs that know the form
unfoldable pub plain_takes : Plain → List Ty
plain_takes i = plain_takes' i

unfoldable pub plain_gives : Plain → List Ty
plain_gives i = plain_gives' i

unfoldable pub branch_takes : Branch → List Ty
branch_takes i = branch_takes' i

-- the form that a match found
module _ (l : List Ty) where
  pub by_plain : (i i' : Plain) → i ≡ i' → l ≡ plain_takes' i' → l ≡ plain_takes i
  unfolding plain_takes
  by_plain i i' e h = rw e h

  pub by_given : (i i' : Plain) → i ≡ i' → l ≡ plain_gives' i' → l ≡ plain_gives i
  unfolding plain_gives
  by_given i i' e h = rw e h

  pub by_branch : (i i' : Branch) → i ≡ i' → l ≡ branch_takes' i' → l ≡ branch_takes i
  unfolding branch_takes
  by_branch i i' e h = rw e h

-- lists of one to three types that calls gave
module _ (a u : Ty) where
  pub one_type : a ≡ u → ◌≡◌ {A = List Ty} (a ∷ []) (u ∷ [])
  one_type p = cc

  module _ (b v : Ty) where
    pub two_types : a ≡ u → b ≡ v → ◌≡◌ {A = List Ty} (a ∷ b ∷ []) (u ∷ v ∷ [])
    two_types p q = cc

    pub three_types : (c w : Ty) → a ≡ u → b ≡ v → c ≡ w → ◌≡◌ {A = List Ty} (a ∷ b ∷ c ∷ []) (u ∷ v ∷ w ∷ [])
    three_types c w p q r = cc

-- arrays of int and of Object, as the code makes them
pub base_int : (t : Ty) → t ≡ ini (arr (nest 65535 (0 % 8))) → t ≡ int_array
unfolding nest base_of
base_int t e = e

pub base_object : (t : Ty) → t ≡ ini (arr (nest 0 (0 % 8))) → t ≡ object_array
unfolding nest base_of
base_object t e = e

pub ruleset shapes = (by_plain, by_given, by_branch, one_type, two_types, three_types, base_int, base_object, same)

module _ (P : Program) (M : Method) (o : ℕ) where
  pub plain-rule : (i : Plain) (S : State) → rule P M o (plain_of i) S ≡ form_rule (plain_takes i) (plain_gives i) S
  unfolding rule plain_takes plain_gives
  plain-rule Nop (state g l s) = refl
  plain-rule Aconstnull (state g l s) = refl
  plain-rule Pop (state g l s) = refl
  plain-rule Ineg (state g l s) = refl
  plain-rule Iaload (state g l s) = refl
  plain-rule Iastore (state g l s) = refl
  plain-rule Aastore (state g l s) = refl
  plain-rule (Iconst v) (state g l s) = refl
  plain-rule (Ibin f) (state g l s) = refl
  plain-rule (Idiv f) (state g l s) = refl
  plain-rule (Newarray t) (state g l s) = refl
  plain-rule (Checkcast t) (state g l s) = refl
  plain-rule (Instanceof t) (state g l s) = refl
  plain-rule (Getfield f) (state g l s) = refl
  plain-rule (Putfield f) (state g l s) = refl

  pub branch-rule : (i : Branch) (S : State) → rule P M o (branch_of i) S ≡ form_rule (branch_takes i) [] S
  unfolding rule branch_takes
  branch-rule (Goto t) (state g l s) = refl
  branch-rule (Ifint f t) (state g l s) = refl
  branch-rule (Ificmp f t) (state g l s) = refl
  branch-rule (Ifacmp b t) (state g l s) = refl
  branch-rule (Ifnull b t) (state g l s) = refl
