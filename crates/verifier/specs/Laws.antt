-- Shortcuts that look harmless, ruled out: what `new` and a failed constructor call leave of an uninitialised object.
use Rattle.std.specs.Prelude.{ℕ, ◌≡◌, Bool, true, false, cond, List, [], ◌∷◌, length}
use Rattle.std.proofs.Common.{refl}
use Rattle.kit.specs.Claims.{fail, verdict}
use Rattle.reader.specs.Program.{Program, Method}
use Rattle.rules.specs.Instruction.{MethodRef, new, invokespecial}
use Rattle.rules.specs.Resolve.{found}
use Rattle.rules.specs.Types.{Key, at, Ty, top, is_uninit}
use Rattle.rules.specs.States.{State, state, operand, replace_all, no_copy}
use Rattle.rules.specs.Rule.{rule, constructing, arguments, key_of}

abbrev locals : State → List Ty
locals (state g l s) = l

-- where every copy has become another type, none is left
pub replaced_none : (k : Key) (t : Ty) → is_uninit k t ≡ false → (l : List Ty) → no_copy k (replace_all k t l) ≡ true
unfolding no_copy replace_all
replaced_none k t e [] = refl
replaced_none k t e (u ∷ us) = by (replaced_none k t e us) (is_uninit k u) refl
  where
    by : no_copy k (replace_all k t us) ≡ true → (b : Bool) → is_uninit k u ≡ b → no_copy k (cond (is_uninit k u) t u ∷ replace_all k t us) ≡ true
    by r true h = rw (h, e) r
    by r false h = rw (h, h) r

module _ (P : Program) (M : Method) (o : ℕ) (g : Bool) (l s : List Ty) where
  -- old uninit(L) copies in locals do not outlive a new at L
  pub new_forgets : (c : ℕ) → no_copy (at o) (locals (rule P M o (new c) (state g l s)).after) ≡ true
  unfolding rule
  new_forgets c = replaced_none (at o) top refl l

  -- one on the stack is 18
  pub new_refuses : (c : ℕ) → no_copy (at o) s ≡ false → verdict (rule P M o (new c) (state g l s)).asks ≡ fail 18
  unfolding rule verdict
  new_refuses c h = rw h

  -- in the handler of a failed constructor call the object is not initialised: its copies count as top
  pub failed_call : (m : MethodRef) (k : Key) → key_of (operand (length (arguments (found P m))) s) ≡ k
      → no_copy k (rule P M o (invokespecial m) (state g l s)).caught ≡ true
  unfolding rule constructing
  failed_call m k e = rw (← e) (replaced_none (key_of (operand (length (arguments (found P m))) s)) top refl l)
