-- The rules by which `search` finds a form's claims and the state that it leaves. Assumes nothing.
use Rattle.std.specs.Prelude.{ℕ, ◌+◌, ◌-◌, ◌≤◌, ◌≡◌, Option, Some, None, leb, length}
use Rattle.std.proofs.Common.{sym, ◌∙◌, arith, length-append, List, [], ◌∷◌, ◌++◌, ap, drop}
use Rattle.std.proofs.Math.Dec.{leb-zero}
use Rattle.kit.specs.Claims.{claim, Ruling, pass, verdict, then, verdict-append, claim_on, claim_off}
use Rattle.reader.specs.Program.{Program}
use Rattle.rules.specs.Types.{Ty}
use Rattle.rules.specs.Walk.{operands_fit}
use Rattle.rules.specs.TypeWords.{type_of}
use Rattle.rules.specs.Slots.{stack_at, held, Moved, pushed}
use Rattle.rules.specs.SlotLaws.{length-stack, drop-stack, claim_yes, cut-held}
use Rattle.rules.specs.Forms.{takes_of, gives_of, asked, turned, Kept, form_claims}
use Rattle.rules.specs.declared.slots.Held.{Held}
use Rattle.rules.specs.declared.forms.Takes.{Takes}
use Rattle.rules.specs.declared.types.Ty as code

-- the operands that a match found
pub by_takes : (P : Program) (s : List Ty) (k k' : Takes) (R : Ruling ℕ) → k ≡ k'
    → R ≡ verdict (claim 15 (leb (length (takes_of k')) (length s)) ∷ operands_fit P 0 (takes_of k') s) → R ≡ verdict (asked P s (takes_of k))
unfolding asked
by_takes P s k k' R e h = rw e h

-- a count of operands, where the code has the depth
module _ (R : Ruling ℕ) (k : ℕ) (t : List ℕ) (x d : ℕ) where
  pub need_of : R ≡ verdict (claim 15 (leb k d) ∷ []) → R ≡ verdict (claim 15 (leb k (length (stack_at t x d))) ∷ [])
  need_of h = h ∙ ap (λ (n : ℕ). verdict (claim 15 (leb k n) ∷ [])) (sym (length-stack t x d))

pub none_needed : (s : List Ty) → pass ≡ verdict {K = ℕ} (claim 15 (leb 0 (length s)) ∷ [])
none_needed s = claim_yes 15 (leb 0 (length s)) (leb-zero (length s))

pub ruleset takings = (by_takes, claim_on, claim_off, need_of, none_needed)

-- all that is asked: the operands, then room for what is left
module _ (P : Program) (most : ℕ) (ts us : List Ty) (t : List ℕ) (h : Held) (p c : ℕ) where
  pub form-parts : c ≡ length ts → p ≡ length us → then (verdict (asked P (stack_at t (h.at + 32) h.depth) ts)) (verdict (claim 15 (leb (p + (h.depth - c)) most) ∷ []))
      ≡ verdict (form_claims P most ts us (held t h))
  unfolding asked form_claims
  form-parts e f =
      ap (λ (i : ℕ). then (verdict (claim 15 (leb (length ts) (length s)) ∷ operands_fit P 0 ts s)) (verdict (claim 15 (leb i most) ∷ []))) long
      ∙ sym (verdict-append (claim 15 (leb (length ts) (length s)) ∷ operands_fit P 0 ts s) (claim 15 (leb (length (us ++ drop (length ts) s)) most) ∷ []))
    where
      s : List Ty
      s = stack_at t (h.at + 32) h.depth

      long : p + (h.depth - c) ≡ length (us ++ drop (length ts) s)
      long =
          let x : length (drop (length ts) s) ≡ h.depth - length ts = ap length (drop-stack (length ts) t (h.at + 32) h.depth) ∙ length-stack t (h.at + 32) (h.depth - length ts) in
          omega (arith, length-append us (drop (length ts) s))

-- what is left: what a match found
module _ (g : Option code.Ty) (k : ℕ) (t : List ℕ) (h r : Held) where
  pub leave-cut : g ≡ None → Moved h r (h.depth - k) → held t r ≡ turned k (gives_of g) (held t h)
  leave-cut e m = cut-held t h r k m ∙ ap (λ (us : List Ty). turned k us (held t h)) (sym (ap gives_of e))

  pub leave_put : (u : List ℕ) (w : code.Ty) → g ≡ Some w → held u r ≡ pushed k (type_of w.word) (held t h) → held u r ≡ turned k (gives_of g) (held t h)
  leave_put u w e m = m ∙ ap (λ (us : List Ty). turned k us (held t h)) (sym (ap gives_of e))

module _ (h r : Held) (d : ℕ) where
  pub kept_moved : Moved h r d → d ≤ 3 + h.depth → Kept h r
  kept_moved m l = record { at = m.at; locals = m.locals; depth = omega arith }
