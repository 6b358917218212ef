-- What the code prepares for an instruction's rule is so of the program and method at a site. Assumes nothing.
use Rattle.std.specs.Prelude.{ℕ, ◌+◌, ◌*◌, ◌/◌, ◌%◌, ◌<◌, ◌≤◌, ◌≡◌, refl, length}
use Rattle.std.proofs.Common.{◌∙◌, inl, arith, lt-ltb, sym, ap, List, reverse}
use Rattle.std.proofs.lemmas.List.{length-reverse}
use Rattle.classfiles.specs.Descriptors.{Desc}
use Rattle.reader.specs.TypeCodes.{results_in}
use Rattle.reader.specs.Program.{Program, Method, method}
use Rattle.rules.specs.Instruction.{new_class}
use Rattle.rules.specs.Opcodes.{instruction}
use Rattle.rules.specs.Resolve.{found}
use Rattle.rules.specs.Lines.{new_class_at}
use Rattle.rules.specs.Types.{at, self, Ty, tys_of}
use Rattle.rules.specs.States.{operand}
use Rattle.rules.specs.Rule.{key_of}
use Rattle.rules.specs.TypeWords.{type_of}
use Rattle.rules.specs.TypeLaws.{type-uninit}
use Rattle.rules.specs.InstructionWords.{plain_of, branch_of, local_of, stack_of, leave_of, callee_of, call_of, instr_of}
use Rattle.rules.specs.Slots.{stack_at, operands_of, Roomy}
use Rattle.rules.specs.SlotLaws.{stack_same, slot-word}
use Rattle.rules.specs.Decoding.{DecodedAt}
use Rattle.rules.specs.Sites.{site_code, Sited}
use Rattle.shaping.specs.SiteLaws.{decoded}
use Rattle.rules.specs.Known.{facts_of, callee_in}
use Rattle.rules.specs.KnownLaws.{Told, key_self}
use Rattle.verifier.specs.Callees.{entry_of, params_of, back_of, Typed, Back, Beside, length_tys, Ready}
use Rattle.rules.specs.declared.site.Site.{Site}
use Rattle.rules.specs.declared.slots.Held.{Held}
use Rattle.rules.specs.declared.calls.Known.{Known}
use Rattle.rules.specs.declared.instruction.Callee.{Callee}
use Rattle.rules.specs.declared.instruction.Plain.{Plain}
use Rattle.rules.specs.declared.instruction.Plain.TheVariants.{Nop, Aconstnull, Pop, Ineg, Iaload, Iastore, Aastore, Iconst, Ibin, Idiv, Newarray, Checkcast, Instanceof, Getfield, Putfield}
use Rattle.rules.specs.declared.instruction.Branch.{Branch}
use Rattle.rules.specs.declared.instruction.Branch.TheVariants.{Goto, Ifint, Ificmp, Ifacmp, Ifnull}
use Rattle.rules.specs.declared.instruction.Local.{Local}
use Rattle.rules.specs.declared.instruction.Local.TheVariants.{Iload, Aload, Istore, Astore, Iinc}
use Rattle.rules.specs.declared.instruction.Stack.{Stack}
use Rattle.rules.specs.declared.instruction.Stack.TheVariants.{Dup, Dupx1, Swap, Arraylength, Aaload}
use Rattle.rules.specs.declared.instruction.Leave.{Leave}
use Rattle.rules.specs.declared.instruction.Leave.TheVariants.{Athrow, Ireturn, Areturn, Return}
use Rattle.rules.specs.declared.instruction.Call.{Call}
use Rattle.rules.specs.declared.instruction.Call.TheVariants.{Virtual, Special, Static}
use Rattle.rules.specs.declared.instruction.Instr as code
use Rattle.rules.specs.declared.instruction.Instr.TheVariants.{Simple, Jump, OnLocal, OnStack, Leaving, New, Calling, Illegal, Unresolved}

-- ---- the method that a call names
abbrev pub no_callee : Callee
no_callee = record { named = 0; owner = 0; index = 0 }

abbrev pub callee' : code.Instr → Callee
callee' (Simple i) = no_callee
callee' (Jump i) = no_callee
callee' (OnLocal i) = no_callee
callee' (OnStack i) = no_callee
callee' (Leaving i) = no_callee
callee' (New c) = no_callee
callee' (Calling c) = callee_in c
callee' Illegal = no_callee
callee' Unresolved = no_callee

unfoldable pub callee_at : code.Instr → Callee
callee_at i = callee' i

pub callee_form : (r : Callee) (i i' : code.Instr) → i ≡ i' → r ≡ callee' i' → r ≡ callee_at i
unfolding callee_at
callee_form r i i' e h = rw e h

pub callee_call : (r : Callee) (c c' : Call) → c ≡ c' → r ≡ callee_in c' → r ≡ callee_in c
callee_call r c c' e h = rw e h

-- ---- the class that a new names
abbrev pub made' : code.Instr → ℕ
made' (Simple i) = 0
made' (Jump i) = 0
made' (OnLocal i) = 0
made' (OnStack i) = 0
made' (Leaving i) = 0
made' (New c) = c
made' (Calling c) = 0
made' Illegal = 0
made' Unresolved = 0

unfoldable pub made_at : code.Instr → ℕ
made_at i = made' i

pub made_form : (r : ℕ) (i i' : code.Instr) → i ≡ i' → r ≡ made' i' → r ≡ made_at i
unfolding made_at
made_form r i i' e h = rw e h

plain_makes : (i : Plain) → 0 ≡ new_class (plain_of i)
plain_makes Nop = refl
plain_makes Aconstnull = refl
plain_makes Pop = refl
plain_makes Ineg = refl
plain_makes Iaload = refl
plain_makes Iastore = refl
plain_makes Aastore = refl
plain_makes (Iconst v) = refl
plain_makes (Ibin f) = refl
plain_makes (Idiv f) = refl
plain_makes (Newarray t) = refl
plain_makes (Checkcast t) = refl
plain_makes (Instanceof t) = refl
plain_makes (Getfield f) = refl
plain_makes (Putfield f) = refl

branch-makes : (i : Branch) → 0 ≡ new_class (branch_of i)
branch-makes (Goto t) = refl
branch-makes (Ifint f t) = refl
branch-makes (Ificmp f t) = refl
branch-makes (Ifacmp b t) = refl
branch-makes (Ifnull b t) = refl

local_makes : (i : Local) → 0 ≡ new_class (local_of i)
local_makes (Iload j) = refl
local_makes (Aload j) = refl
local_makes (Istore j) = refl
local_makes (Astore j) = refl
local_makes (Iinc j k) = refl

stack-makes : (i : Stack) → 0 ≡ new_class (stack_of i)
stack-makes Dup = refl
stack-makes Dupx1 = refl
stack-makes Swap = refl
stack-makes Arraylength = refl
stack-makes Aaload = refl

leave-makes : (i : Leave) → 0 ≡ new_class (leave_of i)
leave-makes Athrow = refl
leave-makes Ireturn = refl
leave-makes Areturn = refl
leave-makes Return = refl

call-makes : (i : Call) → 0 ≡ new_class (call_of i)
call-makes (Virtual m) = refl
call-makes (Special m) = refl
call-makes (Static m) = refl

made_of : (i : code.Instr) → made_at i ≡ new_class (instr_of i)
unfolding made_at
made_of (Simple i) = plain_makes i
made_of (Jump i) = branch-makes i
made_of (OnLocal i) = local_makes i
made_of (OnStack i) = stack-makes i
made_of (Leaving i) = leave-makes i
made_of (New c) = refl
made_of (Calling c) = call-makes c
made_of Illegal = refl
made_of Unresolved = refl

-- r is the class of the new that made an object of that type
pub record MadeBy (s t : List ℕ) (x : Site) (y : Ty) (r : ℕ) : Type 0 where
  pub is : (P : Program) (M : Method) → Sited s t P M x → x.codes ≡ 1 → (L : ℕ) → key_of y ≡ at L → r ≡ new_class_at P M L

key_not : (L : ℕ) → self ≡ at L → ⊥
key_not L e = let z : ◌≡◌ {A = ℕ} 0 1 = cc in absurd (omega arith)

key_same : (K L : ℕ) → at K ≡ at L → K ≡ L
key_same K L e = cc

pub made_none : (s t : List ℕ) (x : Site) (w : ℕ) → (w % 8 ≡ 5 → ⊥) → MadeBy s t x (type_of w) 0
made_none s t x w h = record { is = λ P M d c L e. absurd (key_not L (key_self w h ∙ e)) }

pub made_some : (s t : List ℕ) (x : Site) (w r : ℕ) (i : code.Instr) → w % 8 ≡ 5 → DecodedAt s t x.class (site_code s x) (w / 64) i → r ≡ made_at i → MadeBy s t x (type_of w) r
unfolding new_class_at
made_some s t x w r i h d e = record {
  is = λ P M q c L k.
      let z : w / 64 ≡ L = key_same (w / 64) L (sym (ap key_of (type-uninit w (w / 64) h refl)) ∙ k) in
      e ∙ made_of i ∙ ap new_class (decoded s t P M x q (w / 64) i c d) ∙ ap (λ (o : ℕ). new_class (instruction P M o)) z;
}

-- ---- all of it
pub record Prepared (s t u : List ℕ) (x : Site) (h : Held) (i : code.Instr) (k : Known) : Type 0 where
  pub told : (P : Program) (M : Method) → Sited s t P M x → Typed t P x.classes → x.codes ≡ 1 → Told P M (facts_of u k) (operands_of u h) i
  pub at : k.args.at ≡ 65256
  pub count : k.args.count < 32
  pub beside : Beside 65256 t u

module _ (s t u : List ℕ) (x : Site) (h : Held) (i : code.Instr) (k : Known) (m : Callee) (e n w : ℕ) where
  pub prepared : Roomy t h → h.at + 72 ≤ 65256 → m ≡ callee_at i → e ≡ entry_of t x.classes m.owner m.index
      → Back k.back (back_of t (64 * x.class + x.method)) → x.class < 16 → x.method < 64 → Back k.gives (back_of t e)
      → n ≡ length (params_of t e) → type_of w ≡ operand n (operands_of t h) → MadeBy s t x (type_of w) k.made → k.own ≡ 11 + x.class
      → Ready t u e k.args → Prepared s t u x h i k
  unfolding back_of
  prepared roomy low callee entry back c1 c2 gives count peeked made own ready = record {
    told = λ P M d y o. record {
      results = back.results ∙ own_results ∙ sym d.results;
      own = own ∙ sym d.owner;
      call = λ c q. record {
        params = ready.types ∙ ap (λ (ds : List Desc). reverse (tys_of ds)) (sym (y.params m.owner m.index ∙ ap (params_of t) (sym entry)) ∙ (same P c q).0);
        gives = gives.gives ∙ ap tys_of (sym (y.results m.owner m.index ∙ ap (back_of t) (sym entry)) ∙ (same P c q).1);
        made = λ L z. made.is P M d o L (ap key_of (peeked ∙ ap (λ (j : ℕ). operand j (operands_of t h)) long ∙ ap (operand (length (stack_at u k.args.at k.args.count))) (sym operands)) ∙ z);
      };
    };
    at = ready.at;
    count = ready.count;
    beside = ready.beside;
  }
    where
      own_results : back_of t (64 * x.class + x.method) ≡ results_in t (64 * x.class + x.method)
      own_results = rw (lt-ltb (64 * x.class + x.method) 1024 (omega arith))

      callee_is : (c : Call) → i ≡ Calling c → callee_at i ≡ callee_in c
      callee_is c q = sym (callee_form (callee_in c) i (Calling c) q refl)

      same : (P : Program) (c : Call) → i ≡ Calling c
          → ((method P m.owner m.index).params ≡ (found P (callee_of (callee_in c))).params) × ((method P m.owner m.index).results ≡ (found P (callee_of (callee_in c))).results)
      same P c q =
          let z : m ≡ callee_in c = callee ∙ callee_is c q in
          (ap (λ (v : Callee). (method P v.owner v.index).params) z, ap (λ (v : Callee). (method P v.owner v.index).results) z)

      long : n ≡ length (stack_at u k.args.at k.args.count)
      long = count ∙ sym (ap length ready.types ∙ length-reverse (tys_of (params_of t e)) ∙ length_tys (params_of t e))

      operands : operands_of u h ≡ operands_of t h
      operands =
          let d : h.depth ≤ 40 = roomy.depth in
          stack_same t u (h.at + 32) h.depth (λ j a b. slot-word t u j (ready.beside.kept j (inl (omega arith))))
