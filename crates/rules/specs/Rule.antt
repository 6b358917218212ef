-- What one instruction asks and does: the type system, a line a form (JVMS 4.10.1.9 as document 01 cuts it).
use Rattle.std.specs.Prelude.{ℕ, suc, Bool, true, false, cond, not, List, [], ◌∷◌, ◌++◌, reverse, length, get_or, drop, set, eqb}
use Rattle.kit.specs.Claims.{Claim, claim}
use Rattle.classfiles.specs.Descriptors.{cls, arr, Desc, dint, dref}
use Rattle.reader.specs.Program.{Program, Method, class}
use Rattle.rules.specs.Instruction.{Instr, MethodRef, nop, aconstnull, pop, dup, dupx1, swap, ineg, arraylength, iaload, aaload, iastore, aastore, athrow, ireturn, areturn, return, iconst, iload, aload, istore, astore, goto, new, iinc, ibin, idiv, ifint, ificmp, ifacmp, ifnull, getfield, putfield, invokevirtual, invokespecial, invokestatic, newarray, checkcast, instanceof, illegal, unresolved}
use Rattle.rules.specs.Resolve.{found}
use Rattle.rules.specs.Lines.{new_class_at}
use Rattle.rules.specs.Types.{Key, at, self, Ty, top, int, null, ini, uninit, ty_of, tys_of, object_ty, throwable_ty, int_array, object_array, is_int, is_reference, is_array, element_ty}
use Rattle.rules.specs.States.{State, state, top_of, operand, replace_all, no_copy}

-- takes: the operands, top first, where top stands for any; asks: the form's own claims; after: the state that goes on;
-- caught: the locals that a handler sees
pub record Rule : Type 0 where
  pub takes : List Ty
  pub asks : List (Claim ℕ)
  pub after : State
  pub caught : List Ty

abbrev pub rule' : List Ty → List (Claim ℕ) → State → List Ty → Rule
rule' ts cs S l = record { takes = ts; asks = cs; after = S; caught = l }

-- the class of an uninitialised object
abbrev pub key_class : Program → Method → Key → ℕ
key_class P M (at L) = new_class_at P M L
key_class P M self = M.owner

-- `<init>` of the class c takes uninit(L) of exactly c, or uninitThis where c is the own or the direct super class
abbrev pub key_ok : Program → Method → ℕ → Key → Bool
key_ok P M c (at L) = eqb (new_class_at P M L) c
key_ok P M c self = cond (eqb M.owner c) true (eqb (class P M.owner).parent c)

abbrev pub init_ok : Program → Method → ℕ → Ty → Bool
init_ok P M c top = false
init_ok P M c int = false
init_ok P M c null = false
init_ok P M c (ini r) = false
init_ok P M c (uninit k) = key_ok P M c k

abbrev pub key_of : Ty → Key
key_of top = self
key_of int = self
key_of null = self
key_of (ini r) = self
key_of (uninit k) = k

abbrev pub flag_after : Key → Bool → Bool
flag_after (at L) g = g
flag_after self g = false

-- afterwards every copy is the initialised class
abbrev pub initialised : Program → Method → Key → State → State
initialised P M k (state g l s) =
    state (flag_after k g) (replace_all k (ini (cls (key_class P M k))) l) (replace_all k (ini (cls (key_class P M k))) s)

-- results as the descriptor has them
abbrev pub returns_int : List Desc → Bool
returns_int [] = false
returns_int (dint ∷ ds) = true
returns_int (dref r ∷ ds) = false

abbrev pub returns_ref : List Desc → Bool
returns_ref [] = false
returns_ref (dint ∷ ds) = false
returns_ref (dref r ∷ ds) = true

abbrev pub returns_void : List Desc → Bool
returns_void [] = true
returns_void (d ∷ ds) = false

abbrev pub returned : List Desc → Ty
returned [] = top
returned (d ∷ ds) = ty_of d

-- a return unlike the descriptor is 16, a constructor's with the flag set 18
abbrev pub leaving : List Ty → Bool → State → Rule
leaving ts kind (state g l s) = rule' ts (claim 16 kind ∷ claim 18 (not g) ∷ []) (state g l []) l

-- arguments, the last on top
abbrev pub arguments : Method → List Ty
arguments N = reverse (tys_of N.params)

abbrev pub after_call : Method → ℕ → List Ty → List Ty
after_call N k s = tys_of N.results ++ drop k s

unfoldable pub constructing : Program → Method → MethodRef → List Ty → State → Rule
constructing P M m args (state g l s) =
    let receiver = operand (length args) s in
    rule' (args ++ (top ∷ [])) (claim 18 (init_ok P M m.named receiver) ∷ [])
    (initialised P M (key_of receiver) (state g l (drop (suc (length args)) s)))
    (replace_all (key_of receiver) top l)

unfoldable pub calling : List Ty → Method → State → Rule
calling ts N (state g l s) = rule' ts [] (state g l (after_call N (length ts) s)) l

unfoldable pub rule : Program → Method → ℕ → Instr → State → Rule
rule P M o nop (state g l s) = rule' [] [] (state g l s) l
rule P M o aconstnull (state g l s) = rule' [] [] (state g l (null ∷ s)) l
rule P M o pop (state g l s) = rule' (top ∷ []) [] (state g l (drop 1 s)) l
rule P M o dup (state g l s) = rule' (top ∷ []) [] (state g l (top_of s ∷ s)) l
rule P M o dupx1 (state g l s) = rule' (top ∷ top ∷ []) [] (state g l (top_of s ∷ operand 1 s ∷ top_of s ∷ drop 2 s)) l
rule P M o swap (state g l s) = rule' (top ∷ top ∷ []) [] (state g l (operand 1 s ∷ top_of s ∷ drop 2 s)) l
rule P M o ineg (state g l s) = rule' (int ∷ []) [] (state g l (int ∷ drop 1 s)) l
rule P M o arraylength (state g l s) = rule' (top ∷ []) (claim 16 (is_array (top_of s)) ∷ []) (state g l (int ∷ drop 1 s)) l
rule P M o iaload (state g l s) = rule' (int ∷ int_array ∷ []) [] (state g l (int ∷ drop 2 s)) l
rule P M o aaload (state g l s) = rule' (int ∷ object_array ∷ []) [] (state g l (element_ty (operand 1 s) ∷ drop 2 s)) l
rule P M o iastore (state g l s) = rule' (int ∷ int ∷ int_array ∷ []) [] (state g l (drop 3 s)) l
rule P M o aastore (state g l s) = rule' (object_ty ∷ int ∷ object_array ∷ []) [] (state g l (drop 3 s)) l
rule P M o athrow (state g l s) = rule' (throwable_ty ∷ []) [] (state g l []) l
rule P M o ireturn S = leaving (int ∷ []) (returns_int M.results) S
rule P M o areturn S = leaving (returned M.results ∷ []) (returns_ref M.results) S
rule P M o return S = leaving [] (returns_void M.results) S
rule P M o (iconst v) (state g l s) = rule' [] [] (state g l (int ∷ s)) l
rule P M o (iload j) (state g l s) = rule' [] (claim 16 (is_int (get_or l j top)) ∷ []) (state g l (int ∷ s)) l
rule P M o (aload j) (state g l s) = rule' [] (claim 16 (is_reference (get_or l j top)) ∷ []) (state g l (get_or l j top ∷ s)) l
rule P M o (istore j) (state g l s) = rule' (int ∷ []) [] (state g (set l j int) (drop 1 s)) l
rule P M o (astore j) (state g l s) = rule' (top ∷ []) (claim 16 (is_reference (top_of s)) ∷ []) (state g (set l j (top_of s)) (drop 1 s)) l
rule P M o (goto t) (state g l s) = rule' [] [] (state g l s) l
rule P M o (new c) (state g l s) = rule' [] (claim 18 (no_copy (at o) s) ∷ []) (state g (replace_all (at o) top l) (uninit (at o) ∷ s)) l
rule P M o (iinc j k) (state g l s) = rule' [] (claim 16 (is_int (get_or l j top)) ∷ []) (state g l s) l
rule P M o (ibin f) (state g l s) = rule' (int ∷ int ∷ []) [] (state g l (int ∷ drop 2 s)) l
rule P M o (idiv f) (state g l s) = rule' (int ∷ int ∷ []) [] (state g l (int ∷ drop 2 s)) l
rule P M o (ifint f t) (state g l s) = rule' (int ∷ []) [] (state g l (drop 1 s)) l
rule P M o (ificmp f t) (state g l s) = rule' (int ∷ int ∷ []) [] (state g l (drop 2 s)) l
rule P M o (ifacmp b t) (state g l s) = rule' (object_ty ∷ object_ty ∷ []) [] (state g l (drop 2 s)) l
rule P M o (ifnull b t) (state g l s) = rule' (object_ty ∷ []) [] (state g l (drop 1 s)) l
rule P M o (getfield f) (state g l s) = rule' (ini (cls f.named) ∷ []) [] (state g l (ty_of f.type ∷ drop 1 s)) l
rule P M o (putfield f) (state g l s) = rule' (ty_of f.type ∷ ini (cls f.named) ∷ []) [] (state g l (drop 2 s)) l
rule P M o (invokevirtual m) S = calling (arguments (found P m) ++ (ini (cls m.named) ∷ [])) (found P m) S
rule P M o (invokespecial m) S = constructing P M m (arguments (found P m)) S
rule P M o (invokestatic m) S = calling (arguments (found P m)) (found P m) S
rule P M o (newarray d) (state g l s) = rule' (int ∷ []) [] (state g l (ini (arr d) ∷ drop 1 s)) l
rule P M o (checkcast r) (state g l s) = rule' (object_ty ∷ []) [] (state g l (ini r ∷ drop 1 s)) l
rule P M o (instanceof r) (state g l s) = rule' (object_ty ∷ []) [] (state g l (int ∷ drop 1 s)) l
rule P M o illegal (state g l s) = rule' [] (claim 11 false ∷ []) (state g l s) l
rule P M o unresolved (state g l s) = rule' [] (claim 13 false ∷ []) (state g l s) l
