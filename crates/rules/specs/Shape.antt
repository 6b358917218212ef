-- Phase C, shape, of one method: 10; all 11; 12 and 13 in order; the exception table.
use Rattle.std.specs.Prelude.{ℕ, Bool, true, false, cond, List, [], ◌∷◌, ◌++◌, length, ltb, leb, eqb}
use Rattle.kit.specs.Claims.{Claim, claim}
use Rattle.reader.specs.Verdicts.{Fault, fault}
use Rattle.reader.specs.BuiltIns.{throwable}
use Rattle.classfiles.specs.Members.{Found, none, once, twice, Handler}
use Rattle.reader.specs.Program.{Program, Method, class, class_count, below}
use Rattle.rules.specs.Instruction.{targets, form_ok, resolved}
use Rattle.rules.specs.Resolve.{resolve, caught_class}
use Rattle.rules.specs.Opcodes.{body, code_of}
use Rattle.rules.specs.Lines.{Line, line, lines, is_start}
use Rattle.rules.specs.States.{parameter_tys}

abbrev pub is_once : {A : Type 0} → Found A → Bool
is_once none = false
is_once (once a) = true
is_once twice = false

abbrev pub not_twice : {A : Type 0} → Found A → Bool
not_twice none = true
not_twice (once a) = true
not_twice twice = false

-- 10: one Code, at most one StackMapTable, room for the parameters
unfoldable pub body_claims : Method → List (Claim Fault)
body_claims M =
    claim (fault 10 0) (is_once M.body) ∷ claim (fault 10 0) (not_twice (body M).frames)
    ∷ claim (fault 10 0) (leb (length (parameter_tys M)) (body M).max_locals) ∷ []

-- 11: listed, not cut off, its local below max_locals, its array code good
abbrev pub line_ok : Method → Line → Bool
line_ok M (line o i n) = cond (ltb o n) (cond (leb n (length (code_of M))) (form_ok (body M).max_locals i) false) false

abbrev pub line_start : Line → ℕ
line_start (line o i n) = o

unfoldable pub form_claims : Method → List Line → List (Claim Fault)
form_claims M [] = []
form_claims M (l ∷ ls) = claim (fault 11 (line_start l)) (line_ok M l) ∷ form_claims M ls

-- 12 and 13: targets are instruction starts, references are resolved
unfoldable pub all_starts : List Line → List ℕ → Bool
all_starts ls [] = true
all_starts ls (t ∷ ts) = cond (is_start ls t) (all_starts ls ts) false

abbrev pub reach_claims : List Line → Line → List (Claim Fault)
reach_claims all (line o i n) = claim (fault 12 o) (all_starts all (targets i)) ∷ claim (fault 13 o) (resolved i) ∷ []

unfoldable pub reference_claims : List Line → List Line → List (Claim Fault)
reference_claims all [] = []
reference_claims all (l ∷ ls) = reach_claims all l ++ reference_claims all ls

-- ---- the exception table
-- the class that an entry catches, Throwable where catch_type is 0; as many as there are classes where it names none
unfoldable pub catch_class : Program → Method → Handler → ℕ
catch_class P M h =
    cond (eqb h.catch 0) throwable (caught_class (resolve P (class P M.owner).pool h.catch) (class_count P))

unfoldable pub range_ok : Method → List Line → Handler → Bool
range_ok M all h =
    cond (is_start all h.start)
    (cond (is_start all h.target)
    (cond (cond (is_start all h.end) true (eqb h.end (length (code_of M)))) (ltb h.start h.end) false) false) false

unfoldable pub catch_ok : Program → Method → Handler → Bool
catch_ok P M h = cond (ltb (catch_class P M h) (class_count P)) (below P (catch_class P M h) throwable) false

unfoldable pub table_claims : Program → Method → List Line → List Handler → List (Claim Fault)
table_claims P M all [] = []
table_claims P M all (h ∷ hs) =
    claim (fault 12 h.start) (range_ok M all h) ∷ claim (fault 13 h.start) (catch_ok P M h) ∷ table_claims P M all hs

unfoldable pub shape_claims : Program → Method → List (Claim Fault)
shape_claims P M =
    let all = lines P M in
    body_claims M ++ (form_claims M all ++ (reference_claims all all ++ table_claims P M all (body M).table))
