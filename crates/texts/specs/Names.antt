-- Names of classes and members (JVMS 4.2), with < and > only in `<init>`.
use Rattle.std.specs.Prelude.{ℕ, ◌+◌, ◌-◌, List, [], ◌∷◌, Bool, true, false, cond, length, get_or, ltb, eqb, ◌≡◌}
use Rattle.std.proofs.Common.{ap, ◌∙◌}
use Rattle.kit.specs.Scan.{all_of}
use Rattle.kit.specs.Lists.{eq_list}

abbrev pub Text : Type 0
Text = List ℕ

-- `<init>`, `Code`, `StackMapTable`
abbrev pub init : Text
init = 60 ∷ 105 ∷ 110 ∷ 105 ∷ 116 ∷ 62 ∷ []

abbrev pub Code : Text
Code = 67 ∷ 111 ∷ 100 ∷ 101 ∷ []

abbrev pub StackMapTable : Text
StackMapTable = 83 ∷ 116 ∷ 97 ∷ 99 ∷ 107 ∷ 77 ∷ 97 ∷ 112 ∷ 84 ∷ 97 ∷ 98 ∷ 108 ∷ 101 ∷ []

abbrev pub slash : ℕ
slash = 47

-- none of . ; [ / < >
unfoldable pub plain : ℕ → Bool
plain b =
    cond (eqb b 46) false (cond (eqb b 59) false (cond (eqb b 91) false (cond (eqb b slash) false (cond (eqb b 60) false (cond (eqb b 62) false true)))))

unfoldable pub plain_at : Text → ℕ → Bool
plain_at t i = plain (get_or t i 0)

-- an unqualified name: not empty, of plain bytes
unfoldable pub unqualified : Text → Bool
unqualified t = cond (eqb (length t) 0) false (all_of (plain_at t) (length t))

-- a / stands between two parts that are not empty
unfoldable pub class_byte : Text → ℕ → Bool
class_byte t i =
    cond (eqb (get_or t i 0) slash) (cond (eqb i 0) false (cond (eqb (get_or t (i - 1) 0) slash) false (ltb (i + 1) (length t)))) (plain (get_or t i 0))

unfoldable pub class_name : Text → Bool
class_name t = cond (eqb (length t) 0) false (all_of (class_byte t) (length t))

unfoldable pub is_init : Text → Bool
is_init t = eq_list t init

unfoldable pub method_name : Text → Bool
method_name t = cond (is_init t) true (unqualified t)

-- ---- laws
pub plain_via : (r : Bool) (k b : ℕ) → r ≡ plain k → k ≡ b → r ≡ plain b
plain_via r k b h e = h ∙ ap plain e
