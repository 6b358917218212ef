-- Verdicts: number, class, method, place; and the labels of claims below them.
use Rattle.std.specs.Prelude.{ℕ, suc, List, [], ◌∷◌, ◌++◌}
use Rattle.kit.specs.Claims.{Claim, Ruling, pass, fail}
use Rattle.classfiles.specs.Limits.{unnamed}

-- a fault: the verdict's number and its place, before it is said in which class and method
pub record Fault : Type 0 where
  pub number : ℕ
  pub place : ℕ

abbrev pub fault : ℕ → ℕ → Fault
fault n p = record { number = n; place = p }

abbrev pub fault_at : ℕ → ℕ → Fault
fault_at p n = fault n p

pub record Refusal : Type 0 where
  pub number : ℕ
  pub class : ℕ
  pub method : ℕ
  pub place : ℕ

-- phase A names no class or method, phase B no method
abbrev pub in_method : ℕ → ℕ → Fault → Refusal
in_method c m f = record { number = f.number; class = c; method = m; place = f.place }

abbrev pub in_class : ℕ → Fault → Refusal
in_class c f = in_method c unnamed f

abbrev pub in_bundle : Fault → Refusal
in_bundle f = in_method unnamed unnamed f

abbrev pub Verdict : Type 0
Verdict = Ruling Refusal

-- the four numbers as document 01 writes them
unfoldable pub numbers : Verdict → List ℕ
numbers pass = 0 ∷ unnamed ∷ unnamed ∷ 0 ∷ []
numbers (fail r) = r.number ∷ r.class ∷ r.method ∷ r.place ∷ []

-- the claims of each item of a list, with its index, counted from i
unfoldable pub each : {A K : Type 0} → (ℕ → A → List (Claim K)) → ℕ → List A → List (Claim K)
each f i [] = []
each f i (a ∷ as') = f i a ++ each f (suc i) as'
