-- Tests joined by `◌&&◌` taken apart, a test as a type and as an equation, and two tests that hold together. Assumes nothing.
use Rattle.std.specs.Prelude.{◌≡◌, refl, Bool, true, false, ◌&&◌, T}
use Rattle.std.proofs.Common.{sym, subst}

pub T_true : (b : Bool) → T b → b ≡ true
T_true true t = refl
T_true false t = absurd t

pub true-T : (b : Bool) → b ≡ true → T b
true-T b e = subst T (sym e) tt

pub T_false : (b : Bool) → (T b → ⊥) → b ≡ false
T_false true h = absurd (h tt)
T_false false h = refl

pub false-T : (b : Bool) → b ≡ false → T b → ⊥
false-T b e t = subst T e t

pub not_so : false ≡ true → ⊥
not_so e = true-T false e

pub both_left : (a b : Bool) → (a && b) ≡ true → a ≡ true
both_left true b e = refl
both_left false b e = e

pub both_right : (a b : Bool) → (a && b) ≡ true → b ≡ true
both_right true b e = e
both_right false b e = absurd (not_so e)

pub both : (a b : Bool) → a ≡ true → b ≡ true → (a && b) ≡ true
both true b p q = q
both false b p q = p

pub T-left : (a b : Bool) → T (a && b) → T a
T-left true b t = tt
T-left false b t = t

pub T-right : (a b : Bool) → T (a && b) → T b
T-right true b t = t
T-right false b t = absurd t

pub T-both : (a b : Bool) → T a → T b → T (a && b)
T-both true b s t = t
T-both false b s t = s

pub same_truth : (a b : Bool) → (a ≡ true → b ≡ true) → (b ≡ true → a ≡ true) → a ≡ b
same_truth true b h k = sym (h refl)
same_truth false true h k = k refl
same_truth false false h k = refl
