-- Tests and claims taken apart.
use Rattle.std.specs.Prelude.{◌≡◌, refl, Bool, true, false, cond, List, [], ◌++◌, ◌⊎◌, T}
use Rattle.std.specs.Bool.{beq}
use Rattle.std.proofs.Common.{inl, inr}
use Rattle.kit.specs.Claims.{Claim, AllT, all_split}

-- tests
pub first_of : (a b : Bool) → T (cond a b false) → T a
first_of true b t = tt
first_of false b t = t

pub second_of : (a b : Bool) → T (cond a b false) → T b
second_of true b t = t
second_of false b t = absurd t

pub both_of : (a b : Bool) → T a → T b → T (cond a b false)
both_of true b s t = t
both_of false b s t = s

pub either_of : (a b : Bool) → T (cond a true b) → T a ⊎ T b
either_of true b t = inl tt
either_of false b t = inr t

pub left-of : (a b : Bool) → T a → T (cond a true b)
left-of true b t = tt
left-of false b t = absurd t

pub right_of : (a b : Bool) → T b → T (cond a true b)
right_of true b t = tt
right_of false b t = t

pub same_truth : (a b : Bool) → T (beq a b) → a ≡ b
same_truth true true t = refl
same_truth true false t = absurd t
same_truth false true t = absurd t
same_truth false false t = refl

-- claims
module _ {K : Type 0} where
  pub AllT-left : (cs ds : List (Claim K)) → AllT (cs ++ ds) → AllT cs
  AllT-left cs ds h = (all_split cs ds h).0

  pub AllT-right : (cs ds : List (Claim K)) → AllT (cs ++ ds) → AllT ds
  AllT-right cs ds h = (all_split cs ds h).1

  pub guarded : (b : Bool) (cs : List (Claim K)) → AllT (cond b cs []) → T b → AllT cs
  guarded true cs a t = a
  guarded false cs a t = absurd t
