-- What the code's answers about attributes and members stand for.
use Rattle.std.specs.Prelude.{ℕ, ◌≡◌, refl, List}
use Rattle.texts.specs.Reading.{part}
use Rattle.classfiles.specs.Members.{Found, none, once, twice, Body, another}
use Rattle.classfiles.specs.Attributes.{body_of}
use Rattle.classfiles.specs.declared.members.Found as code
use Rattle.classfiles.specs.declared.members.Part.{Part}
use Rattle.classfiles.specs.declared.members.Code.{Code}

-- what is found, each seen as f says
abbrev pub found : {T A : Type 0} → (T → A) → code.Found T → Found A
found f code.TheVariants.None = none
found f (code.TheVariants.Once v) = once (f v)
found f code.TheVariants.Twice = twice

abbrev pub kept : {T : Type 0} → code.Found T → Found T
kept = found (λ v. v)

abbrev pub content_in : List ℕ → code.Found Part → Found (List ℕ)
content_in s = found (λ p. part s p.from p.len)

abbrev pub code_in : List ℕ → code.Found Code → Found Body
code_in s = found (λ c. body_of s c.start (content_in s c.frames))

-- one more is one more, whatever it is seen as
mapped : {T A : Type 0} → (T → A) → Found T → Found A
mapped f none = none
mapped f (once v) = once (f v)
mapped f twice = twice

module _ {T A : Type 0} (f : T → A) where
  as_mapped : (x : code.Found T) → found f x ≡ mapped f (kept x)
  unfolding mapped
  as_mapped code.TheVariants.None = refl
  as_mapped (code.TheVariants.Once v) = refl
  as_mapped code.TheVariants.Twice = refl

  mapped_another : (x y : Found T) → mapped f (another x y) ≡ another (mapped f x) (mapped f y)
  unfolding mapped another
  mapped_another x none = refl
  mapped_another none (once v) = refl
  mapped_another (once w) (once v) = refl
  mapped_another twice (once v) = refl
  mapped_another x twice = refl

  pub another_seen : (x y r : code.Found T) → kept r ≡ another (kept x) (kept y) → found f r ≡ another (found f x) (found f y)
  another_seen x y r h = rw (as_mapped r, as_mapped x, as_mapped y, h) (mapped_another (kept x) (kept y))

-- which of two is kept
module _ {T : Type 0} (x y : code.Found T) where
  pub kept_first : y ≡ code.TheVariants.None → kept x ≡ another (kept x) (kept y)
  unfolding another
  kept_first e = rw e refl

  pub kept_twice : y ≡ code.TheVariants.Twice → twice ≡ another (kept x) (kept y)
  unfolding another
  kept_twice e = rw e refl

  module _ (v : T) (e : y ≡ code.TheVariants.Once v) where
    pub kept_other : x ≡ code.TheVariants.None → kept y ≡ another (kept x) (kept y)
    unfolding another
    kept_other z = rw (e, z) refl

    pub kept_both : (x ≡ code.TheVariants.None → ⊥) → twice ≡ another (kept x) (kept y)
    unfolding another
    kept_both n = rw e (by x n)
      where
        by : (w : code.Found T) → (w ≡ code.TheVariants.None → ⊥) → twice ≡ another (kept w) (once v)
        by code.TheVariants.None m = absurd (m refl)
        by (code.TheVariants.Once a) m = refl
        by code.TheVariants.Twice m = refl
