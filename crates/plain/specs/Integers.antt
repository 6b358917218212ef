-- 32-bit integers as cells: two's complement bits, sums and products wrap, division truncates toward zero.
use Rattle.std.specs.Prelude.{ℕ, zero, ◌+◌, ◌-◌, ◌*◌, ◌/◌, ◌%◌, ◌^◌, min, max, Bool, not, ◌==◌, int_div, int_lt, int_rem, nat_lt}
use Rattle.std.specs.Int.Bits.{digits, differ}
use Rattle.std.specs.Int.Signed.{shr_z}
use Rattle.std.specs.Int.{w32}
use Rattle.std.proofs.Common.{of_z, to_z}
use Rattle.rules.specs.Instruction.{Op, add, sub, mul, shl, shr, ushr, and, or, xor, Division, quotient, remainder, Test, eq, ne, lt, ge, gt, le}

abbrev pub wrap : ℕ → ℕ
wrap a = a % 2 ^ 32

unfoldable pub negated : ℕ → ℕ
negated a = wrap (2 ^ 32 - a)

-- shifts are by the low five bits
unfoldable pub compute : Op → ℕ → ℕ → ℕ
compute add a b = wrap (a + b)
compute sub a b = wrap (a + (2 ^ 32 - b))
compute mul a b = wrap (a * b)
compute shl a b = wrap (a * 2 ^ (b % 32))
compute shr a b = of_z w32 (shr_z (to_z w32 a) (2 ^ (b % 32)))
compute ushr a b = a / 2 ^ (b % 32)
compute and a b = digits (λ c. zero) min 32 a b
compute or a b = digits (λ c. c) max 32 a b
compute xor a b = digits (λ c. c) differ 32 a b

-- the remainder has the dividend's sign
unfoldable pub divided : Division → ℕ → ℕ → ℕ
divided quotient a b = of_z w32 (int_div (to_z w32 a) (to_z w32 b))
divided remainder a b = of_z w32 (int_rem (to_z w32 a) (to_z w32 b))

unfoldable pub less : ℕ → ℕ → Bool
less a b = int_lt (to_z w32 a) (to_z w32 b)

unfoldable pub holds : Test → ℕ → ℕ → Bool
holds eq a b = a == b
holds ne a b = not (a == b)
holds lt a b = less a b
holds ge a b = not (less a b)
holds gt a b = less b a
holds le a b = not (less b a)

unfoldable pub negative : ℕ → Bool
negative a = not (nat_lt a (2 ^ 31))
