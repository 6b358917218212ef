-- The lengths of instructions again, two bits an opcode, and that they are the table's. Assumes nothing.
use Rattle.std.specs.Prelude.{ℕ, ◌+◌, ◌*◌, ◌/◌, ◌%◌, ◌^◌, ◌<◌, ◌≤◌, ◌≡◌, refl, Bool, true, List, [], ◌∷◌, eqb, get_or}
use Rattle.std.proofs.Common.{sym, arith, eqb-true}
use Rattle.std.proofs.Math.ListN.{get_or-eq_default}
use Rattle.kit.specs.Scan.{first_not, all_of, all_at}
use Rattle.rules.specs.Opcodes.{rows, row_in, row_of, length_of}

unfoldable pub packs : List ℕ
packs = 87381 ∷ 89655342 ∷ 357564416 ∷ 358621200 ∷ 1430257664 ∷ 1075068992 ∷ 16843009 ∷ 286327041 ∷ 785 ∷ 4294705152 ∷ 16842751 ∷ 1589903109 ∷ 61455 ∷ 0 ∷ 0 ∷ 0 ∷ []

-- of the sixteen opcodes from 16 k on
unfoldable pub packed_at : ℕ → ℕ
packed_at k = get_or packs k 0

pub packed_past : (k : ℕ) → 16 ≤ k → 0 ≡ packed_at k
unfolding packed_at packs
packed_past k h = sym (get_or-eq_default packs 0 h)

-- none of those below it, nor it
pub beyond : (n k : ℕ) → n ≤ k → (k ≡ n → ⊥) → n + 1 ≤ k
beyond n k h e = omega arith

fits : ℕ → Bool
fits op = eqb (packed_at (op / 16) / 2 ^ (2 * (op % 16)) % 4) (length_of (row_of op))

passes : all_of fits 256 ≡ true
unfolding all_of first_not fits packed_at packs rows row_in row_of
passes = refl

pub size_is : (op : ℕ) → op < 256 → packed_at (op / 16) / 2 ^ (2 * (op % 16)) % 4 ≡ length_of (row_of op)
unfolding fits
size_is op h = eqb-true _ _ (all_at fits 256 passes op h)
