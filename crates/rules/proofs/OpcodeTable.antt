-- That the opcode table's 768 numbers say what the listed ranges say.
use Rattle.std.specs.Prelude.{ℕ, ◌+◌, ◌*◌, ◌<◌, ◌≡◌, refl, Bool, true, ◌&&◌, eqb, get_or}
use Rattle.std.proofs.Common.{eqb-true}
use Rattle.kit.specs.Bools.{both_left, both_right}
use Rattle.kit.specs.Rows.{every, row}
use Rattle.rules.specs.Opcodes.{rows, row_in, row_of, length_of, taken_of, left_of}
use Rattle.rules.specs.OpcodeTable.{table, right, Right}

passes : every right 0 256 table ≡ true
unfolding table right rows row_in row_of
passes = refl

pub rule : (op : ℕ) → op < 256 → Right op
unfolding right
rule op h =
    let a : Bool = eqb (get_or table (3 * op) 0) (length_of (row_of op)) in
    let b : Bool = eqb (get_or table (3 * op + 1) 0) (taken_of (row_of op)) in
    let d : Bool = eqb (get_or table (3 * op + 2) 0) (left_of (row_of op)) in
    let t : (a && (b && d)) ≡ true = row right 256 table passes op h in
    record {
      length = eqb-true _ _ (both_left a (b && d) t);
      taken = eqb-true _ _ (both_left b d (both_right a (b && d) t));
      left = eqb-true _ _ (both_right b d (both_right a (b && d) t));
    }
