-- What demand 3 names, each by itself, of every machine that the run of an accepted bundle comes through.
use Rattle.std.specs.Prelude.{ℕ, ◌+◌, ◌<◌, ◌≤◌, ◌≡◌, length}
use mathlib.Core.List.{List, [], ◌∷◌}
use Rattle.std.proofs.Math.Dec.{T}
use Rattle.kit.specs.Claims.{pass}
use Rattle.reader.specs.BuiltIns.{first_class}
use Rattle.classfiles.specs.Descriptors.{Desc}
use Rattle.reader.specs.Program.{Program, method}
use Rattle.reader.specs.Link.{program}
use Rattle.rules.specs.Instruction.{arraylength}
use Rattle.rules.specs.Opcodes.{body, code_of, instruction}
use Rattle.rules.specs.Types.{object_ty}
use Rattle.shaping.specs.Verify.{read_shaped, verdict_of}
use Rattle.plain.specs.Machine.{Machine, heap_of, stopped, stuck}
use Rattle.plain.specs.Step.{step}
use Rattle.plain.specs.Run.{is_entry, started}
use Rattle.facts.specs.Classes.{Link}
use Rattle.facts.specs.Linking.{linking}
use Rattle.soundness.specs.Accepted.{accepted}
use Rattle.soundness.specs.Inv.{Inv}
use Rattle.soundness.specs.Calls.{Accepts}
use Rattle.soundness.specs.Theorem.{passing, entry, start_ok}
use Rattle.soundness.specs.Consequences.{Reached, start, onward, code_at, offset_of, operands_of, takes, are_asked, all_made, order_code, order_room, order_asked, order_array, good_next, good-stuck, asked-length, asked-made}
use Rattle.soundness.proofs.Exec.{step_ok}

module _ {P : Program} (L : Link P) (acc : Accepts P) (E : List Desc) where
  reached_inv : {K₀ K : Machine} → Inv P E K₀ → Reached P K₀ K → Inv P E K
  reached_inv i start = i
  reached_inv i (onward r e) = good_next L acc E (step_ok L acc E (reached_inv i r)) e

-- ---- the run of an accepted bundle
module _ (s : List ℕ) (v : verdict_of s ≡ pass) (P : Program) (e : read_shaped s ≡ program P) (i j : ℕ) (h : T (is_entry P i j)) (args : List ℕ)
    (n : length args ≡ length (method P (first_class + i) j).params) (cells : List ℕ) (K : Machine) (r : Reached P (started P cells i j args) K) where
  abbrev link : Link P
  link = linking (accepted s v P e).before.read

  abbrev passed : Accepts P
  passed = passing (accepted s v P e)

  abbrev results : List Desc
  results = (method P (first_class + i) j).results

  reached : Inv P results K
  reached = reached_inv link passed results (start_ok link passed i j (entry P i j h) args cells n) r

  -- the next step is not stuck
  pub never_stuck : step P K ≡ stopped stuck → ⊥
  never_stuck = good-stuck link passed results (step_ok link passed results reached)

  -- control never leaves the code
  pub control_stays : offset_of K < length (code_of (code_at P K))
  control_stays = order_code link passed results reached

  -- no operand is above max_stack
  pub none_above_max_stack : length (operands_of K) ≤ (body (code_at P K)).max_stack
  none_above_max_stack = order_room link passed results reached

  -- no operand is of the wrong kind
  pub none_of_wrong_kind : T (are_asked P (heap_of K) (takes P (code_at P K) (instruction P (code_at P K) (offset_of K))) (operands_of K))
  none_of_wrong_kind = order_asked link passed results reached

  -- no object is read, written, called, passed on or returned before a built-in class's constructor has run on it
  pub none_unready : T (all_made (heap_of K) (takes P (code_at P K) (instruction P (code_at P K) (offset_of K))) (operands_of K))
  none_unready = asked-made P (heap_of K) (takes P (code_at P K) (instruction P (code_at P K) (offset_of K))) (operands_of K) none_of_wrong_kind

  -- arraylength too takes null or a ready object
  pub array_of_arraylength : instruction P (code_at P K) (offset_of K) ≡ arraylength → T (are_asked P (heap_of K) (object_ty ∷ []) (operands_of K))
  array_of_arraylength = order_array link passed results reached

  -- no operand is missing
  pub none_missing : length (takes P (code_at P K) (instruction P (code_at P K) (offset_of K))) ≤ length (operands_of K)
  none_missing = asked-length P (heap_of K) (takes P (code_at P K) (instruction P (code_at P K) (offset_of K))) (operands_of K) none_of_wrong_kind
