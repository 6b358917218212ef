-- The frame table (JVMS 4.7.4): whatever is wrong with frame k is 14 at k.
use Rattle.std.specs.Prelude.{ℕ, zero, suc, ◌+◌, ◌-◌, Bool, true, false, cond, not, List, [], ◌∷◌, ◌++◌, reverse, length, get_or, take, ltb, leb, eqb}
use Rattle.classfiles.specs.Limits.{max_frames}
use Rattle.texts.specs.Reading.{Res, ok, bad, and_then, pre, many, num2_at}
use Rattle.classfiles.specs.Members.{Found, none, once, twice}
use Rattle.reader.specs.Program.{Program, Method, class, is_constructor}
use Rattle.rules.specs.Resolve.{Resolved, by, resolve}
use Rattle.rules.specs.Opcodes.{body}
use Rattle.rules.specs.Lines.{Line, lines, is_start, is_new_at}
use Rattle.rules.specs.Types.{at, self, Ty, top, int, null, ini, uninit, is_top}
use Rattle.rules.specs.States.{State, state, no_copy, padded, parameter_tys}

pub data Frame : Type 0 where
  frame : ℕ → State → Frame

-- a frame as it is written: delta, locals, stack from the bottom
pub record Written : Type 0 where
  pub delta : ℕ
  pub locals : List Ty
  pub stack : List Ty

abbrev pub written : ℕ → List Ty → List Ty → Written
written d l s = record { delta = d; locals = l; stack = s }

module _ (P : Program) (M : Method) (all : List Line) (t : List ℕ) (k : ℕ) where
  -- a u2 of the table
  unfoldable pub number_at : ℕ → Res ℕ
  number_at q = num2_at t (length t) 14 k q

  abbrev pub class_ty : Resolved → ℕ → Res Ty
  class_ty q e = by (bad 14 k) (λ v. bad 14 k) (λ r. ok (ini r) e) (λ f. bad 14 k) (λ m. bad 14 k) q

  -- verification_type_info by its tag: 0, 1, 5, 6 in a constructor, 7 with a known class, 8 with the offset of a new
  unfoldable pub tagged_at : ℕ → ℕ → Res Ty
  tagged_at tag e =
      cond (eqb tag 0) (ok top e)
      (cond (eqb tag 1) (ok int e)
      (cond (eqb tag 5) (ok null e)
      (cond (eqb tag 6) (cond (is_constructor M) (ok (uninit self) e) (bad 14 k))
      (cond (eqb tag 7) (and_then (number_at e) λ i a. class_ty (resolve P (class P M.owner).pool i) a)
      (cond (eqb tag 8) (and_then (number_at e) λ L a. cond (is_new_at all L) (ok (uninit (at L)) a) (bad 14 k)) (bad 14 k))))))

  unfoldable pub info_at : ℕ → Res Ty
  info_at q = cond (ltb q (length t)) (tagged_at (get_or t q 0) (q + 1)) (bad 14 k)

  -- the last n of the list are dropped
  unfoldable pub chopped : ℕ → ℕ → List Ty → ℕ → Res Written
  chopped d n l e = cond (leb n (length l)) (ok (written d (take (length l - n) l) []) e) (bad 14 k)

  unfoldable pub one_on_stack : ℕ → List Ty → ℕ → Res Written
  one_on_stack d l q = and_then (info_at q) λ v e. ok (written d l (v ∷ [])) e

  unfoldable pub appended : ℕ → ℕ → List Ty → ℕ → Res Written
  appended d n l q = and_then (many info_at n q) λ vs e. ok (written d (l ++ vs) []) e

  unfoldable pub full_at : ℕ → ℕ → Res Written
  full_at d q =
      and_then (number_at q) λ n a. and_then (many info_at n a) λ l b. and_then (number_at b) λ m c. and_then (many info_at m c) λ s e. ok (written d l s) e

  -- the forms with a u2 delta, which stands before q
  unfoldable pub long_form : ℕ → ℕ → List Ty → ℕ → Res Written
  long_form tag d l q =
      cond (eqb tag 247) (one_on_stack d l q)
      (cond (ltb tag 251) (chopped d (251 - tag) l q)
      (cond (eqb tag 251) (ok (written d l []) q) (cond (ltb tag 255) (appended d (tag - 251) l q) (full_at d q))))

  -- same, same_locals_1_stack_item, and the forms from 247 on; l is the list as the frame before left it
  unfoldable pub form_at : ℕ → List Ty → ℕ → Res Written
  form_at tag l q =
      cond (ltb tag 64) (ok (written tag l []) q)
      (cond (ltb tag 128) (one_on_stack (tag - 64) l q) (cond (ltb tag 247) (bad 14 k) (and_then (number_at q) λ d a. long_form tag d l a)))

  unfoldable pub no_top : List Ty → Bool
  no_top [] = true
  no_top (v ∷ vs) = cond (is_top v) false (no_top vs)

  -- limits, an instruction start, no top on the stack
  unfoldable pub good : ℕ → Written → Bool
  good o w =
      cond (is_start all o)
      (cond (leb (length w.locals) (body M).max_locals) (cond (leb (length w.stack) (body M).max_stack) (no_top w.stack) false) false) false

  unfoldable pub judged : ℕ → Written → ℕ → Res Written
  judged o w e = cond (good o w) (ok w e) (bad 14 k)

  -- the frame at q; from is where a delta of 0 leads
  unfoldable pub frame_at : ℕ → List Ty → ℕ → Res Written
  frame_at from l q =
      cond (ltb q (length t)) (and_then (form_at (get_or t q 0) l (q + 1)) λ w e. judged (from + w.delta) w e) (bad 14 k)

-- the flag is set exactly if uninitThis stands in it
unfoldable pub state_of : Method → Written → State
state_of M w =
    state (not (no_copy self (w.locals ++ w.stack))) (padded (body M).max_locals w.locals) (reverse w.stack)

module _ (P : Program) (M : Method) (all : List Line) (t : List ℕ) where
  -- n frames from the k-th on; nothing may follow them
  unfoldable pub frames_from : ℕ → ℕ → ℕ → List Ty → ℕ → Res (List Frame)
  frames_from zero k from l q = cond (eqb q (length t)) (ok [] q) (bad 14 k)
  frames_from (suc n) k from l q =
      and_then (frame_at P M all t k from l q) λ w e.
      pre (frame (from + w.delta) (state_of M w) ∷ []) (frames_from n (suc k) (suc (from + w.delta)) w.locals e)

  -- u2 number_of_entries; entries
  unfoldable pub table_at : Res (List Frame)
  table_at =
      and_then (num2_at t (length t) 14 0 0) λ n a. cond (ltb max_frames n) (bad 14 0) (frames_from n 0 0 (parameter_tys M) a)

abbrev pub frames_in : Program → Method → List Line → Found (List ℕ) → Res (List Frame)
frames_in P M all none = ok [] 0
frames_in P M all (once t) = table_at P M all t
frames_in P M all twice = ok [] 0

unfoldable pub frames : Program → Method → Res (List Frame)
frames P M = frames_in P M (lines P M) (body M).frames
