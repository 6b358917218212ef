-- The machine at an instruction: calls, results of a step, and what steps are made of. What has no meaning is stuck.
use Rattle.std.specs.Prelude.{ℕ, zero, suc, ◌+◌, Bool, true, false, cond, List, [], ◌∷◌, ◌++◌, length, nat_le, nat_lt, slice_index_or}
use Rattle.std.proofs.Math.Option.{Option, none, some}
use Rattle.classfiles.specs.Limits.{max_calls}
use Rattle.reader.specs.BuiltIns.{null_pointer}
use Rattle.classfiles.specs.Descriptors.{Ref, cls, arr, Desc, dref}
use Rattle.classfiles.specs.Members.{Handler}
use Rattle.reader.specs.Program.{Program, Method, method, below}
use Rattle.rules.specs.Opcodes.{body, code_of, size_at}
use Rattle.rules.specs.Shape.{catch_class}
use Rattle.rules.specs.Walk.{covers}
use Rattle.plain.specs.Heap.{Heap, Val, empty, num, ref, ready_at, has_room, allocate, next_ref, value_fits, padded_locals}

-- class and method, offset, the receiver of a constructor (0 for others), locals, operands with the top first
pub data Call : Type 0 where
  call : ℕ → ℕ → ℕ → ℕ → List Val → List Val → Call

-- the heap, the running call, the calls that wait for it
pub data Machine : Type 0 where
  machine : Heap → Call → List Call → Machine

abbrev pub heap_of : Machine → Heap
heap_of (machine H k ks) = H

pub data End : Type 0 where
  returned : List Val → End
  uncaught : ℕ → End
  out_of_steps heap_full depth_full stuck : End

-- on; ended, with the heap as it then is; stopped, with nothing changed
pub data Result : Type 0 where
  next : Machine → Result
  ended : End → Heap → Result
  stopped : End → Result

-- what an instruction has before it, besides the operands
pub record Here : Type 0 where
  pub heap : Heap
  pub class : ℕ
  pub index : ℕ
  pub offset : ℕ
  pub after : ℕ
  pub self : ℕ
  pub locals : List Val
  pub waiting : List Call

abbrev pub method_at : Program → Here → Method
method_at P x = method P x.class x.index

abbrev pub only : Bool → Result → Result
only true r = r
only false r = stopped stuck

abbrev pub pop_any : List Val → (Val → List Val → Result) → Result
pop_any [] k = stopped stuck
pop_any (v ∷ vs) k = k v vs

abbrev pub with_int : Val → (ℕ → Result) → Result
with_int empty k = stopped stuck
with_int (num a) k = k a
with_int (ref r) k = stopped stuck

abbrev pub pop_int : List Val → (ℕ → List Val → Result) → Result
pop_int vs k = pop_any vs λ v r. with_int v λ a. k a r

-- a local; one that no local names is empty
abbrev pub local_at : List Val → ℕ → Val
local_at ls j = slice_index_or ls j empty

-- the arguments, the last on top, each of which fits
unfoldable pub pop_arguments : Program → Heap → List Desc → List Val → List Val → (List Val → List Val → Result) → Result
pop_arguments P H [] args vs k = k args vs
pop_arguments P H (d ∷ ds) args [] k = stopped stuck
pop_arguments P H (d ∷ ds) args (v ∷ vs) k = only (value_fits P H d v) (pop_arguments P H ds (v ∷ args) vs k)

-- ---- going on in this call
abbrev pub resumed : Here → Heap → ℕ → List Val → List Val → Machine
resumed x H o ls vs = machine H (call x.class x.index o x.self ls vs) x.waiting

-- operands above max_stack are stuck
unfoldable pub go_on : Program → Here → Heap → ℕ → List Val → List Val → Result
go_on P x H o ls vs = only (nat_le (length vs) (body (method_at P x)).max_stack) (next (resumed x H o ls vs))

-- to the next instruction with these operands; to an offset; with another heap; with other locals
abbrev pub push : Program → Here → List Val → Result
push P x vs = go_on P x x.heap x.after x.locals vs

abbrev pub branch : Program → Here → Bool → ℕ → List Val → Result
branch P x b t vs = go_on P x x.heap (cond b t x.after) x.locals vs

abbrev pub push_on : Program → Here → Heap → List Val → Result
push_on P x H vs = go_on P x H x.after x.locals vs

abbrev pub set_locals : Program → Here → List Val → List Val → Result
set_locals P x ls vs = go_on P x x.heap x.after ls vs

-- ---- room: heap full comes after stuck and faults
unfoldable pub with_room : Bool → (Unit {0} → Result) → Result
with_room true k = k tt
with_room false k = stopped heap_full

-- an object of type r with n fields or elements: its reference and the heap with it
unfoldable pub create : Heap → Ref → ℕ → ℕ → (ℕ → Heap → Result) → Result
create H r n ready k = with_room (has_room H n) λ u. k (next_ref H) (allocate H r n ready)

-- ---- throwing
-- the first entry that covers the offset and catches the class
unfoldable pub catcher : Program → Method → ℕ → ℕ → List Handler → Option ℕ
catcher P M o c [] = none
catcher P M o c (h ∷ hs) = cond (cond (covers o h) (below P c (catch_class P M h)) false) (some h.target) (catcher P M o c hs)

-- where a thrown object lands: nowhere, or in a call at a handler, above calls that wait
pub data Landing : Type 0 where
  nowhere : Landing
  landing : Call → List Call → Landing

abbrev pub landing_at : Option ℕ → Call → List Call → Landing → Landing
landing_at none k ks r = r
landing_at (some t) (call c m o q ls vs) ks r = landing (call c m t q ls []) ks

-- from the throwing call outward
unfoldable pub land : Program → ℕ → List Call → Landing
land P c [] = nowhere
land P c (call k m o q ls vs ∷ ks) =
    landing_at (catcher P (method P k m) o c (body (method P k m)).table) (call k m o q ls vs) ks (land P c ks)

-- the object's class is known before the object is made: `obtain` gives its reference and the heap with it
unfoldable pub landed : Program → ℕ → ((ℕ → Heap → Result) → Result) → Landing → Result
landed P c obtain nowhere = obtain λ r H. ended (uncaught c) H
landed P c obtain (landing (call k m t q ls vs) ks) =
    only (nat_le 1 (body (method P k m)).max_stack) (obtain λ r H. next (machine H (call k m t q ls (ref r ∷ [])) ks))

abbrev pub calls_from : Here → List Call
calls_from x = call x.class x.index x.offset x.self x.locals [] ∷ x.waiting

unfoldable pub throw : Program → Here → ℕ → ℕ → Result
throw P x r c = landed P c (λ k. k r x.heap) (land P c (calls_from x))

-- a fault throws an object of a built-in class, born ready
unfoldable pub fault : Program → Here → ℕ → Result
fault P x c = landed P c (create x.heap (cls c) 0 1) (land P c (calls_from x))

-- ---- objects
-- null goes one way, a ready object the other
abbrev pub with_object : Heap → Val → Result → (ℕ → Result) → Result
with_object H empty n k = stopped stuck
with_object H (num a) n k = stopped stuck
with_object H (ref zero) n k = n
with_object H (ref (suc a)) n k = only (ready_at H a) (k a)

-- an object that fits u; null faults
unfoldable pub receiver : Program → Here → Ref → Val → (ℕ → Result) → Result
receiver P x u v k = with_object x.heap v (fault P x null_pointer) λ a. only (value_fits P x.heap (dref u) v) (k a)

-- the class of an object that is no array
abbrev pub with_class : Ref → (ℕ → Result) → Result
with_class (cls c) k = k c
with_class (arr d) k = stopped stuck

-- the element type of an array
abbrev pub with_element : Ref → (Desc → Result) → Result
with_element (cls c) k = stopped stuck
with_element (arr d) k = k d

-- ---- calls
-- results have their room at the call
unfoldable pub result_room : Program → Here → Method → List Val → Bool
result_room P x N vs = nat_le (length N.results + length vs) (body (method_at P x)).max_stack

-- into a method with code, whose receiver as a constructor is q; vs are what is left of the caller's operands
unfoldable pub enter : Program → Here → ℕ → ℕ → ℕ → List Val → List Val → Result
enter P x c m q args vs =
    cond (nat_lt (suc (length x.waiting)) max_calls)
    (next (machine x.heap (call c m 0 q (padded_locals (body (method P c m)).max_locals args) [])
    (call x.class x.index x.offset x.self x.locals vs ∷ x.waiting)))
    (stopped depth_full)

-- back to the call that waits, behind its call instruction
unfoldable pub give_back : Program → Heap → List Val → List Call → Result
give_back P H rs [] = ended (returned rs) H
give_back P H rs (call c m o q ls vs ∷ ks) = next (machine H (call c m (o + size_at (code_of (method P c m)) o) q ls (rs ++ vs)) ks)
