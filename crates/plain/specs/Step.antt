-- One step of the plain machine, a clause a form: stuck before faults, faults before heap, heap before depth.
use Rattle.std.specs.Prelude.{ℕ, zero, suc, ◌+◌, Bool, true, false, cond, not, List, [], ◌∷◌, reverse, length, ◌==◌, nat_lt, slice_set}
use Rattle.std.specs.Bool.{beq}
use Rattle.reader.specs.BuiltIns.{object, throwable, arithmetic, array_store, class_cast, array_index, negative_size, first_class}
use Rattle.classfiles.specs.Descriptors.{cls, arr, Desc, dref}
use Rattle.reader.specs.Program.{Program, method, method_sigs, Spot, nowhere, spot, lookup, layout}
use Rattle.rules.specs.Instruction.{Instr, FieldRef, MethodRef, nop, aconstnull, pop, dup, dupx1, swap, ineg, arraylength, iaload, aaload, iastore, aastore, athrow, ireturn, areturn, return, iconst, iload, aload, istore, astore, goto, new, iinc, ibin, idiv, ifint, ificmp, ifacmp, ifnull, getfield, putfield, invokevirtual, invokespecial, invokestatic, newarray, checkcast, instanceof, illegal, unresolved}
use Rattle.rules.specs.Resolve.{found}
use Rattle.rules.specs.Opcodes.{body, code_of, size_at, instruction}
use Rattle.rules.specs.Types.{is_dint, ref_fits}
use Rattle.rules.specs.Rule.{returns_int, returns_ref, returns_void}
use Rattle.plain.specs.Integers.{compute, divided, holds, negated, negative, wrap}
use Rattle.plain.specs.Heap.{Heap, Val, empty, num, ref, null, cell, type_at, ready_at, element_at, store, mark_ready, to_cell, from_cell, is_ref, value_fits}
use Rattle.plain.specs.Heap.{size_at as count_at}
use Rattle.plain.specs.Machine.{call, Machine, machine, stuck, Result, stopped, Here, method_at, only, pop_any, pop_int, with_int, local_at, pop_arguments, push, branch, push_on, set_locals, create, throw, fault, with_object, receiver, with_class, with_element, result_room, enter, give_back}

abbrev pub object_desc : Desc
object_desc = dref (cls object)

abbrev pub truth : Bool → Val
truth b = num (cond b 1 0)

-- ---- arrays: the kind, then null, then the index
-- an array of the kind that the instruction is for, and the element's cell
unfoldable pub element : Program → Here → Bool → Val → ℕ → (Desc → ℕ → Result) → Result
element P x ints v i k =
    receiver P x (cls object) v λ a. with_element (type_at x.heap a) λ d.
    only (beq ints (is_dint d)) (cond (nat_lt i (count_at x.heap a)) (k d (element_at a i)) (fault P x array_index))

unfoldable pub load : Program → Here → Bool → List Val → Result
load P x ints vs =
    pop_int vs λ i r. pop_any r λ v r'. element P x ints v i λ d j. push P x (from_cell d (cell x.heap j) ∷ r')

unfoldable pub make_array : Program → Here → Desc → ℕ → List Val → Result
make_array P x d n vs =
    cond (negative n) (fault P x negative_size) (create x.heap (arr d) n 1 λ r H. push_on P x H (ref r ∷ vs))

-- ---- objects
unfoldable pub make : Program → Here → ℕ → List Val → Result
make P x c vs =
    only (nat_lt (length vs) (body (method_at P x)).max_stack) (create x.heap (cls c) (length (layout P c)) 0 λ r H. push_on P x H (ref r ∷ vs))

unfoldable pub get_field : Program → Here → FieldRef → List Val → Result
get_field P x f vs =
    pop_any vs λ v r. receiver P x (cls f.named) v λ a. push P x (from_cell f.type (cell x.heap (element_at a f.slot)) ∷ r)

unfoldable pub put_field : Program → Here → FieldRef → List Val → Result
put_field P x f vs =
    pop_any vs λ w r. only (value_fits P x.heap f.type w)
    (pop_any r λ v r'. receiver P x (cls f.named) v λ a. push_on P x (store x.heap (element_at a f.slot) (to_cell w)) r')

-- ---- calls
-- the method that a receiver of class c has for it
abbrev pub chosen : Spot → (ℕ → ℕ → Result) → Result
chosen nowhere k = stopped stuck
chosen (spot d j) k = k d j

unfoldable pub call_static : Program → Here → MethodRef → List Val → Result
call_static P x m vs =
    pop_arguments P x.heap (reverse (found P m).params) [] vs λ args r.
    only (result_room P x (found P m) r) (enter P x m.owner m.index 0 args r)

unfoldable pub call_virtual : Program → Here → MethodRef → List Val → Result
call_virtual P x m vs =
    pop_arguments P x.heap (reverse (found P m).params) [] vs λ args r.
    pop_any r λ v r'. only (result_room P x (found P m) r')
    (receiver P x (cls m.named) v λ a. with_class (type_at x.heap a) λ c.
    chosen (lookup P method_sigs (found P m).sig c) λ d j. enter P x d j 0 (v ∷ args) r')

-- `<init>` takes an unready object whose class fits the named one
abbrev pub with_unready : Program → Heap → ℕ → Val → (ℕ → Result) → Result
with_unready P H c empty k = stopped stuck
with_unready P H c (num a) k = stopped stuck
with_unready P H c (ref zero) k = stopped stuck
with_unready P H c (ref (suc a)) k = only (not (ready_at H a)) (only (ref_fits P (type_at H a) (cls c)) (k a))

-- a built-in constructor makes its object ready and is no call
unfoldable pub construct : Program → Here → MethodRef → ℕ → List Val → List Val → Result
construct P x m a args vs =
    cond (nat_lt m.owner first_class) (push_on P x (mark_ready x.heap a) vs) (enter P x m.owner m.index (suc a) (ref (suc a) ∷ args) vs)

unfoldable pub call_init : Program → Here → MethodRef → List Val → Result
call_init P x m vs =
    pop_arguments P x.heap (reverse (found P m).params) [] vs λ args r.
    pop_any r λ v r'. with_unready P x.heap m.named v λ a. construct P x m a args r'

-- a constructor returns once its receiver is ready
abbrev pub self_ready : Heap → ℕ → Bool
self_ready H zero = true
self_ready H (suc a) = ready_at H a

unfoldable pub leave : Program → Here → List Val → Result
leave P x rs = only (self_ready x.heap x.self) (give_back P x.heap rs x.waiting)

-- the value returned fits the declared type
unfoldable pub leave_with : Program → Here → Bool → List Val → Result
leave_with P x kind vs = only kind (pop_arguments P x.heap (method_at P x).results [] vs λ rs r. leave P x rs)

-- ---- one instruction
unfoldable pub execute : Program → Here → List Val → Instr → Result
execute P x vs nop = push P x vs
execute P x vs aconstnull = push P x (null ∷ vs)
execute P x vs pop = pop_any vs λ v r. push P x r
execute P x vs dup = pop_any vs λ v r. push P x (v ∷ v ∷ r)
execute P x vs dupx1 = pop_any vs λ v r. pop_any r λ w r'. push P x (v ∷ w ∷ v ∷ r')
execute P x vs swap = pop_any vs λ v r. pop_any r λ w r'. push P x (w ∷ v ∷ r')
execute P x vs ineg = pop_int vs λ a r. push P x (num (negated a) ∷ r)
execute P x vs arraylength =
    pop_any vs λ v r. receiver P x (cls object) v λ a. with_element (type_at x.heap a) λ d. push P x (num (count_at x.heap a) ∷ r)
execute P x vs iaload = load P x true vs
execute P x vs aaload = load P x false vs
execute P x vs iastore =
    pop_int vs λ b r. pop_int r λ i r'. pop_any r' λ v r''. element P x true v i λ d j. push_on P x (store x.heap j b) r''
execute P x vs aastore =
    pop_any vs λ w r. only (value_fits P x.heap object_desc w)
    (pop_int r λ i r'. pop_any r' λ v r''. element P x false v i λ d j.
    cond (value_fits P x.heap d w) (push_on P x (store x.heap j (to_cell w)) r'') (fault P x array_store))
execute P x vs athrow = pop_any vs λ v r. receiver P x (cls throwable) v λ a. throw P x (suc a) (cell x.heap a)
execute P x vs ireturn = leave_with P x (returns_int (method_at P x).results) vs
execute P x vs areturn = leave_with P x (returns_ref (method_at P x).results) vs
execute P x vs return = leave_with P x (returns_void (method_at P x).results) vs
execute P x vs (iconst v) = push P x (num v ∷ vs)
execute P x vs (iload j) = with_int (local_at x.locals j) λ a. push P x (num a ∷ vs)
execute P x vs (aload j) = only (is_ref (local_at x.locals j)) (push P x (local_at x.locals j ∷ vs))
execute P x vs (istore j) = pop_int vs λ a r. set_locals P x (slice_set x.locals j (num a)) r
execute P x vs (astore j) = pop_any vs λ v r. only (is_ref v) (set_locals P x (slice_set x.locals j v) r)
execute P x vs (goto t) = branch P x true t vs
execute P x vs (new c) = make P x c vs
execute P x vs (iinc j k) = with_int (local_at x.locals j) λ a. set_locals P x (slice_set x.locals j (num (wrap (a + k)))) vs
execute P x vs (ibin f) = pop_int vs λ b r. pop_int r λ a r'. push P x (num (compute f a b) ∷ r')
execute P x vs (idiv f) = pop_int vs λ b r. pop_int r λ a r'. cond (b == 0) (fault P x arithmetic) (push P x (num (divided f a b) ∷ r'))
execute P x vs (ifint f t) = pop_int vs λ a r. branch P x (holds f a 0) t r
execute P x vs (ificmp f t) = pop_int vs λ b r. pop_int r λ a r'. branch P x (holds f a b) t r'
execute P x vs (ifacmp e t) =
    pop_any vs λ w r. only (value_fits P x.heap object_desc w)
    (pop_any r λ v r'. only (value_fits P x.heap object_desc v) (branch P x (beq e (to_cell v == to_cell w)) t r'))
execute P x vs (ifnull e t) = pop_any vs λ v r. only (value_fits P x.heap object_desc v) (branch P x (beq e (to_cell v == 0)) t r)
execute P x vs (getfield f) = get_field P x f vs
execute P x vs (putfield f) = put_field P x f vs
execute P x vs (invokevirtual m) = call_virtual P x m vs
execute P x vs (invokespecial m) = call_init P x m vs
execute P x vs (invokestatic m) = call_static P x m vs
execute P x vs (newarray d) = pop_int vs λ n r. make_array P x d n r
execute P x vs (checkcast u) =
    pop_any vs λ v r. only (value_fits P x.heap object_desc v)
    (cond (value_fits P x.heap (dref u) v) (push P x (v ∷ r)) (fault P x class_cast))
execute P x vs (instanceof u) =
    pop_any vs λ v r. with_object x.heap v (push P x (num 0 ∷ r)) λ a. push P x (truth (ref_fits P (type_at x.heap a) u) ∷ r)
execute P x vs illegal = stopped stuck
execute P x vs unresolved = stopped stuck

-- the instruction at the offset; control past the code is stuck
unfoldable pub step : Program → Machine → Result
step P (machine H (call c m o q ls vs) ks) =
    let M = method P c m in
    cond (nat_lt o (length (code_of M)))
    (execute P (record { heap = H; class = c; index = m; offset = o; after = o + size_at (code_of M) o; self = q; locals = ls; waiting = ks }) vs (instruction P M o))
    (stopped stuck)
