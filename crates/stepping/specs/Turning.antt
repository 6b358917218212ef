-- Where an instruction that stays in its call goes on: within max_stack, at an offset of two bytes. Assumes nothing.
use Rattle.std.specs.Prelude.{Ok, ℕ, zero, suc, ◌+◌, ◌<◌, ◌≤◌, ◌≡◌, Bool, cond, List, [], ◌∷◌, eqb, ltb, length}
use Rattle.std.proofs.Common.{sym, ap, arith, le-ltb, leb-true, refl, subst, true, false, leb}
use Rattle.std.specs.Bool.{beq}
use Rattle.std.proofs.Math.Option.{Option, none, some}
use Rattle.reader.specs.BuiltIns.{object, array_index, arithmetic, array_store, class_cast, negative_size, null_pointer}
use Rattle.classfiles.specs.Descriptors.{Ref, cls, arr, Desc, dref}
use Rattle.classfiles.specs.Members.{Handler}
use Rattle.reader.specs.Program.{Program, Method, below, layout}
use Rattle.rules.specs.Instruction.{Instr, nop, aconstnull, pop, dup, dupx1, swap, ineg, arraylength, iaload, aaload, iastore, aastore, athrow, ireturn, areturn, return, iconst, iload, aload, istore, astore, goto, new, iinc, ibin, idiv, ifint, ificmp, ifacmp, ifnull, getfield, putfield, invokevirtual, invokespecial, invokestatic, newarray, checkcast, instanceof, illegal, unresolved}
use Rattle.rules.specs.InstructionWords.{plain_of, local_of, stack_of}
use Rattle.rules.specs.Opcodes.{body}
use Rattle.rules.specs.Types.{is_dint}
use Rattle.rules.specs.Shape.{catch_class}
use Rattle.rules.specs.declared.instruction.Plain.{Plain}
use Rattle.rules.specs.declared.instruction.Plain.TheVariants.{Nop, Aconstnull, Pop, Ineg, Iaload, Iastore, Aastore, Iconst, Ibin, Idiv, Newarray, Checkcast, Instanceof, Getfield, Putfield}
use Rattle.rules.specs.declared.instruction.Local.{Local}
use Rattle.rules.specs.declared.instruction.Local.TheVariants.{Iload, Aload, Istore, Astore, Iinc}
use Rattle.rules.specs.declared.instruction.Stack.{Stack}
use Rattle.rules.specs.declared.instruction.Stack.TheVariants.{Dup, Dupx1, Swap, Arraylength, Aaload}
use Rattle.plain.specs.Heap.{Heap, heap, Val, empty, num, ref, type_at, has_room, ready_at, value_fits, element_at, is_ref, to_cell, size_at as count_at}
use Rattle.plain.specs.Integers.{holds, negative}
use Rattle.plain.specs.Machine.{call, machine, Result, next, ended, stopped, Here, method_at, only, pop_any, pop_int, with_int, with_object, with_element, with_room, receiver, local_at, create, fault, landed, land, catcher, Landing, nowhere, landing_at, calls_from, go_on, resumed}
use Rattle.plain.specs.Step.{execute, element, load, make_array, make, get_field, put_field, object_desc}
use Rattle.plain.specs.Windows.{Stands, turn_of, locs_of, ops_of, length_ops}
use Rattle.plain.specs.WindowForms.{doing}
use Rattle.plain.specs.HeapTurns.{Steps}
use Rattle.plain.specs.declared.window.Place.{Place}
use Rattle.plain.specs.declared.window.Onward.{Onward}

-- it stays in its call, and a target that it has is of two bytes
abbrev pub Stays : Instr → Type 0
Stays nop = Unit {0}
Stays aconstnull = Unit {0}
Stays pop = Unit {0}
Stays dup = Unit {0}
Stays dupx1 = Unit {0}
Stays swap = Unit {0}
Stays ineg = Unit {0}
Stays arraylength = Unit {0}
Stays iaload = Unit {0}
Stays aaload = Unit {0}
Stays iastore = Unit {0}
Stays aastore = Unit {0}
Stays athrow = ⊥
Stays ireturn = ⊥
Stays areturn = ⊥
Stays return = ⊥
Stays (iconst v) = Unit {0}
Stays (iload j) = Unit {0}
Stays (aload j) = Unit {0}
Stays (istore j) = Unit {0}
Stays (astore j) = Unit {0}
Stays (goto t) = t < 65536
Stays (new c) = Unit {0}
Stays (iinc j k) = Unit {0}
Stays (ibin f) = Unit {0}
Stays (idiv f) = Unit {0}
Stays (ifint f t) = t < 65536
Stays (ificmp f t) = t < 65536
Stays (ifacmp b t) = t < 65536
Stays (ifnull b t) = t < 65536
Stays (getfield f) = Unit {0}
Stays (putfield f) = Unit {0}
Stays (invokevirtual m) = ⊥
Stays (invokespecial m) = ⊥
Stays (invokestatic m) = ⊥
Stays (newarray d) = Unit {0}
Stays (checkcast r) = Unit {0}
Stays (instanceof r) = Unit {0}
Stays illegal = ⊥
Stays unresolved = ⊥

-- all instructions of these groups do
pub plain_stays : (i : Plain) → Stays (plain_of i)
plain_stays Nop = tt
plain_stays Aconstnull = tt
plain_stays Pop = tt
plain_stays Ineg = tt
plain_stays Iaload = tt
plain_stays Iastore = tt
plain_stays Aastore = tt
plain_stays (Iconst v) = tt
plain_stays (Ibin f) = tt
plain_stays (Idiv f) = tt
plain_stays (Newarray t) = tt
plain_stays (Checkcast t) = tt
plain_stays (Instanceof t) = tt
plain_stays (Getfield f) = tt
plain_stays (Putfield f) = tt

pub local_stays : (i : Local) → Stays (local_of i)
local_stays (Iload j) = tt
local_stays (Aload j) = tt
local_stays (Istore j) = tt
local_stays (Astore j) = tt
local_stays (Iinc j k) = tt

pub stack_stays : (i : Stack) → Stays (stack_of i)
stack_stays Dup = tt
stack_stays Dupx1 = tt
stack_stays Swap = tt
stack_stays Arraylength = tt
stack_stays Aaload = tt

-- what goes on keeps to max_stack and to such an offset
abbrev pub Keeps : Program → Here → Result → Type 0
Keeps P x (next (machine H (call c m o q ls vs) ks)) = (length vs ≤ (body (method_at P x)).max_stack) × (o < 65536)
Keeps P x (ended e H) = Unit {0}
Keeps P x (stopped e) = Unit {0}

pub record Fine (P : Program) (x : Here) (R : Result) : Type 0 where
  pub is : Keeps P x R

module _ (P : Program) (x : Here) (a : x.after < 65536) (n : (c : ℕ) → land P c (calls_from x) ≡ nowhere) where
  go_fine : (H : Heap) (o : ℕ) (ls vs : List Val) → o < 65536 → Fine P x (go_on P x H o ls vs)
  unfolding go_on
  go_fine H o ls vs l = go (leb (length vs) (body (method_at P x)).max_stack) refl
    where
      go : (b : Bool) → leb (length vs) (body (method_at P x)).max_stack ≡ b → Fine P x (only b (next (resumed x H o ls vs)))
      go true e = record { is = (leb-true (length vs) (body (method_at P x)).max_stack e, l) }
      go false e = record { is = tt }

  room_fine : (b : Bool) (k : Unit {0} → Result) → Fine P x (k tt) → Fine P x (with_room b k)
  unfolding with_room
  room_fine true k f = f
  room_fine false k f = record { is = tt }

  fault_fine : (c : ℕ) → Fine P x (fault P x c)
  unfolding fault landed create
  fault_fine c = subst (λ (L : Landing). Fine P x (landed P c (create x.heap (cls c) 0 1) L)) (sym (n c)) (room_fine (has_room x.heap 0) _ (record { is = tt }))

  only_fine : (b : Bool) (R : Result) → Fine P x R → Fine P x (only b R)
  only_fine true R f = f
  only_fine false R f = record { is = tt }

  cond_fine : (b : Bool) (R S : Result) → Fine P x R → Fine P x S → Fine P x (cond b R S)
  cond_fine true R S f g = f
  cond_fine false R S f g = g

  any_fine : (vs : List Val) (k : Val → List Val → Result) → ((v : Val) (r : List Val) → Fine P x (k v r)) → Fine P x (pop_any vs k)
  any_fine [] k f = record { is = tt }
  any_fine (v ∷ vs) k f = f v vs

  with_fine : (v : Val) (k : ℕ → Result) → ((i : ℕ) → Fine P x (k i)) → Fine P x (with_int v k)
  with_fine empty k f = record { is = tt }
  with_fine (num i) k f = f i
  with_fine (ref r) k f = record { is = tt }

  int_fine : (vs : List Val) (k : ℕ → List Val → Result) → ((i : ℕ) (r : List Val) → Fine P x (k i r)) → Fine P x (pop_int vs k)
  int_fine vs k f = any_fine vs (λ v r. with_int v λ i. k i r) (λ v r. with_fine v (λ i. k i r) (λ i. f i r))

  object_fine : (H : Heap) (v : Val) (R : Result) (k : ℕ → Result) → Fine P x R → ((i : ℕ) → Fine P x (k i)) → Fine P x (with_object H v R k)
  object_fine H empty R k r f = record { is = tt }
  object_fine H (num i) R k r f = record { is = tt }
  object_fine H (ref zero) R k r f = r
  object_fine H (ref (suc i)) R k r f = only_fine (ready_at H i) (k i) (f i)

  receiver_fine : (u : Ref) (v : Val) (k : ℕ → Result) → ((i : ℕ) → Fine P x (k i)) → Fine P x (receiver P x u v k)
  unfolding receiver
  receiver_fine u v k f = object_fine x.heap v _ _ (fault_fine null_pointer) (λ i. only_fine (value_fits P x.heap (dref u) v) _ (f i))

  of_fine : (u : Ref) (k : Desc → Result) → ((d : Desc) → Fine P x (k d)) → Fine P x (with_element u k)
  of_fine (cls c) k f = record { is = tt }
  of_fine (arr d) k f = f d

  element_fine : (ints : Bool) (v : Val) (i : ℕ) (k : Desc → ℕ → Result) → ((d : Desc) (j : ℕ) → Fine P x (k d j)) → Fine P x (element P x ints v i k)
  unfolding element
  element_fine ints v i k f = receiver_fine (cls object) v _ (λ j. of_fine (type_at x.heap j) _ (λ d. only_fine (beq ints (is_dint d)) _ (cond_fine (ltb i (count_at x.heap j)) _ _ (f d (element_at j i)) (fault_fine array_index))))

  create_fine : (H : Heap) (r : Ref) (m ready : ℕ) (k : ℕ → Heap → Result) → ((q : ℕ) (J : Heap) → Fine P x (k q J)) → Fine P x (create H r m ready k)
  unfolding create
  create_fine H r m ready k f = room_fine (has_room H m) _ (f _ _)

  branch_low : (b : Bool) (t : ℕ) → t < 65536 → cond b t x.after < 65536
  branch_low true t l = l
  branch_low false t l = a

  pub execute_fine : (vs : List Val) (I : Instr) → Stays I → Fine P x (execute P x vs I)
  unfolding execute load make_array make get_field put_field
  execute_fine vs nop h = go_fine _ _ _ _ a
  execute_fine vs aconstnull h = go_fine _ _ _ _ a
  execute_fine vs pop h = any_fine vs _ (λ v r. go_fine _ _ _ _ a)
  execute_fine vs dup h = any_fine vs _ (λ v r. go_fine _ _ _ _ a)
  execute_fine vs dupx1 h = any_fine vs _ (λ v r. any_fine r _ (λ w s. go_fine _ _ _ _ a))
  execute_fine vs swap h = any_fine vs _ (λ v r. any_fine r _ (λ w s. go_fine _ _ _ _ a))
  execute_fine vs ineg h = int_fine vs _ (λ v r. go_fine _ _ _ _ a)
  execute_fine vs arraylength h = any_fine vs _ (λ v r. receiver_fine (cls object) v _ (λ i. of_fine (type_at x.heap i) _ (λ d. go_fine _ _ _ _ a)))
  execute_fine vs iaload h = int_fine vs _ (λ i r. any_fine r _ (λ v s. element_fine true v i _ (λ d j. go_fine _ _ _ _ a)))
  execute_fine vs aaload h = int_fine vs _ (λ i r. any_fine r _ (λ v s. element_fine false v i _ (λ d j. go_fine _ _ _ _ a)))
  execute_fine vs iastore h = int_fine vs _ (λ b r. int_fine r _ (λ i s. any_fine s _ (λ v u. element_fine true v i _ (λ d j. go_fine _ _ _ _ a))))
  execute_fine vs aastore h =
      any_fine vs _ (λ w r. only_fine (value_fits P x.heap object_desc w) _ (int_fine r _ (λ i s. any_fine s _ (λ v u. element_fine false v i _ (λ d j. cond_fine (value_fits P x.heap d w) _ _ (go_fine _ _ _ _ a) (fault_fine array_store))))))
  execute_fine vs athrow h = absurd h
  execute_fine vs ireturn h = absurd h
  execute_fine vs areturn h = absurd h
  execute_fine vs return h = absurd h
  execute_fine vs (iconst v) h = go_fine _ _ _ _ a
  execute_fine vs (iload j) h = with_fine (local_at x.locals j) _ (λ i. go_fine _ _ _ _ a)
  execute_fine vs (aload j) h = only_fine (is_ref (local_at x.locals j)) _ (go_fine _ _ _ _ a)
  execute_fine vs (istore j) h = int_fine vs _ (λ i r. go_fine _ _ _ _ a)
  execute_fine vs (astore j) h = any_fine vs _ (λ v r. only_fine (is_ref v) _ (go_fine _ _ _ _ a))
  execute_fine vs (goto t) h = go_fine _ _ _ _ h
  execute_fine vs (new c) h = only_fine (ltb (length vs) (body (method_at P x)).max_stack) _ (create_fine x.heap (cls c) (length (layout P c)) 0 _ (λ q J. go_fine _ _ _ _ a))
  execute_fine vs (iinc j k) h = with_fine (local_at x.locals j) _ (λ i. go_fine _ _ _ _ a)
  execute_fine vs (ibin f) h = int_fine vs _ (λ i r. int_fine r _ (λ j s. go_fine _ _ _ _ a))
  execute_fine vs (idiv f) h = int_fine vs _ (λ i r. int_fine r _ (λ j s. cond_fine (eqb i 0) _ _ (fault_fine arithmetic) (go_fine _ _ _ _ a)))
  execute_fine vs (ifint f t) h = int_fine vs _ (λ i r. go_fine _ _ _ _ (branch_low (holds f i 0) t h))
  execute_fine vs (ificmp f t) h = int_fine vs _ (λ i r. int_fine r _ (λ j s. go_fine _ _ _ _ (branch_low (holds f j i) t h)))
  execute_fine vs (ifacmp b t) h = any_fine vs _ (λ w r. only_fine (value_fits P x.heap object_desc w) _ (any_fine r _ (λ v s. only_fine (value_fits P x.heap object_desc v) _ (go_fine _ _ _ _ (branch_low (beq b (eqb (to_cell v) (to_cell w))) t h)))))
  execute_fine vs (ifnull b t) h = any_fine vs _ (λ w r. only_fine (value_fits P x.heap object_desc w) _ (go_fine _ _ _ _ (branch_low (beq b (eqb (to_cell w) 0)) t h)))
  execute_fine vs (getfield f) h = any_fine vs _ (λ v r. receiver_fine (cls f.named) v _ (λ i. go_fine _ _ _ _ a))
  execute_fine vs (putfield f) h = any_fine vs _ (λ w r. only_fine (value_fits P x.heap f.type w) _ (any_fine r _ (λ v s. receiver_fine (cls f.named) v _ (λ i. go_fine _ _ _ _ a))))
  execute_fine vs (invokevirtual m) h = absurd h
  execute_fine vs (invokespecial m) h = absurd h
  execute_fine vs (invokestatic m) h = absurd h
  execute_fine vs (newarray d) h = int_fine vs _ (λ i r. cond_fine (negative i) _ _ (fault_fine negative_size) (create_fine x.heap (arr d) i 1 _ (λ q J. go_fine _ _ _ _ a)))
  execute_fine vs (checkcast u) h = any_fine vs _ (λ v r. only_fine (value_fits P x.heap object_desc v) _ (cond_fine (value_fits P x.heap (dref u) v) _ _ (go_fine _ _ _ _ a) (fault_fine class_cast)))
  execute_fine vs (instanceof u) h = any_fine vs _ (λ v r. object_fine x.heap v _ _ (go_fine _ _ _ _ a) (λ i. go_fine _ _ _ _ a))
  execute_fine vs illegal h = absurd h
  execute_fine vs unresolved h = absurd h

-- ---- the same place, where nothing is caught
past : List Handler → ℕ
past [] = 0
past (h ∷ hs) = h.end + past hs

none_past : (P : Program) (M : Method) (o c : ℕ) (hs : List Handler) → past hs ≤ o → catcher P M o c hs ≡ none
unfolding catcher past
none_past P M o c [] l = refl
none_past P M o c (h ∷ hs) l = go (none_past P M o c hs (omega arith)) (leb h.start o)
  where
    go : catcher P M o c hs ≡ none → (b : Bool) → cond (cond (cond b (ltb o h.end) false) (below P c (catch_class P M h)) false) (some h.target) (catcher P M o c hs) ≡ none
    go ih true = rw (le-ltb o h.end (omega arith)) ih
    go ih false = ih

abbrev quiet : Program → Here → Here
quiet P x = record { heap = x.heap; class = x.class; index = x.index; offset = past (body (method_at P x)).table; after = x.after; self = x.self; locals = x.locals; waiting = [] }

quiet-land : (P : Program) (x : Here) (c : ℕ) → land P c (calls_from (quiet P x)) ≡ nowhere
unfolding land
quiet-land P x c =
    ap (λ (o : Option ℕ). landing_at o (call x.class x.index (past (body (method_at P x)).table) x.self x.locals []) [] nowhere)
    (none_past P (method_at P x) (past (body (method_at P x)).table) c (body (method_at P x)).table (omega arith))

-- so a turn that goes on does
pub turn_low : (P : Program) (x : Here) (I : Instr) → Stays I → x.after < 65536 → (K : Program → Type 0) (c : Place) (w g cells w' g' cells' : List ℕ) (r : Onward)
    → Steps K c w g cells w' g' cells' (Ok r) (doing w g c.operands I) → K P → Stands P x c w g cells → (r.operands ≤ c.most) × (r.at < 65536)
unfolding doing
turn_low P x I h a K c w g cells w' g' cells' r z k s =
    let q : Here = quiet P x in
    let f : Fine P q (execute P q (ops_of w g c.operands) I) = execute_fine P q a (quiet-land P x) (ops_of w g c.operands) I h in
    let y : turn_of P q c.locals w' g' cells' (Ok r) ≡ execute P q (ops_of w g c.operands) I = z.is P q k (record { heap = s.heap; locals = s.locals; after = s.after; most = s.most }) in
    let u : Fine P q (next (resumed q (heap cells' r.used) r.at (locs_of w' g' c.locals) (ops_of w' g' r.operands))) = subst (Fine P q) (sym y) f in
    (omega (arith, u.is.0, length_ops w' g' r.operands, s.most), u.is.1)
