-- What an instruction names was found: its field has its place and type in every class below, its method is there.
use Rattle.std.specs.Prelude.{ℕ, ◌+◌, ◌-◌, ◌*◌, ◌<◌, ◌≡◌, Bool, cond, not, List, [], ◌∷◌, length, get_or, T, eqb, ltb}
use Rattle.std.proofs.Math.Path.{refl}
use Rattle.std.proofs.Common.{◌∙◌, arith, T_not, ltb→lt}
use Rattle.std.proofs.Math.Bool.{true, false}
use Rattle.std.proofs.lemmas.List.{length-map}
use Rattle.kit.specs.Bools.{T_false}
use Rattle.classfiles.specs.Limits.{max_dimensions}
use Rattle.texts.specs.Reading.{Res, ok, bad}
use Rattle.texts.specs.Names.{is_init}
use Rattle.classfiles.specs.Descriptors.{Ref, cls, arr, dint, dref, class_type_at, known_ref, known_desc, dimensions}
use Rattle.classfiles.specs.Pool.{Constant, absent, utf8, integer, class_at, fieldref, methodref, name_and_type, entry, text}
use Rattle.reader.specs.Program.{Program, Field, Method, no_field, Signature, signature, class, method, class_count, is_constructor, below, field_sigs, method_sigs, index_of, Spot, nowhere, spot, seek, lookup, layout}
use Rattle.rules.specs.Instruction.{Instr, FieldRef, MethodRef, nop, aconstnull, pop, dup, dupx1, swap, ineg, arraylength, iaload, aaload, iastore, aastore, athrow, ireturn, areturn, return, iconst, iload, aload, istore, astore, goto, new, iinc, ibin, idiv, ifint, ificmp, ifacmp, ifnull, getfield, putfield, invokevirtual, invokespecial, invokestatic, newarray, checkcast, instanceof, illegal, unresolved}
use Rattle.rules.specs.Resolve.{Resolved, nothing, number, type, field, method_of, number_of, known_type, class_entry, with_class, with_signature, field_found, method_found, own_method, field_in, method_in, resolve_entry, resolve, as_number, as_type, as_field, as_method, new_of, array_of, found, is_static_call, is_virtual_call, is_init_call}
use Rattle.rules.specs.Opcodes.{Operands, Row, row, rows, within, row_in, row_of, code_of, make, instruction}
use Rattle.facts.specs.Classes.{Link, parent, up_refl, up_below, below_trans}
use Rattle.facts.specs.Layout.{layout_own, layout_below}
use Rattle.facts.specs.Lookup.{At, seek_at, index_at, method_there, method-sig}

-- a field that was found: its place and its type in each class below the named one
pub record FieldOk (P : Program) (f : FieldRef) : Type 0 where
  pub place : (e : ℕ) → T (below P e f.named) → (f.slot < length (layout P e)) × (get_or (layout P e) f.slot dint ≡ f.type)

-- a method that was found: `<init>` in the named class itself, any other is the first from there upward
pub record MethodOk (P : Program) (m : MethodRef) : Type 0 where
  pub there : m.index < length (class P m.owner).methods
  pub above : T (below P m.named m.owner)
  pub own : T (is_constructor (found P m)) → m.owner ≡ m.named
  pub first : (T (is_constructor (found P m)) → ⊥) → lookup P method_sigs (found P m).sig m.named ≡ spot m.owner m.index

-- one that invokevirtual calls is no constructor and is not static
module _ (P : Program) (m : MethodRef) (v : T (is_virtual_call P m)) where
  pub virtual_plain : T (is_constructor (found P m)) → ⊥
  virtual_plain t = go (is_constructor (found P m)) t v
    where
      go : (b : Bool) → T b → T (cond b false (not (found P m).static)) → ⊥
      go true t s = s
      go false t s = t

  pub virtual_bound : (found P m).static ≡ false
  virtual_bound = T_false (found P m).static (T_not (found P m).static (go (is_constructor (found P m)) v))
    where
      go : (b : Bool) → T (cond b false (not (found P m).static)) → T (not (found P m).static)
      go true s = absurd s
      go false s = s

abbrev pub ResolvedOk : Program → Resolved → Type 0
ResolvedOk P nothing = Unit {0}
ResolvedOk P (number v) = Unit {0}
ResolvedOk P (type r) = T (known_ref (class_count P) r)
ResolvedOk P (field f) = FieldOk P f
ResolvedOk P (method_of m) = MethodOk P m

abbrev pub InstrOk : Program → Instr → Type 0
InstrOk P nop = Unit {0}
InstrOk P aconstnull = Unit {0}
InstrOk P pop = Unit {0}
InstrOk P dup = Unit {0}
InstrOk P dupx1 = Unit {0}
InstrOk P swap = Unit {0}
InstrOk P ineg = Unit {0}
InstrOk P arraylength = Unit {0}
InstrOk P iaload = Unit {0}
InstrOk P aaload = Unit {0}
InstrOk P iastore = Unit {0}
InstrOk P aastore = Unit {0}
InstrOk P athrow = Unit {0}
InstrOk P ireturn = Unit {0}
InstrOk P areturn = Unit {0}
InstrOk P return = Unit {0}
InstrOk P (iconst v) = Unit {0}
InstrOk P (iload j) = Unit {0}
InstrOk P (aload j) = Unit {0}
InstrOk P (istore j) = Unit {0}
InstrOk P (astore j) = Unit {0}
InstrOk P (goto t) = Unit {0}
InstrOk P (new c) = Unit {0}
InstrOk P (iinc j k) = Unit {0}
InstrOk P (ibin f) = Unit {0}
InstrOk P (idiv f) = Unit {0}
InstrOk P (ifint f t) = Unit {0}
InstrOk P (ificmp f t) = Unit {0}
InstrOk P (ifacmp b t) = Unit {0}
InstrOk P (ifnull b t) = Unit {0}
InstrOk P (getfield f) = FieldOk P f
InstrOk P (putfield f) = FieldOk P f
InstrOk P (invokevirtual m) = MethodOk P m × T (is_virtual_call P m)
InstrOk P (invokespecial m) = MethodOk P m × T (is_init_call P m)
InstrOk P (invokestatic m) = MethodOk P m × T (is_static_call P m)
InstrOk P (newarray d) = T (known_desc (class_count P) d)
InstrOk P (checkcast r) = Unit {0}
InstrOk P (instanceof r) = Unit {0}
InstrOk P illegal = Unit {0}
InstrOk P unresolved = Unit {0}

module _ (P : Program) (L : Link P) where
  -- ---- what the pool resolves to
  known_ok : (r : Res Ref) → ResolvedOk P (known_type P r)
  known_ok (ok r e) = go (known_ref (class_count P) r) refl
    where
      go : (b : Bool) → known_ref (class_count P) r ≡ b → ResolvedOk P (cond b (type r) nothing)
      go true e = rw e tt
      go false e = tt
  known_ok (bad n p) = tt

  entry_ok : (pool : List Constant) (k : Constant) → ResolvedOk P (class_entry P pool k)
  entry_ok pool absent = tt
  entry_ok pool (utf8 t) = tt
  entry_ok pool (integer v) = tt
  entry_ok pool (class_at i) = known_ok (class_type_at (number_of P) (text pool i) 0)
  entry_ok pool (fieldref i j) = tt
  entry_ok pool (methodref i j) = tt
  entry_ok pool (name_and_type i j) = tt

  field_ok : (g : Signature) (c : ℕ) → ResolvedOk P (field_in P g c)
  unfolding field_in lookup
  field_ok g c = go (seek P field_sigs g (class_count P) c) refl
    where
      go : (s : Spot) → seek P field_sigs g (class_count P) c ≡ s → ResolvedOk P (field_found P c s)
      go nowhere e = tt
      go (spot d j) e = record { place = at }
        where
          a : At P field_sigs g (class_count P) c d j
          a = seek_at P field_sigs g (class_count P) c d j e

          lt : j < length (class P d).fields
          lt = let h : j < length (field_sigs (class P d)) = a.there in omega (arith, length-map (class P d).fields (λ (f : Field). f.sig))

          at : (b : ℕ) → T (below P b c)
              → (length (layout P (parent P d)) + j < length (layout P b)) × (get_or (layout P b) (length (layout P (parent P d)) + j) dint ≡ (get_or (class P d).fields j no_field).type)
          at b u =
              let v : T (below P b d) = below_trans P L b c d u (up_below P L (class_count P) c d a.above) in
              let o = layout_own P L d j lt in
              let w = layout_below P L b d (length (layout P (parent P d)) + j) v o.0 in
              (w.0, w.1 ∙ o.1)

  method_ok : (g : Signature) (c : ℕ) → ResolvedOk P (method_in P g c)
  unfolding method_in lookup own_method
  method_ok g c = go (is_init g.name) refl
    where
      found_ok : (d j : ℕ) → At P method_sigs g (class_count P) c d j → (T (is_init g.name) → d ≡ c) → ((T (is_init g.name) → ⊥) → seek P method_sigs g (class_count P) c ≡ spot d j)
          → MethodOk P (record { named = c; owner = d; index = j })
      found_ok d j a o f =
          let s : (method P d j).sig ≡ g = method-sig P L g a in
          record { there = method_there P L g a; above = up_below P L (class_count P) c d a.above; own = λ t. o (rw s at t); first = λ n. rw s (f (λ t. n (rw s t))) }

      there : (s : Spot) → seek P method_sigs g (class_count P) c ≡ s → is_init g.name ≡ false → ResolvedOk P (method_found c s)
      there nowhere e n = tt
      there (spot d j) e n = found_ok d j (seek_at P method_sigs g (class_count P) c d j e) (λ t. let u : T false = rw n at t in absurd u) (λ x. e)

      own : (b : Bool) → ltb (index_of g (method_sigs (class P c))) (length (method_sigs (class P c))) ≡ b → is_init g.name ≡ true → ResolvedOk P (method_found c (cond b (spot c (index_of g (method_sigs (class P c)))) nowhere))
      own false e n = tt
      own true e n =
          let l : index_of g (method_sigs (class P c)) < length (method_sigs (class P c)) = ltb→lt (index_of g (method_sigs (class P c))) (length (method_sigs (class P c))) (rw e tt) in
          found_ok c (index_of g (method_sigs (class P c))) (record { above = up_refl P (class_count P) c; there = l; is = index_at g (method_sigs (class P c)) l }) (λ t. refl) (λ x. absurd (x (rw n tt)))

      go : (b : Bool) → is_init g.name ≡ b
          → ResolvedOk P (method_found c (cond b (cond (ltb (index_of g (method_sigs (class P c))) (length (method_sigs (class P c)))) (spot c (index_of g (method_sigs (class P c)))) nowhere) (seek P method_sigs g (class_count P) c)))
      go true n = own (ltb (index_of g (method_sigs (class P c))) (length (method_sigs (class P c)))) refl n
      go false n = there (seek P method_sigs g (class_count P) c) refl n

  class-then : (q : Resolved) (k : ℕ → Resolved) → ((c : ℕ) → ResolvedOk P (k c)) → ResolvedOk P (with_class q k)
  class-then nothing k h = tt
  class-then (number v) k h = tt
  class-then (type (cls c)) k h = h c
  class-then (type (arr d)) k h = tt
  class-then (field f) k h = tt
  class-then (method_of m) k h = tt

  signature-then : (pool : List Constant) (q : Constant) (k : Signature → Resolved) → ((g : Signature) → ResolvedOk P (k g)) → ResolvedOk P (with_signature pool q k)
  signature-then pool absent k h = tt
  signature-then pool (utf8 t) k h = tt
  signature-then pool (integer v) k h = tt
  signature-then pool (class_at i) k h = tt
  signature-then pool (fieldref i j) k h = tt
  signature-then pool (methodref i j) k h = tt
  signature-then pool (name_and_type i j) k h = h (signature (text pool i) (text pool j))

  pub resolve_ok : (pool : List Constant) (i : ℕ) → ResolvedOk P (resolve P pool i)
  unfolding resolve
  resolve_ok pool i = go (entry pool i)
    where
      go : (k : Constant) → ResolvedOk P (resolve_entry P pool k)
      go absent = tt
      go (utf8 t) = tt
      go (integer v) = tt
      go (class_at i) = entry_ok pool (class_at i)
      go (fieldref i j) = class-then (class_entry P pool (entry pool i)) _ (λ c. signature-then pool (entry pool j) _ (λ g. field_ok g c))
      go (methodref i j) = class-then (class_entry P pool (entry pool i)) _ (λ c. signature-then pool (entry pool j) _ (λ g. method_ok g c))
      go (name_and_type i j) = tt

  -- ---- instructions
  number-then : (k : ℕ → Instr) → ((v : ℕ) → InstrOk P (k v)) → (q : Resolved) → ResolvedOk P q → InstrOk P (as_number k q)
  number-then k h nothing x = tt
  number-then k h (number v) x = h v
  number-then k h (type r) x = tt
  number-then k h (field f) x = tt
  number-then k h (method_of m) x = tt

  type-then : (k : Ref → Instr) → ((r : Ref) → T (known_ref (class_count P) r) → InstrOk P (k r)) → (q : Resolved) → ResolvedOk P q → InstrOk P (as_type k q)
  type-then k h nothing x = tt
  type-then k h (number v) x = tt
  type-then k h (type r) x = h r x
  type-then k h (field f) x = tt
  type-then k h (method_of m) x = tt

  field-then : (k : FieldRef → Instr) → ((f : FieldRef) → FieldOk P f → InstrOk P (k f)) → (q : Resolved) → ResolvedOk P q → InstrOk P (as_field k q)
  field-then k h nothing x = tt
  field-then k h (number v) x = tt
  field-then k h (type r) x = tt
  field-then k h (field f) x = h f x
  field-then k h (method_of m) x = tt

  method-then : (fit : MethodRef → Bool) (k : MethodRef → Instr) → ((m : MethodRef) → MethodOk P m → T (fit m) → InstrOk P (k m)) → (q : Resolved) → ResolvedOk P q → InstrOk P (as_method fit k q)
  method-then fit k h nothing x = tt
  method-then fit k h (number v) x = tt
  method-then fit k h (type r) x = tt
  method-then fit k h (field f) x = tt
  method-then fit k h (method_of m) x = go (fit m) refl
    where
      go : (b : Bool) → fit m ≡ b → InstrOk P (cond b (k m) unresolved)
      go true e = h m x (rw e tt)
      go false e = tt

  new_ok : (r : Ref) → InstrOk P (new_of r)
  new_ok (cls c) = tt
  new_ok (arr d) = tt

  array_ok : (r : Ref) → T (known_ref (class_count P) r) → InstrOk P (array_of r)
  unfolding known_desc
  array_ok r h = go (ltb (dimensions r) max_dimensions)
    where
      go : (b : Bool) → InstrOk P (cond b (newarray (dref r)) unresolved)
      go true = h
      go false = tt

  ints_ok : (b : Bool) → InstrOk P (cond b (newarray dint) illegal)
  unfolding known_desc
  ints_ok true = tt
  ints_ok false = tt

  -- each row of the table
  data RowsOk : List Row → Type 0 where
    rnil : RowsOk []
    rcons : {a b n t l : ℕ} {f : Operands → Instr} {rs : List Row}
        → ((pool : ℕ → Resolved) (n a b o : ℕ) → ((i : ℕ) → ResolvedOk P (pool i)) → InstrOk P (f (record { program = P; pool = pool; nth = n; first = a; second = b; offset = o })))
        → RowsOk rs → RowsOk (row a b n t l f ∷ rs)

  row_ok : {rs : List Row} → RowsOk rs → (M : Method) (o op : ℕ) → InstrOk P (make P M o op (row_in rs op))
  unfolding row_in
  row_ok rnil M o op = tt
  row_ok (rcons {a} {b} {n} {t} {l} {f} {rs} x xs) M o op = go (row_ok xs M o op) (within a b op)
    where
      go : InstrOk P (make P M o op (row_in rs op)) → (c : Bool) → InstrOk P (make P M o op (cond c (row a b n t l f) (row_in rs op)))
      go ih true = x (resolve P (class P M.owner).pool) (op - a) (get_or (code_of M) (o + 1) 0) (get_or (code_of M) (o + 2) 0) o (resolve_ok (class P M.owner).pool)
      go ih false = ih

  -- a row that names nothing; one that names what its two operand bytes say
  plain : (pool : ℕ → Resolved) (n a b o : ℕ) → ((i : ℕ) → ResolvedOk P (pool i)) → Unit {0}
  plain pool n a b o h = tt

  named : {Q : Resolved → Type 0} → ((q : Resolved) → ResolvedOk P q → Q q) → (pool : ℕ → Resolved) (n a b o : ℕ) → ((i : ℕ) → ResolvedOk P (pool i)) → Q (pool (a * 256 + b))
  named k pool n a b o h = k (pool (a * 256 + b)) (h (a * 256 + b))

  -- in the table's order
  rows_ok : RowsOk rows
  unfolding rows
  rows_ok =
      (rcons plain (rcons plain (rcons plain (rcons plain (rcons plain (rcons (λ pool n a b o h. number-then iconst (λ v. tt) (pool a) (h a)) (rcons plain
      (rcons plain (rcons plain (rcons plain (rcons plain (rcons plain (rcons plain (rcons plain (rcons plain (rcons plain (rcons plain (rcons plain
      (rcons plain (rcons plain (rcons plain (rcons plain (rcons plain (rcons plain (rcons plain (rcons plain (rcons plain (rcons plain (rcons plain
      (rcons plain (rcons plain (rcons plain (rcons plain (rcons plain (rcons plain (rcons plain (rcons plain (rcons plain (rcons plain (rcons plain
      (rcons plain (rcons plain (rcons (named (field-then getfield (λ f x. x))) (rcons (named (field-then putfield (λ f x. x)))
      (rcons (named (method-then (is_virtual_call P) invokevirtual (λ m x t. (x, t))))
      (rcons (named (method-then (is_init_call P) invokespecial (λ m x t. (x, t))))
      (rcons (named (method-then (is_static_call P) invokestatic (λ m x t. (x, t)))) (rcons (named (type-then new_of (λ r x. new_ok r)))
      (rcons (λ pool n a b o h. ints_ok (eqb a 10)) (rcons (named (type-then array_of array_ok)) (rcons plain (rcons plain
      (rcons (named (type-then checkcast (λ r x. tt))) (rcons (named (type-then instanceof (λ r x. tt))) (rcons plain rnil)))))))))))))))))))))))))))))))))))))))))))))))))))))))

  pub instruction_ok : (M : Method) (o : ℕ) → InstrOk P (instruction P M o)
  unfolding instruction row_of
  instruction_ok M o = row_ok rows_ok M o (get_or (code_of M) o 0)
