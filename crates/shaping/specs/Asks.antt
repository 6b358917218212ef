-- What phase C asks of an instruction, by its opcode: four bits an opcode, and that they are so. Assumes nothing.
use Rattle.std.specs.Prelude.{Option, Some, None, ℕ, suc, ◌+◌, ◌*◌, ◌/◌, ◌%◌, ◌^◌, ◌<◌, ◌≤◌, Bool, not, List, [], ◌∷◌, eqb, ltb, leb, get_or}
use Rattle.std.proofs.Common.{ap, subst, ◌∙◌, ◌≡◌, refl, sym, true, false, cond, arith, eqb-true, eq-eqb, ne_eqb, ltb-true, lt-ltb, le-ltb, le-leb}
use Rattle.std.proofs.Math.Dec.{leb-zero}
use Rattle.std.proofs.Math.ListN.{get_or-eq_default}
use Rattle.std.proofs.lemmas.Bool.{eqb-false, lt-leb, not-true, not-false}
use Rattle.kit.specs.Bools.{not_so}
use Rattle.kit.specs.Scan.{first_not, all_of, all_at}
use Rattle.classfiles.specs.Limits.{max_dimensions}
use Rattle.classfiles.specs.Descriptors.{Ref, cls, arr, dint, dref, dimensions}
use Rattle.reader.specs.Program.{Program, is_constructor}
use Rattle.rules.specs.Instruction.{Instr, FieldRef, MethodRef, iconst, getfield, putfield, invokevirtual, invokespecial, invokestatic, newarray, checkcast, instanceof, illegal, unresolved, Traits, ordinary, broken, traits, all_below, is_some, form_ok, is_new, targets, resolved}
use Rattle.rules.specs.Resolve.{Resolved, nothing, number, type, field, method_of, by, as_number, as_type, as_field, as_method, new_of, array_of, found, is_static_call, is_virtual_call, is_init_call}
use Rattle.rules.specs.Opcodes.{rows, row_in, row_of, length_of}
use Rattle.rules.specs.InstructionWords.{instr_of}
use Rattle.rules.specs.ResolvedWords.{resolved_as, resolved_in, word_of, init_bit, static_bit, Flagged}
use Rattle.rules.specs.Decoding.{made, DecodedAt}
use Rattle.rules.specs.DecodeLaws.{among}
use Rattle.rules.specs.Lines.{Line, is_start}
use Rattle.rules.specs.Shape.{all_starts}
use Rattle.rules.specs.declared.instruction.Instr as code

unfoldable pub packs : List ℕ
packs =
    8608480535662034944 ∷ 8593749173501131008 ∷ 8089346152676685687 ∷ 8372778260051226743 ∷ 302329926860109687 ∷ 538021855986386807 ∷ 8606510212828919664 ∷ 8102099357982029680 ∷ 8608480567730991216 ∷ 7378697634065119095 ∷ 8606510242607818342 ∷ 33626904954894080 ∷ 8608480567445911466 ∷ 8608480567731124087 ∷ 8608480567731124087 ∷ 8608480567731124087 ∷ []

-- of the sixteen opcodes from 16 k on
unfoldable pub packed_at : ℕ → ℕ
packed_at k = get_or packs k 0

pub packed_past : (k : ℕ) → 16 ≤ k → 0 ≡ packed_at k
unfolding packed_at packs
packed_past k h = sym (get_or-eq_default packs 0 h)

-- 0 nothing, 1 to 4 so many locals, 5 the local of its operand, 6 a target, 7 its own tests or not listed;
-- a name: 9 of a number, 10 a type, 11 a field, 12 a method of an object, 13 a static one, 14 a constructor
unfoldable pub kind_of : ℕ → ℕ
kind_of op = packed_at (op / 16) / 2 ^ (4 * (op % 16)) % 16

-- how many locals an instruction of kind k with first operand byte a needs
unfoldable pub needs_of : ℕ → ℕ → ℕ
needs_of k a = cond (ltb k 5) k (cond (eqb k 5) (a + 1) 0)

-- the pool entry that it names; a number's has one byte
unfoldable pub entry_of : ℕ → ℕ → ℕ → ℕ
entry_of k a b = cond (eqb k 9) a (a * 256 + b)

-- the kind that names a method which is a constructor, static, or neither
abbrev call_sort : Bool → Bool → ℕ
call_sort init static = cond init 14 (cond static 13 12)

-- the kind that names q, 8 for nothing; the same by its word
abbrev sort_in : Program → Resolved → ℕ
sort_in P q = by 8 (λ v. 9) (λ r. 10) (λ f. 11) (λ m. call_sort (is_constructor (found P m)) (found P m).static) q

unfoldable pub sort_of : ℕ → ℕ
sort_of w = cond (ltb (w % 8) 4) (8 + w % 8) (cond (eqb (w % 8) 4) (call_sort (init_bit w) (static_bit w)) 8)

no_sort : (k : ℕ) → eqb k 1 ≡ false → eqb k 2 ≡ false → eqb k 3 ≡ false → 8 ≡ cond (ltb k 4) (8 + k) 8
no_sort k p q r = go (ltb k 4) refl
  where
    go : (b : Bool) → ltb k 4 ≡ b → 8 ≡ cond b (8 + k) 8
    go true e = omega (arith, ltb-true k 4 e, eqb-false k 1 p, eqb-false k 2 q, eqb-false k 3 r)
    go false e = refl

sort_word : (P : Program) (v w : ℕ) → Flagged P w → sort_in P (resolved_as v w) ≡ sort_of w
unfolding resolved_as sort_of
sort_word P v w f = go (eqb (w % 8) 1) (eqb (w % 8) 2) (eqb (w % 8) 3) (eqb (w % 8) 4) refl refl refl refl
  where
    go : (a b c d : Bool) → eqb (w % 8) 1 ≡ a → eqb (w % 8) 2 ≡ b → eqb (w % 8) 3 ≡ c → eqb (w % 8) 4 ≡ d → sort_in P (resolved_as v w) ≡ sort_of w
    go true b c d p q r z = rw (eqb-true (w % 8) 1 p)
    go false true c d p q r z = rw (eqb-true (w % 8) 2 q)
    go false false true d p q r z = rw (eqb-true (w % 8) 3 r)
    go false false false true p q r z =
        let e : w % 8 ≡ 4 = eqb-true (w % 8) 4 z in
        rw (e, f.init e, f.static e)
    go false false false false p q r z = rw (p, q, r, z) (no_sort (w % 8) p q r)

abbrev targets_by : ℕ → ℕ → List ℕ
targets_by k t = cond (eqb k 6) (t ∷ []) []

abbrev found_by : Program → (ℕ → Resolved) → ℕ → ℕ → ℕ → Bool
found_by P pool k a b = cond (ltb k 7) true (eqb (sort_in P (pool (entry_of k a b))) k)

-- what the kind k of an opcode says of the instruction i with that opcode, operand bytes a and b and offset o
record Asked (P : Program) (pool : ℕ → Resolved) (k a b o : ℕ) (i : Instr) : Type 0 where
  pub form : (n : ℕ) → form_ok n i ≡ leb (needs_of k a) n
  pub old : is_new i ≡ false
  pub leads : targets i ≡ targets_by k ((o + (a * 256 + b)) % 2 ^ 16)
  pub named : resolved i ≡ found_by P pool k a b

abbrev AskedAt : ℕ → Type 0
AskedAt op = (P : Program) (pool : ℕ → Resolved) (a b o : ℕ) → Asked P pool (kind_of op) a b o (made P pool op a b o)

record Fact : Type 0 where
  pub op : ℕ
  pub says : AskedAt op

-- no local, and one, as a count
none : (n : ℕ) → true ≡ leb 0 n
none n = sym (leb-zero n)

some : (m n : ℕ) → cond (leb m n) true false ≡ leb m n
some m n = same (leb m n)
  where
    same : (b : Bool) → cond b true false ≡ b
    same true = refl
    same false = refl

first : (a n : ℕ) → cond (ltb a n) true false ≡ leb (a + 1) n
first a n = some (suc a) n ∙ ap (λ (j : ℕ). leb j n) (omega arith)

-- all four
full : {P : Program} {pool : ℕ → Resolved} {k a b o : ℕ} {i : Instr} → ((n : ℕ) → form_ok n i ≡ leb (needs_of k a) n) → is_new i ≡ false → targets i ≡ targets_by k ((o + (a * 256 + b)) % 2 ^ 16) → resolved i ≡ found_by P pool k a b → Asked P pool k a b o i
full f g h j = record { form = f; old = g; leads = h; named = j }

abbrev Usual : Instr → Type 0
Usual i = traits i ≡ ordinary

-- it names q, and asks that this be of kind k
abbrev Naming : Program → ℕ → Resolved → Instr → Type 0
Naming P k q i = traits i ≡ broken true (eqb (sort_in P q) k)

lost : (j k : ℕ) → (j ≡ k → ⊥) → traits unresolved ≡ broken true (eqb j k)
lost j k n = ap (broken true) (sym (ne_eqb j k n))

either : (b : Bool) (i : Instr) → Usual i → traits (cond b i unresolved) ≡ broken true b
either true i h = h
either false i h = refl

module _ (P : Program) where
  no_call : (k : ℕ) → k < 12 → (m : MethodRef) → Naming P k (method_of m) unresolved
  no_call k l m = go (is_constructor (found P m)) (found P m).static
    where
      go : (c s : Bool) → traits unresolved ≡ broken true (eqb (call_sort c s) k)
      go true s = lost 14 k (λ e. omega arith)
      go false true = lost 13 k (λ e. omega arith)
      go false false = lost 12 k (λ e. omega arith)

  by_number : (make : ℕ → Instr) → ((v : ℕ) → Usual (make v)) → (q : Resolved) → Naming P 9 q (as_number make q)
  by_number make h nothing = refl
  by_number make h (number v) = h v
  by_number make h (type r) = refl
  by_number make h (field f) = refl
  by_number make h (method_of m) = no_call 9 (omega arith) m

  by_type : (make : Ref → Instr) → ((r : Ref) → Usual (make r)) → (q : Resolved) → Naming P 10 q (as_type make q)
  by_type make h nothing = refl
  by_type make h (number v) = refl
  by_type make h (type r) = h r
  by_type make h (field f) = refl
  by_type make h (method_of m) = no_call 10 (omega arith) m

  by_field : (make : FieldRef → Instr) → ((f : FieldRef) → Usual (make f)) → (q : Resolved) → Naming P 11 q (as_field make q)
  by_field make h nothing = refl
  by_field make h (number v) = refl
  by_field make h (type r) = refl
  by_field make h (field f) = h f
  by_field make h (method_of m) = no_call 11 (omega arith) m

  by_method : (k : ℕ) → 11 < k → (fit : MethodRef → Bool) → ((m : MethodRef) → fit m ≡ eqb (sort_in P (method_of m)) k) → (make : MethodRef → Instr) → ((m : MethodRef) → Usual (make m)) → (q : Resolved)
      → Naming P k q (as_method fit make q)
  by_method k l fit e make h nothing = lost 8 k (λ z. omega arith)
  by_method k l fit e make h (number v) = lost 9 k (λ z. omega arith)
  by_method k l fit e make h (type r) = lost 10 k (λ z. omega arith)
  by_method k l fit e make h (field f) = lost 11 k (λ z. omega arith)
  by_method k l fit e make h (method_of m) = either (fit m) (make m) (h m) ∙ ap (broken true) (e m)

  is_virtual : (m : MethodRef) → is_virtual_call P m ≡ eqb (sort_in P (method_of m)) 12
  is_virtual m = go (is_constructor (found P m)) (found P m).static
    where
      go : (c s : Bool) → cond c false (not s) ≡ eqb (call_sort c s) 12
      go true s = refl
      go false true = refl
      go false false = refl

  is_static : (m : MethodRef) → is_static_call P m ≡ eqb (sort_in P (method_of m)) 13
  is_static m = go (is_constructor (found P m)) (found P m).static
    where
      go : (c s : Bool) → cond c false s ≡ eqb (call_sort c s) 13
      go true s = refl
      go false true = refl
      go false false = refl

  is-init : (m : MethodRef) → is_init_call P m ≡ eqb (sort_in P (method_of m)) 14
  is-init m = go (is_constructor (found P m)) (found P m).static
    where
      go : (c s : Bool) → c ≡ eqb (call_sort c s) 14
      go true s = refl
      go false true = refl
      go false false = refl

naming : {P : Program} {pool : ℕ → Resolved} {a b o : ℕ} {i : Instr} (k : ℕ) → 7 < k → Naming P k (pool (entry_of k a b)) i → Asked P pool k a b o i
unfolding needs_of
naming k l h = record {
  form = λ n.
      ap (λ (T : Traits). cond T.legal (all_below n T.locals) false) h ∙ rw (le-ltb k 5 (omega arith), ne_eqb k 5 (λ e. omega arith)) (none n);
  old = ap (λ (T : Traits). is_some T.makes) h;
  leads = ap (λ (T : Traits). T.targets) h ∙ rw (ne_eqb k 6 (λ e. omega arith));
  named = ap (λ (T : Traits). T.resolved) h ∙ rw (le-ltb k 7 (omega arith));
}

facts : List Fact
unfolding packed_at packs kind_of needs_of entry_of made row_of row_in rows
facts =
    record { op = 0x00; says = λ P pool a b o. full none refl refl refl }
    ∷ record { op = 0x01; says = λ P pool a b o. full none refl refl refl }
    ∷ record { op = 0x02; says = λ P pool a b o. full none refl refl refl }
    ∷ record { op = 0x03; says = λ P pool a b o. full none refl refl refl }
    ∷ record { op = 0x04; says = λ P pool a b o. full none refl refl refl }
    ∷ record { op = 0x05; says = λ P pool a b o. full none refl refl refl }
    ∷ record { op = 0x06; says = λ P pool a b o. full none refl refl refl }
    ∷ record { op = 0x07; says = λ P pool a b o. full none refl refl refl }
    ∷ record { op = 0x08; says = λ P pool a b o. full none refl refl refl }
    ∷ record { op = 0x10; says = λ P pool a b o. full none refl refl refl }
    ∷ record { op = 0x11; says = λ P pool a b o. full none refl refl refl }
    ∷ record { op = 0x12; says = λ P pool a b o. naming 9 (omega arith) (by_number P iconst (λ z. refl) (pool a)) }
    ∷ record { op = 0x15; says = λ P pool a b o. full (first a) refl refl refl }
    ∷ record { op = 0x19; says = λ P pool a b o. full (first a) refl refl refl }
    ∷ record { op = 0x1a; says = λ P pool a b o. full (some 1) refl refl refl }
    ∷ record { op = 0x1b; says = λ P pool a b o. full (some 2) refl refl refl }
    ∷ record { op = 0x1c; says = λ P pool a b o. full (some 3) refl refl refl }
    ∷ record { op = 0x1d; says = λ P pool a b o. full (some 4) refl refl refl }
    ∷ record { op = 0x2a; says = λ P pool a b o. full (some 1) refl refl refl }
    ∷ record { op = 0x2b; says = λ P pool a b o. full (some 2) refl refl refl }
    ∷ record { op = 0x2c; says = λ P pool a b o. full (some 3) refl refl refl }
    ∷ record { op = 0x2d; says = λ P pool a b o. full (some 4) refl refl refl }
    ∷ record { op = 0x2e; says = λ P pool a b o. full none refl refl refl }
    ∷ record { op = 0x32; says = λ P pool a b o. full none refl refl refl }
    ∷ record { op = 0x36; says = λ P pool a b o. full (first a) refl refl refl }
    ∷ record { op = 0x3a; says = λ P pool a b o. full (first a) refl refl refl }
    ∷ record { op = 0x3b; says = λ P pool a b o. full (some 1) refl refl refl }
    ∷ record { op = 0x3c; says = λ P pool a b o. full (some 2) refl refl refl }
    ∷ record { op = 0x3d; says = λ P pool a b o. full (some 3) refl refl refl }
    ∷ record { op = 0x3e; says = λ P pool a b o. full (some 4) refl refl refl }
    ∷ record { op = 0x4b; says = λ P pool a b o. full (some 1) refl refl refl }
    ∷ record { op = 0x4c; says = λ P pool a b o. full (some 2) refl refl refl }
    ∷ record { op = 0x4d; says = λ P pool a b o. full (some 3) refl refl refl }
    ∷ record { op = 0x4e; says = λ P pool a b o. full (some 4) refl refl refl }
    ∷ record { op = 0x4f; says = λ P pool a b o. full none refl refl refl }
    ∷ record { op = 0x53; says = λ P pool a b o. full none refl refl refl }
    ∷ record { op = 0x57; says = λ P pool a b o. full none refl refl refl }
    ∷ record { op = 0x59; says = λ P pool a b o. full none refl refl refl }
    ∷ record { op = 0x5a; says = λ P pool a b o. full none refl refl refl }
    ∷ record { op = 0x5f; says = λ P pool a b o. full none refl refl refl }
    ∷ record { op = 0x60; says = λ P pool a b o. full none refl refl refl }
    ∷ record { op = 0x64; says = λ P pool a b o. full none refl refl refl }
    ∷ record { op = 0x68; says = λ P pool a b o. full none refl refl refl }
    ∷ record { op = 0x6c; says = λ P pool a b o. full none refl refl refl }
    ∷ record { op = 0x70; says = λ P pool a b o. full none refl refl refl }
    ∷ record { op = 0x74; says = λ P pool a b o. full none refl refl refl }
    ∷ record { op = 0x78; says = λ P pool a b o. full none refl refl refl }
    ∷ record { op = 0x7a; says = λ P pool a b o. full none refl refl refl }
    ∷ record { op = 0x7c; says = λ P pool a b o. full none refl refl refl }
    ∷ record { op = 0x7e; says = λ P pool a b o. full none refl refl refl }
    ∷ record { op = 0x80; says = λ P pool a b o. full none refl refl refl }
    ∷ record { op = 0x82; says = λ P pool a b o. full none refl refl refl }
    ∷ record { op = 0x84; says = λ P pool a b o. full (first a) refl refl refl }
    ∷ record { op = 0x99; says = λ P pool a b o. full none refl refl refl }
    ∷ record { op = 0x9a; says = λ P pool a b o. full none refl refl refl }
    ∷ record { op = 0x9b; says = λ P pool a b o. full none refl refl refl }
    ∷ record { op = 0x9c; says = λ P pool a b o. full none refl refl refl }
    ∷ record { op = 0x9d; says = λ P pool a b o. full none refl refl refl }
    ∷ record { op = 0x9e; says = λ P pool a b o. full none refl refl refl }
    ∷ record { op = 0x9f; says = λ P pool a b o. full none refl refl refl }
    ∷ record { op = 0xa0; says = λ P pool a b o. full none refl refl refl }
    ∷ record { op = 0xa1; says = λ P pool a b o. full none refl refl refl }
    ∷ record { op = 0xa2; says = λ P pool a b o. full none refl refl refl }
    ∷ record { op = 0xa3; says = λ P pool a b o. full none refl refl refl }
    ∷ record { op = 0xa4; says = λ P pool a b o. full none refl refl refl }
    ∷ record { op = 0xa5; says = λ P pool a b o. full none refl refl refl }
    ∷ record { op = 0xa6; says = λ P pool a b o. full none refl refl refl }
    ∷ record { op = 0xa7; says = λ P pool a b o. full none refl refl refl }
    ∷ record { op = 0xac; says = λ P pool a b o. full none refl refl refl }
    ∷ record { op = 0xb0; says = λ P pool a b o. full none refl refl refl }
    ∷ record { op = 0xb1; says = λ P pool a b o. full none refl refl refl }
    ∷ record { op = 0xb4; says = λ P pool a b o. naming 11 (omega arith) (by_field P getfield (λ z. refl) (pool (a * 256 + b))) }
    ∷ record { op = 0xb5; says = λ P pool a b o. naming 11 (omega arith) (by_field P putfield (λ z. refl) (pool (a * 256 + b))) }
    ∷ record { op = 0xb6; says = λ P pool a b o. naming 12 (omega arith) (by_method P 12 (omega arith) (is_virtual_call P) (is_virtual P) invokevirtual (λ z. refl) (pool (a * 256 + b))) }
    ∷ record { op = 0xb7; says = λ P pool a b o. naming 14 (omega arith) (by_method P 14 (omega arith) (is_init_call P) (is-init P) invokespecial (λ z. refl) (pool (a * 256 + b))) }
    ∷ record { op = 0xb8; says = λ P pool a b o. naming 13 (omega arith) (by_method P 13 (omega arith) (is_static_call P) (is_static P) invokestatic (λ z. refl) (pool (a * 256 + b))) }
    ∷ record { op = 0xbe; says = λ P pool a b o. full none refl refl refl }
    ∷ record { op = 0xbf; says = λ P pool a b o. full none refl refl refl }
    ∷ record { op = 0xc0; says = λ P pool a b o. naming 10 (omega arith) (by_type P checkcast (λ z. refl) (pool (a * 256 + b))) }
    ∷ record { op = 0xc1; says = λ P pool a b o. naming 10 (omega arith) (by_type P instanceof (λ z. refl) (pool (a * 256 + b))) }
    ∷ record { op = 0xc6; says = λ P pool a b o. full none refl refl refl }
    ∷ record { op = 0xc7; says = λ P pool a b o. full none refl refl refl }
    ∷ []

is_in : List Fact → ℕ → Bool
is_in [] op = false
is_in (f ∷ fs) op = cond (eqb f.op op) true (is_in fs op)

covered : ℕ → Bool
covered op = cond (eqb (kind_of op) 7) true (is_in facts op)

passes : all_of covered 256 ≡ true
unfolding all_of first_not covered kind_of packed_at packs facts is_in
passes = refl

listed : (fs : List Fact) (op : ℕ) → is_in fs op ≡ true → AskedAt op
unfolding is_in
listed [] op h = absurd (not_so h)
listed (f ∷ fs) op h = go (eqb f.op op) refl h (listed fs op)
  where
    go : (b : Bool) → eqb f.op op ≡ b → cond b true (is_in fs op) ≡ true → (is_in fs op ≡ true → AskedAt op) → AskedAt op
    go true e q k = subst AskedAt (eqb-true f.op op e) f.says
    go false e q k = k q

asked : (op : ℕ) → op < 256 → (kind_of op ≡ 7 → ⊥) → AskedAt op
unfolding covered
asked op h n = listed facts op (rw (ne_eqb (kind_of op) 7 n) at (all_at covered 256 passes op h))

-- ---- which listed instruction is a new
-- where all that it names is resolved, one whose opcode is 0xbb
abbrev NewBy : ℕ → Type 0
NewBy op = (P : Program) (pool : ℕ → Resolved) (a b o : ℕ) → resolved (made P pool op a b o) ≡ true → is_new (made P pool op a b o) ≡ eqb op 0xbb

of_type : (q : Resolved) → resolved (as_type new_of q) ≡ true → is_new (as_type new_of q) ≡ true
of_type nothing e = e
of_type (number v) e = e
of_type (type (cls c)) e = refl
of_type (type (arr d)) e = e
of_type (field f) e = e
of_type (method_of m) e = e

never : (b : Bool) (i j : Instr) → is_new i ≡ false → is_new j ≡ false → is_new (cond b i j) ≡ false
never true i j p q = p
never false i j p q = q

of_array : (q : Resolved) → is_new (as_type array_of q) ≡ false
of_array nothing = refl
of_array (number v) = refl
of_array (type r) = never (ltb (dimensions r) max_dimensions) (newarray (dref r)) unresolved refl refl
of_array (field f) = refl
of_array (method_of m) = refl

new_bb : NewBy 0xbb
unfolding made row_of row_in rows
new_bb P pool a b o = of_type (pool (a * 256 + b))

new_bc : NewBy 0xbc
unfolding made row_of row_in rows
new_bc P pool a b o r = never (eqb a 10) (newarray dint) illegal refl refl

new_bd : NewBy 0xbd
unfolding made row_of row_in rows
new_bd P pool a b o r = of_array (pool (a * 256 + b))

-- those three are the listed ones of kind 7
own_listed : ℕ → Bool
own_listed op = cond (eqb (kind_of op) 7) (cond (eqb (length_of (row_of op)) 0) true (among (0xbb ∷ 0xbc ∷ 0xbd ∷ []) op)) true

own_passes : all_of own_listed 256 ≡ true
unfolding all_of first_not own_listed kind_of packed_at packs among row_of row_in rows
own_passes = refl

own_bb : kind_of 0xbb ≡ 7
unfolding kind_of packed_at packs
own_bb = refl

pub new_by_lem : (op : ℕ) → op < 256 → (length_of (row_of op) ≡ 0 → ⊥) → NewBy op
unfolding own_listed among
new_by_lem op h l = go (eqb (kind_of op) 7) refl
  where
    three : (x y z : Bool) → eqb op 0xbb ≡ x → eqb op 0xbc ≡ y → eqb op 0xbd ≡ z → cond x true (cond y true (cond z true false)) ≡ true → NewBy op
    three true y z p q r e = subst NewBy (sym (eqb-true op 0xbb p)) new_bb
    three false true z p q r e = subst NewBy (sym (eqb-true op 0xbc q)) new_bc
    three false false true p q r e = subst NewBy (sym (eqb-true op 0xbd r)) new_bd
    three false false false p q r e = absurd (not_so e)

    go : (k : Bool) → eqb (kind_of op) 7 ≡ k → NewBy op
    go true e =
        three (eqb op 0xbb) (eqb op 0xbc) (eqb op 0xbd) refl refl refl
        (rw (e, ne_eqb (length_of (row_of op)) 0 l) at (all_at own_listed 256 own_passes op h))
    go false e =
        let n : kind_of op ≡ 7 → ⊥ = eqb-false (kind_of op) 7 e in
        λ P pool a b o r. (asked op h n P pool a b o).old ∙ sym (ne_eqb op 0xbb (λ z. n (ap kind_of z ∙ own_bb)))

-- ---- what an answer says of the instruction that the bytes at o make
pub record Says {A : Type 0} (g : Instr → A) (s t : List ℕ) (c : ℕ) (bytes : List ℕ) (o : ℕ) (v : A) : Type 0 where
  pub is : (P : Program) → ((i : ℕ) → Flagged P (word_of t c i)) → v ≡ g (made P (resolved_in s t c) (get_or bytes o 0) (get_or bytes (o + 1) 0) (get_or bytes (o + 2) 0) o)

pub said : {A : Type 0} (g : Instr → A) (s t : List ℕ) (c : ℕ) (bytes : List ℕ) (o : ℕ) (r : code.Instr) (v : A) → DecodedAt s t c bytes o r → v ≡ g (instr_of r) → Says g s t c bytes o v
said g s t c bytes o r v d e = record { is = λ P f. e ∙ ap g (d.is P f) }

-- its mark, where its form is right
unfoldable pub mark_by : ℕ → Instr → Option ℕ
mark_by n i = cond (form_ok n i) (Some (cond (is_new i) 2 1)) None

module _ (n : ℕ) (i : Instr) where
  pub mark_good : (b : Bool) (v : ℕ) → b ≡ form_ok n i → b ≡ true → v ≡ cond (is_new i) 2 1 → Some v ≡ mark_by n i
  unfolding mark_by
  mark_good b v e h k = ap Some k ∙ sym (rw (sym e ∙ h))

  pub mark_bad : (b : Bool) → b ≡ form_ok n i → b ≡ false → None ≡ mark_by n i
  unfolding mark_by
  mark_bad b e h = sym (rw (sym e ∙ h))

  pub mark_none : None ≡ mark_by n i → form_ok n i ≡ false
  unfolding mark_by
  mark_none e = go (form_ok n i) refl e
    where
      go : (a : Bool) → form_ok n i ≡ a → None ≡ cond a (Some (cond {A = ℕ} (is_new i) 2 1)) None → form_ok n i ≡ false
      go true x y = cc
      go false x y = x

  pub mark_some : (v : ℕ) → Some v ≡ mark_by n i → (form_ok n i ≡ true) × (v ≡ cond (is_new i) 2 1)
  unfolding mark_by
  mark_some v e = go (form_ok n i) refl e
    where
      go : (a : Bool) → form_ok n i ≡ a → Some v ≡ cond a (Some (cond (is_new i) 2 1)) None → (form_ok n i ≡ true) × (v ≡ cond (is_new i) 2 1)
      go true x y = (x, cc)
      go false x y = cc

-- 12 or 13 of it, 0 where it has neither
unfoldable pub refer_by : List Line → Instr → ℕ
refer_by ls i = cond (all_starts ls (targets i)) (cond (resolved i) 0 13) 12

module _ (ls : List Line) (i : Instr) (a : Bool) (ea : a ≡ all_starts ls (targets i)) where
  pub refer_far : not a ≡ true → 12 ≡ refer_by ls i
  unfolding refer_by
  refer_far h = sym (rw (sym ea ∙ not-true a h))

  module _ (h : not a ≡ false) (b : Bool) (eb : b ≡ resolved i) where
    pub refer_good : b ≡ true → 0 ≡ refer_by ls i
    unfolding refer_by
    refer_good k = sym (rw (sym ea ∙ not-false a h, sym eb ∙ k))

    pub refer_lost : b ≡ false → 13 ≡ refer_by ls i
    unfolding refer_by
    refer_lost k = sym (rw (sym ea ∙ not-false a h, sym eb ∙ k))

-- 13 where the instruction of kind k at o names what is not of that kind
abbrev entry_in : List ℕ → ℕ → ℕ → ℕ
entry_in bytes o k = entry_of k (get_or bytes (o + 1) 0) (get_or bytes (o + 2) 0)

unfoldable pub name_fault : List ℕ → ℕ → List ℕ → ℕ → ℕ → ℕ
name_fault t c bytes o k = cond (eqb (sort_of (word_of t c (entry_in bytes o k))) k) 0 13

-- ---- both by the kind of the opcode
module _ (s t : List ℕ) (c : ℕ) (bytes : List ℕ) (o op k : ℕ) (eo : op ≡ get_or bytes o 0) (l : op < 256) (ek : k ≡ kind_of op) where
  asked_here : (k ≡ 7 → ⊥) → (P : Program) → Asked P (resolved_in s t c) k (get_or bytes (o + 1) 0) (get_or bytes (o + 2) 0) o (made P (resolved_in s t c) (get_or bytes o 0) (get_or bytes (o + 1) 0) (get_or bytes (o + 2) 0) o)
  asked_here n P =
      rw (← eo, ek) (asked op l (λ e. n (ek ∙ e)) P (resolved_in s t c) (get_or bytes (o + 1) 0) (get_or bytes (o + 2) 0) o)

  module _ (n : ℕ) (h : k ≡ 7 → ⊥) (v a : ℕ) (ea : a ≡ get_or bytes (o + 1) 0) (ev : v ≡ needs_of k a) where
    form_here : (P : Program) → form_ok n (made P (resolved_in s t c) (get_or bytes o 0) (get_or bytes (o + 1) 0) (get_or bytes (o + 2) 0) o) ≡ leb v n
    form_here P = (asked_here h P).form n ∙ ap (λ (j : ℕ). leb (needs_of k j) n) (sym ea) ∙ ap (λ (j : ℕ). leb j n) (sym ev)

    pub quick_good : v ≤ n → Says (mark_by n) s t c bytes o (Some 1)
    unfolding mark_by
    quick_good e = record { is = λ P f. sym (rw (form_here P ∙ le-leb v n e, (asked_here h P).old)) }

    pub quick_bad : n < v → Says (mark_by n) s t c bytes o None
    unfolding mark_by
    quick_bad e = record { is = λ P f. sym (rw (form_here P ∙ lt-leb v n e)) }

  pub quick_none : (ls : List Line) → k < 6 → Says (refer_by ls) s t c bytes o 0
  unfolding refer_by all_starts
  quick_none ls h =
      let n : k ≡ 7 → ⊥ = λ e. omega arith in
      record { is = λ P f. sym (rw ((asked_here n P).leads, ne_eqb k 6 (λ z. omega arith), (asked_here n P).named, lt-ltb k 7 (omega arith))) }

  module _ (ls : List Line) (h : k ≡ 6) (j : ℕ) (ej : j ≡ (o + (get_or bytes (o + 1) 0 * 256 + get_or bytes (o + 2) 0)) % 2 ^ 16) (a : Bool) (ea : a ≡ is_start ls j) where
    not_own : k ≡ 7 → ⊥
    not_own e = omega arith

    pub quick_leads : a ≡ true → Says (refer_by ls) s t c bytes o 0
    unfolding refer_by all_starts
    quick_leads e =
        record { is = λ P f. sym (rw ((asked_here not_own P).leads, eq-eqb k 6 h, ← ej, sym ea ∙ e, (asked_here not_own P).named, lt-ltb k 7 (omega arith))) }

    pub quick_far : a ≡ false → Says (refer_by ls) s t c bytes o 12
    unfolding refer_by all_starts
    quick_far e = record { is = λ P f. sym (rw ((asked_here not_own P).leads, eq-eqb k 6 h, ← ej, sym ea ∙ e)) }

  pub quick_named : (ls : List Line) → 6 ≤ k → (k ≡ 6 → ⊥) → (k ≡ 7 → ⊥) → (v : ℕ) → v ≡ name_fault t c bytes o k → Says (refer_by ls) s t c bytes o v
  unfolding refer_by all_starts name_fault
  quick_named ls m n h v e = record {
    is = λ P f.
        let z : sort_in P (resolved_in s t c (entry_in bytes o k)) ≡ sort_of (word_of t c (entry_in bytes o k)) = sort_word P _ _ (f (entry_in bytes o k)) in
        e ∙ sym (rw ((asked_here h P).leads, ne_eqb k 6 n, (asked_here h P).named, le-ltb k 7 (omega arith), z));
  }
