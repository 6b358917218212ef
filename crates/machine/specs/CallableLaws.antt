-- A bundle whose tables stand in the scratch is `Callable`. Assumes nothing.
use Rattle.std.specs.Prelude.{ℕ, ◌+◌, ◌-◌, ◌<◌, ◌≤◌, ◌≡◌, true, false, List, length, T}
use Rattle.std.proofs.Common.{sym, ap, subst, ◌∙◌, arith}
use Rattle.std.proofs.Math.Decide.{dec_lt}
use Rattle.std.proofs.Math.ListN.{get_or-eq_default}
use Rattle.kit.specs.Bools.{T_true, true-T}
use Rattle.reader.specs.BuiltIns.{first_class}
use Rattle.reader.specs.Program.{Program, no_class, class, method, class_count, is_constructor, below, method_sigs, spot, lookup}
use Rattle.reader.specs.Lookup.{class-count}
use Rattle.reader.specs.MemberAt.{methods-count}
use Rattle.rules.specs.Instruction.{Instr, MethodRef, invokevirtual}
use Rattle.rules.specs.Opcodes.{instruction}
use Rattle.rules.specs.Resolve.{found, is_virtual_call}
use Rattle.rules.specs.Sites.{front}
use Rattle.shaping.specs.Phases.{Readied, program_now}
use Rattle.facts.specs.Classes.{Link, below_trans}
use Rattle.facts.specs.Lookup.{Chosen, seek_own, lookup_below, lookup-bundle}
use Rattle.facts.specs.Resolution.{MethodOk, InstrOk, instruction_ok, virtual_plain, virtual_bound}
use Rattle.facts.specs.Scratch.{readied-link}
use Rattle.plain.specs.declared.frames.Frame.{Frame}
use Rattle.running.specs.Standing.{method_by, Row, Standing}
use Rattle.stepping.specs.Callable.{Callable}

module _ (b : List ℕ) (n : ℕ) (t : List ℕ) (h : Readied b n t) where
  abbrev P : Program
  P = program_now b n t

  link : Link P
  link = readied-link b n t h

  -- a method that a class of the bundle has
  row : (c j : ℕ) → first_class ≤ c → j < length (class P c).methods → Row n (front t) c j
  row c j l k = go (dec_lt c (first_class + n))
    where
      go : Dec (c < first_class + n) → Row n (front t) c j
      go (no x) =
          let e : class P c ≡ no_class = get_or-eq_default P.classes no_class (omega (arith, class-count b n (front t) h.prepared.tables.most)) in
          let z : j < length no_class.methods = rw e at k in
          absurd (omega arith)
      go (yes x) =
          let i : first_class + (c - 11) ≡ c = omega arith in
          let q = methods-count b n (front t) h.prepared.tables.most (c - 11) (omega arith) in
          record { low = l; high = x; row = omega (arith, k, ap (λ (d : ℕ). length (class P d).methods) (sym i), q) }

  -- what an invokevirtual names
  module _ (m : MethodRef) (v : MethodOk P m × T (is_virtual_call P m)) where
    plain : T (is_constructor (found P m)) → ⊥
    plain = virtual_plain P m v.1

    of : Row n (front t) m.owner m.index
    of = row m.owner m.index (lookup-bundle P link (found P m).sig plain m.named m.owner m.index (v.0.first plain)) v.0.there

    reach : (e : ℕ) → below P e m.named ≡ true → below P e m.owner ≡ true
    reach e x = T_true (below P e m.owner) (below_trans P link e m.named m.owner (true-T (below P e m.named) x) v.0.above)

    own : lookup P method_sigs (found P m).sig m.owner ≡ spot m.owner m.index
    unfolding lookup
    own = seek_own P method_sigs (found P m).sig (class_count P) m.named m.owner m.index (v.0.first plain) (class_count P) link.one

    over : (f e i : ℕ) → below P f m.owner ≡ true → lookup P method_sigs (found P m).sig f ≡ spot e i → (method P e i).static ≡ false
    over f e i x y =
        let w : Chosen P link (found P m).sig plain m.owner m.index f = lookup_below P link (found P m).sig plain f m.owner m.owner m.index (true-T (below P f m.owner) x) own in
        let z = w.is in
        let c : w.class' ≡ e = cc in
        let j : w.index ≡ i = cc in
        ap (λ (d : ℕ). (method P d i).static) (sym c) ∙ ap (λ (k : ℕ). (method P w.class' k).static) (sym j) ∙ w.static ∙ virtual_bound P m v.1

  named : (c j o : ℕ) (m : MethodRef) → instruction P (method_by b n (front t) c j) o ≡ invokevirtual m → MethodOk P m × T (is_virtual_call P m)
  named c j o m e = subst (λ (i : Instr). InstrOk P i) e (instruction_ok P link (method_by b n (front t) c j) o)

  pub callable : Callable b n t
  callable = record {
    bound = λ c j x. link.bound c j (true-T _ x);
    of = λ c j o m e. of m (named c j o m e);
    reach = λ c j o m e. reach m (named c j o m e);
    over = λ c j o m e. over m (named c j o m e);
  }

-- so a run has it at every instruction
pub standing_callable : (b : List ℕ) (n : ℕ) (t s g : List ℕ) (d : ℕ) (k : Frame) → Standing b n t s g d k → Callable b n t
standing_callable b n t s g d k h = callable b n t h.ready
