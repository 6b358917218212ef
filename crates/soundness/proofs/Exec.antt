-- Each instruction, and so each step, keeps the invariant.
use Rattle.std.specs.Prelude.{ℕ, ◌≡◌, length, drop, T, ltb, leb}
use Rattle.std.proofs.Math.Path.{refl}
use mathlib.Core.List.{List, [], ◌∷◌, ◌++◌}
use Rattle.std.proofs.Common.{arith, leb→le, le→leb}
use Rattle.kit.specs.Bools.{T_true}
use Rattle.classfiles.specs.Descriptors.{Desc, cls}
use Rattle.reader.specs.Program.{Program, method}
use Rattle.rules.specs.Instruction.{Instr, nop, aconstnull, pop, dup, dupx1, swap, ineg, arraylength, iaload, aaload, iastore, aastore, athrow, ireturn, areturn, return, iconst, iload, aload, istore, astore, goto, new, iinc, ibin, idiv, ifint, ificmp, ifacmp, ifnull, getfield, putfield, invokevirtual, invokespecial, invokestatic, newarray, checkcast, instanceof, illegal, unresolved}
use Rattle.rules.specs.Opcodes.{code_of, instruction}
use Rattle.rules.specs.Resolve.{found}
use Rattle.rules.specs.Types.{int, ini, ty_of, object_ty, throwable_ty, int_array, object_array}
use Rattle.rules.specs.States.{State, top_of}
use Rattle.rules.specs.Rule.{rule, returned, arguments, calling}
use Rattle.rules.specs.Walk.{operands_fit}
use Rattle.plain.specs.Heap.{Val}
use Rattle.plain.specs.Machine.{call, Machine, machine}
use Rattle.plain.specs.Step.{execute, step}
use Rattle.facts.specs.Classes.{Link}
use Rattle.facts.specs.Resolution.{InstrOk, instruction_ok}
use Rattle.soundness.specs.Pairs.{All2}
use Rattle.soundness.specs.Typing.{vint, fit, Peeled, peeled}
use Rattle.soundness.specs.Walk.{Here as At}
use Rattle.soundness.specs.Inv.{Slots, typed, Inv, inv, Good}
use Rattle.soundness.specs.Steps.{Now, here, meth, R, Sees}
use Rattle.soundness.specs.Forms.{one, two, pops, nop_ok, aconstnull_ok, iconst_ok, pop_ok, dup_ok, dupx1_ok, swap_ok, ineg_ok, ibin_ok, iload_ok, iinc_ok, aload_ok, istore_ok, astore_ok, goto_ok, ifint_ok, ificmp_ok, ifnull_ok, ifacmp_ok, instanceof_ok}
use Rattle.soundness.specs.Objects.{new_ok}
use Rattle.soundness.specs.Calls.{Accepts, invokestatic_ok}
use Rattle.soundness.specs.Constructors.{invokespecial_ok}
use Rattle.soundness.proofs.Forms.{idiv_ok, checkcast_ok}
use Rattle.soundness.proofs.Objects.{getfield_ok, putfield_ok, arraylength_ok, iaload_ok, iastore_ok, aaload_ok, aastore_ok, newarray_ok, athrow_ok}
use Rattle.soundness.proofs.Returns.{ireturn_ok, areturn_ok, return_ok}
use Rattle.soundness.proofs.Calls.{invokevirtual_ok}

one_of_two : (k : ℕ) → T (leb 2 k) → T (leb 1 k)
one_of_two k h = let i = leb→le 2 k h in le→leb 1 k (omega arith)

module _ {P : Program} (L : Link P) (acc : Accepts P) {E : List Desc} (n : Now P E) where
  -- the index is an int, the array has a type of its own
  aaload_at : {vs : List Val} → Sees n aaload → All2 (R n) vs n.s → Good P E (execute P (here n) vs aaload)
  unfolding rule operands_fit
  aaload_at a ts = go (one L n (one_of_two (length n.s) a.count) ts)
    where
      on : {v : Val} {r : List Val} → R n v int → All2 (R n) r (drop 1 n.s) → Good P E (execute P (here n) (v ∷ r) aaload)
      on (vint {a = j}) ts = aaload_ok L n a.need.1.0 a (two L n a.count ts) j

      go : {vs : List Val} → Peeled (R n) vs (top_of n.s) (drop 1 n.s) → Good P E (execute P (here n) vs aaload)
      go (peeled x ts) = on (fit L int x a.need.0) ts

  pub exec_ok : (i : Instr) → InstrOk P i → {vs : List Val} → instruction P (meth n) n.o ≡ i → All2 (R n) vs n.s → Sees n i → Good P E (execute P (here n) vs i)
  unfolding rule calling
  exec_ok nop k e ts a = nop_ok L n a ts
  exec_ok aconstnull k e ts a = aconstnull_ok L n a ts
  exec_ok pop k e ts a = pop_ok L n a (one L n a.count ts)
  exec_ok dup k e ts a = dup_ok L n a ts (one L n a.count ts)
  exec_ok dupx1 k e ts a = dupx1_ok L n a (one L n (one_of_two (length n.s) a.count) ts)
  exec_ok swap k e ts a = swap_ok L n a (one L n (one_of_two (length n.s) a.count) ts)
  exec_ok ineg k e ts a = ineg_ok L n a (pops L n (int ∷ []) refl a ts)
  exec_ok arraylength k e ts a = arraylength_ok L n a (one L n a.count ts)
  exec_ok iaload k e ts a = iaload_ok L n a (pops L n (int ∷ int_array ∷ []) refl a ts)
  exec_ok aaload k e ts a = aaload_at a ts
  exec_ok iastore k e ts a = iastore_ok L n a (pops L n (int ∷ int ∷ int_array ∷ []) refl a ts)
  exec_ok aastore k e ts a = aastore_ok L n a (pops L n (object_ty ∷ int ∷ object_array ∷ []) refl a ts)
  exec_ok athrow k e ts a = athrow_ok L n a (pops L n (throwable_ty ∷ []) refl a ts)
  exec_ok ireturn k e ts a = ireturn_ok L n a (pops L n (int ∷ []) refl a ts)
  exec_ok areturn k e ts a = areturn_ok L n a (pops L n (returned (meth n).results ∷ []) refl a ts)
  exec_ok return k e ts a = return_ok L n a ts
  exec_ok (iconst v) k e ts a = iconst_ok L n v a ts
  exec_ok (iload j) k e ts a = iload_ok L n j a ts
  exec_ok (aload j) k e ts a = aload_ok L n j a ts
  exec_ok (istore j) k e ts a = istore_ok L n j a (pops L n (int ∷ []) refl a ts)
  exec_ok (astore j) k e ts a = astore_ok L n j a (one L n a.count ts)
  exec_ok (goto t) k e ts a = goto_ok L n t a ts
  exec_ok (new c) k e ts a = new_ok L n c e a ts
  exec_ok (iinc j v) k e ts a = iinc_ok L n j v a ts
  exec_ok (ibin f) k e ts a = ibin_ok L n f a (pops L n (int ∷ int ∷ []) refl a ts)
  exec_ok (idiv f) k e ts a = idiv_ok L n f a (pops L n (int ∷ int ∷ []) refl a ts)
  exec_ok (ifint f t) k e ts a = ifint_ok L n f t a (pops L n (int ∷ []) refl a ts)
  exec_ok (ificmp f t) k e ts a = ificmp_ok L n f t a (pops L n (int ∷ int ∷ []) refl a ts)
  exec_ok (ifacmp b t) k e ts a = ifacmp_ok L n b t a (pops L n (object_ty ∷ object_ty ∷ []) refl a ts)
  exec_ok (ifnull b t) k e ts a = ifnull_ok L n b t a (pops L n (object_ty ∷ []) refl a ts)
  exec_ok (getfield f) k e ts a = getfield_ok L n f k a (pops L n (ini (cls f.named) ∷ []) refl a ts)
  exec_ok (putfield f) k e ts a = putfield_ok L n f k a (pops L n (ty_of f.type ∷ ini (cls f.named) ∷ []) refl a ts)
  exec_ok (invokevirtual m) k e ts a = invokevirtual_ok L n acc m k.0 k.1 a (pops L n (arguments (found P m) ++ (ini (cls m.named) ∷ [])) refl a ts)
  exec_ok (invokespecial m) k e ts a = invokespecial_ok L n acc m k.0 k.1 a ts
  exec_ok (invokestatic m) k e ts a = invokestatic_ok L n acc m k.0 k.1 a (pops L n (arguments (found P m)) refl a ts)
  exec_ok (newarray d) k e ts a = newarray_ok L n d k a (pops L n (int ∷ []) refl a ts)
  exec_ok (checkcast r) k e ts a = checkcast_ok L n r a (pops L n (object_ty ∷ []) refl a ts)
  exec_ok (instanceof r) k e ts a = instanceof_ok L n r a (pops L n (object_ty ∷ []) refl a ts)
  exec_ok illegal k e ts a = absurd a.ask.0
  exec_ok unresolved k e ts a = absurd a.ask.0

-- a step
pub step_ok : {P : Program} (L : Link P) → Accepts P → (E : List Desc) {K : Machine} → Inv P E K → Good P E (step P K)
unfolding step
step_ok {P} L acc E (inv {H} {c} {m} {o} {q} {ls} {vs} {ks} Ψ fs hk gd t ck) = go t.slots t.here
  where
    go : {S : State} → Slots P (method P c m) Ψ (length ks) t.last q ls vs S → At P (method P c m) fs o S → Good P E (step P (machine H (call c m o q ls vs) ks))
    go (typed {g} {l} {s} f e x y) h =
        let n : Now P E = record { H = H; c = c; m = m; o = o; q = q; ls = ls; ks = ks; Ψ = Ψ; σ = t.last; g = g; l = l; s = s; fs = fs; heap = hk; checked = gd; calls = ck; flag = f; me = e; locals = x } in
        rw (T_true (ltb o (length (code_of (method P c m)))) h.inside) (exec_ok L acc n (instruction P (method P c m) o) (instruction_ok P L (method P c m) o) refl y h.seen)
