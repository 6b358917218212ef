-- Steps by their tests: what the code's answers come to in every context that stands where the code does. Assumes nothing.
use Rattle.std.specs.Prelude.{Ok, Err, ◌≡◌, ℕ, suc, ◌+◌, ◌-◌, ◌<◌, ◌≤◌, Bool, true, false, not, List, ◌∷◌, length, set, ◌==◌, ◌≢◌, refl}
use Rattle.std.proofs.Common.{sym, ap, ◌∙◌, length-set, zero-add, arith, le-leb, eq-eqb, ne_eqb}
use borrow.Author.Tests.{lt-leb, not-true, not-false}
use Rattle.reader.specs.Program.{Program}
use Rattle.plain.specs.Heap.{heap, Val, num}
use Rattle.plain.specs.Machine.{stuck, Result, stopped, Here, only, go_on}
use Rattle.plain.specs.ValueLaws.{value_of}
use Rattle.plain.specs.Windows.{Turn, ops_of, locs_of, turn_of, Sized, Stands, Goes, going, pushing, storing, choosing, either, faulting, ops_put, locs_put, local_put, ops_local, length_ops, length_locs, set_past}
use Rattle.plain.specs.declared.window.Place.{Place}
use Rattle.plain.specs.declared.window.Halt.TheVariants.{Fault, Stuck}

-- ---- stuck
pub halted : (c : Place) (w g : List ℕ) (what : Program → Here → Result)
    → ((P : Program) (x : Here) (cells : List ℕ) → Stands P x c w g cells → what P x ≡ stopped stuck) → Goes c w g w g (Err Stuck) what
halted c w g what h = record {
  is = λ P x cells s. sym (h P x cells s);
  kept = λ h e. (refl, refl);
  room = omega arith;
}

-- ---- on
module _ (c : Place) (w g : List ℕ) (at : ℕ) where
  pub go_stuck : c.most < c.operands
      → Goes c w g w g (Err Stuck) (going at w g c.operands)
  unfolding go_on going
  go_stuck h = halted c w g _ (λ P x cells s. rw (length_ops w g c.operands, s.most, lt-leb c.operands c.most h))

  pub go_on_lem : c.operands ≤ c.most → c.operands ≤ 32
      → Goes c w g w g (Ok (record { at = at; operands = c.operands; used = c.used })) (going at w g c.operands)
  unfolding go_on going
  go_on_lem h l = record {
    is = λ P x cells s. rw (length_ops w g c.operands, s.most, le-leb c.operands c.most h, s.heap, s.locals);
    kept = λ h e. (refl, refl);
    room = l;
  }

-- a value more
module _ (c : Place) (w g : List ℕ) (k v : ℕ) where
  pub push-stuck : c.most ≤ c.operands
      → Goes c w g w g (Err Stuck) (pushing (value_of k v) w g c.operands)
  unfolding go_on pushing
  push-stuck h =
      halted c w g _ (λ P x cells s. rw (length_ops w g c.operands, s.most, lt-leb (suc c.operands) c.most (omega arith)))

  pub push-on : Sized c w g → c.operands < c.most
      → Goes c w g (set w (32 + c.operands) v) (set g (32 + c.operands) k) (Ok (record { at = c.after; operands = c.operands + 1; used = c.used })) (pushing (value_of k v) w g c.operands)
  unfolding go_on pushing
  push-on z h =
      let e : c.operands + 1 ≡ suc c.operands = omega arith in
      let hw : 32 + c.operands < length w = rw z.words (omega (arith, z.most)) in
      let hg : 32 + c.operands < length g = rw z.tags (omega (arith, z.most)) in
      record {
        is = λ P x cells s. rw (length_ops w g c.operands, s.most, le-leb (suc c.operands) c.most (omega arith), s.heap, s.locals, s.after, e, ops_put w g c.operands v k hw hg, locs_put w g c.operands v k c.locals z.locals);
        kept = λ h e. absurd cc;
        room = omega (arith, z.most);
      }

-- a value into a local, no operand more; a local that is not there takes nothing
module _ (c : Place) (w g : List ℕ) (j k v : ℕ) where
  pub store-stuck : c.most < c.operands → Goes c w g w g (Err Stuck) (storing (value_of k v) j w g c.operands)
  unfolding go_on storing
  store-stuck h = halted c w g _ (λ P x cells s. rw (length_ops w g c.operands, s.most, lt-leb c.operands c.most h))

  pub store_on : Sized c w g → j < c.locals → c.operands ≤ c.most
      → Goes c w g (set w j v) (set g j k) (Ok (record { at = c.after; operands = c.operands; used = c.used })) (storing (value_of k v) j w g c.operands)
  unfolding go_on storing
  store_on z l h =
      let hw : 0 + j < length w = rw z.words (omega (arith, z.locals)) in
      let hg : 0 + j < length g = rw z.tags (omega (arith, z.locals)) in
      record {
        is = λ P x cells s. rw (length_ops w g c.operands, s.most, le-leb c.operands c.most h, s.heap, s.locals, s.after, ops_local w g v k c.operands j (omega (arith, z.locals)), local_put w g v k 0 c.locals j l hw hg, zero-add j);
        kept = λ h e. absurd cc;
        room = z.operands;
      }

  pub store_past : Sized c w g → c.locals ≤ j → c.operands ≤ c.most
      → Goes c w g w g (Ok (record { at = c.after; operands = c.operands; used = c.used })) (storing (value_of k v) j w g c.operands)
  unfolding go_on storing
  store_past z l h = record {
    is = λ P x cells s. rw (length_ops w g c.operands, s.most, le-leb c.operands c.most h, s.heap, s.locals, s.after, set_past (locs_of w g c.locals) j (value_of k v) (omega (arith, length_locs w g 0 c.locals)));
    kept = λ h e. (refl, refl);
    room = z.operands;
  }

-- a value in place of the operand under the n-th, which leaves what stands below
module _ (w g : List ℕ) (n a k b l : ℕ) where
  pub ops_two : 33 + n < length w → 33 + n < length g → ops_of (set (set w (32 + n) a) (33 + n) b) (set (set g (32 + n) k) (33 + n) l) (suc (suc n)) ≡ value_of l b ∷ value_of k a ∷ ops_of w g n
  ops_two h m =
      let e : 33 + n ≡ 32 + suc n = omega arith in
      rw e (ops_put (set w (32 + n) a) (set g (32 + n) k) (suc n) b l (rw (length-set w (32 + n) a) (omega arith)) (rw (length-set g (32 + n) k) (omega arith))
      ∙ ap (λ (z : List Val). value_of l b ∷ z) (ops_put w g n a k (omega arith) (omega arith)))

pub ruleset turns = (go_stuck, go_on_lem, push-stuck, push-on, store-stuck, store_on, store_past)

-- ---- forms by their tests
-- what a form does is stuck unless the test holds
pub record By (c : Place) (w g : List ℕ) (what : Program → Here → Result) (t : Bool) (rest : Program → Here → Result) : Type 0 where
  pub is : (P : Program) (x : Here) (cells : List ℕ) → Stands P x c w g cells → what P x ≡ only t (rest P x)

only_false : (b : Bool) (z : Result) → b ≡ false → only b z ≡ stopped stuck
only_false b z e = rw e

only_true : (b : Bool) (z : Result) → b ≡ true → only b z ≡ z
only_true b z e = rw e

module _ (c : Place) (w g : List ℕ) (what rest : Program → Here → Result) where
  pub if_not : (t : Bool) → By c w g what t rest → t ≡ false → Goes c w g w g (Err Stuck) what
  if_not t h q = halted c w g what (λ P x cells s. h.is P x cells s ∙ only_false t (rest P x) q)

module _ (c : Place) (w g w' g' : List ℕ) (r : Turn) (what rest : Program → Here → Result) where
  pub if_so : (t : Bool) → By c w g what t rest → t ≡ true → Goes c w g w' g' r rest → Goes c w g w' g' r what
  if_so t h q k = record {
    is = λ P x cells s. k.is P x cells s ∙ sym (h.is P x cells s ∙ only_true t (rest P x) q);
    kept = k.kept;
    room = k.room;
  }

module _ (c : Place) (w g w' g' : List ℕ) (r : Turn) where
  -- one and the same in every context
  pub alike : (a b : Program → Here → Result) → ((P : Program) (x : Here) (cells : List ℕ) → Stands P x c w g cells → a P x ≡ b P x) → Goes c w g w' g' r a → Goes c w g w' g' r b
  alike a b e k = record { is = λ P x cells s. k.is P x cells s ∙ e P x cells s; kept = k.kept; room = k.room }

  -- with operands fewer
  pub lower : (d : Place) (a : Program → Here → Result) (n : ℕ) → d ≡ record { operands = n; most = c.most; locals = c.locals; after = c.after; used = c.used } → Goes d w g w' g' r a → Goes c w g w' g' r a
  lower d a n e k = record { is = λ P x cells s. go d e k P x cells s; kept = k.kept; room = k.room }
    where
      go : (d : Place) → d ≡ record { operands = n; most = c.most; locals = c.locals; after = c.after; used = c.used } → Goes d w g w' g' r a
          → (P : Program) (x : Here) (cells : List ℕ) → Stands P x c w g cells → turn_of P x c.locals w' g' cells r ≡ a P x
      go d e k P x cells s =
          let f : d.locals ≡ c.locals = ap (λ (p : Place). p.locals) e in
          rw (← f) (k.is P x cells (record { heap = s.heap ∙ sym (ap (λ (p : Place). heap cells p.used) e); locals = s.locals ∙ sym (ap (λ (p : Place). locs_of w g p.locals) e); after = s.after ∙ sym (ap (λ (p : Place). p.after) e); most = s.most ∙ sym (ap (λ (p : Place). p.most) e) }))

  pub push_low : (d : Place) (u v : Val) (n : ℕ) → d ≡ record { operands = n; most = c.most; locals = c.locals; after = c.after; used = c.used } → u ≡ v
      → Goes d w g w' g' r (pushing u w g d.operands) → Goes c w g w' g' r (pushing v w g n)
  push_low d u v n e f k = lower d _ n e (rw (← ap (λ (p : Place). p.operands) e, ← f) k)

  pub push_as : (u v : Val) (n : ℕ) → u ≡ v → Goes c w g w' g' r (pushing u w g n) → Goes c w g w' g' r (pushing v w g n)
  push_as u v n e k = rw (← e) k

  pub store_as : (u v : Val) (j n : ℕ) → u ≡ v → Goes c w g w' g' r (storing u j w g n) → Goes c w g w' g' r (storing v j w g n)
  store_as u v j n e k = rw (← e) k

  pub go_low : (d : Place) (n at at' : ℕ) → d ≡ record { operands = n; most = c.most; locals = c.locals; after = c.after; used = c.used } → at ≡ at'
      → Goes d w g w' g' r (going at w g d.operands) → Goes c w g w' g' r (going at' w g n)
  go_low d n at at' e f k = lower d _ n e (rw (← ap (λ (p : Place). p.operands) e, ← f) k)

  pub go_next : (d : Place) (n : ℕ) → d ≡ record { operands = n; most = c.most; locals = c.locals; after = c.after; used = c.used }
      → Goes d w g w' g' r (going d.after w g d.operands) → Goes c w g w' g' r (going c.after w g n)
  go_next d n e k = go_low d n d.after c.after e (ap (λ (p : Place). p.after) e) k

  pub store_low : (d : Place) (u v : Val) (j n : ℕ) → d ≡ record { operands = n; most = c.most; locals = c.locals; after = c.after; used = c.used } → u ≡ v
      → Goes d w g w' g' r (storing u j w g d.operands) → Goes c w g w' g' r (storing v j w g n)
  store_low d u v j n e f k = lower d _ n e (rw (← ap (λ (p : Place). p.operands) e, ← f) k)

  pub pick_so : (b q : Bool) (t n : ℕ) → q ≡ true → q ≡ b → Goes c w g w' g' r (going t w g n) → Goes c w g w' g' r (choosing b t w g n)
  unfolding going choosing
  pick_so b q t n e f k = rw (← f, e) k

  pub pick_not : (b q : Bool) (t n : ℕ) → q ≡ false → q ≡ b → Goes c w g w' g' r (going c.after w g n) → Goes c w g w' g' r (choosing b t w g n)
  unfolding going choosing
  pick_not b q t n e f k = alike (going c.after w g n) (choosing b t w g n) (λ P x cells s. rw (← f, e, s.after)) k

  pub either_so : (t : Bool) (a b : Program → Here → Result) → t ≡ true → Goes c w g w' g' r a → Goes c w g w' g' r (either t a b)
  unfolding either
  either_so t a b e k = alike a (either t a b) (λ P x cells s. rw e) k

  pub either_not : (t : Bool) (a b : Program → Here → Result) → t ≡ false → Goes c w g w' g' r b → Goes c w g w' g' r (either t a b)
  unfolding either
  either_not t a b e k = alike b (either t a b) (λ P x cells s. rw e) k

pub faulted : (c : Place) (w g : List ℕ) (k : ℕ) → Goes c w g w g (Err (Fault k)) (faulting k)
unfolding faulting
faulted c w g k = record { is = λ P x cells s. refl; kept = λ h e. (refl, refl); room = omega arith }

-- a zero, tested
module _ (c : Place) (w g w' g' : List ℕ) (r : Turn) (k : ℕ) (a b : Program → Here → Result) where
  pub zero_so : k ≡ 0 → Goes c w g w' g' r a → Goes c w g w' g' r (either (k == 0) a b)
  zero_so e = either_so c w g w' g' r (k == 0) a b (eq-eqb k 0 e)

  pub zero_not : (k ≢ 0) → Goes c w g w' g' r b → Goes c w g w' g' r (either (k == 0) a b)
  zero_not e = either_not c w g w' g' r (k == 0) a b (ne_eqb k 0 e)

-- a number that a call gave
pub num_as : (u : Val) (q a : ℕ) → u ≡ num q → q ≡ a → u ≡ num a
num_as u q a e f = cc

pub sized_low : (c d : Place) (w g : List ℕ) (k : ℕ) → Sized c w g → d ≡ record { operands = c.operands - k; most = c.most; locals = c.locals; after = c.after; used = c.used } → Sized d w g
sized_low c d w g k z e = record {
  words = z.words;
  tags = z.tags;
  operands = rw (ap (λ (p : Place). p.operands) e) (omega (arith, z.operands));
  most = rw (ap (λ (p : Place). p.most) e) z.most;
  locals = rw (ap (λ (p : Place). p.locals) e) z.locals;
}

-- ---- the code's tests: a call's answer, or a comparison
pub untrue : (b t : Bool) → not b ≡ true → b ≡ t → t ≡ false
untrue b t q e = sym e ∙ not-true b q

pub holds_so : (b t : Bool) → not b ≡ false → b ≡ t → t ≡ true
holds_so b t q e = sym e ∙ not-false b q

pub told : (q t b : Bool) → q ≡ b → q ≡ t → t ≡ b
told q t b e f = sym f ∙ e

pub ruleset decided = (untrue, holds_so, lt-leb, le-leb)
