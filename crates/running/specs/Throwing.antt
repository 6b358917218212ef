-- A thrown object taken by the call that catches it, or by none. Assumes nothing.
use Rattle.std.specs.Prelude.{Option as Found, Some, None, Result as Answer, Ok, Err, IfOk, IfErr, ℕ, zero, suc, ◌+◌, ◌*◌, ◌<◌, ◌≤◌, ◌≡◌, refl, Bool, true, false, not, ◌⊎◌, leb, set, take, drop, replicate}
use Rattle.std.proofs.Common.{sym, subst, ◌∙◌, inl, inr, arith, length-append, length-drop, length-set, length-take-le, ap, List, [], ◌∷◌, ◌++◌, leb-true, length}
use borrow.Author.Tests.{not-true, not-false}
use Rattle.std.proofs.lemmas.List.{take-set-le, drop-set-add}
use Rattle.std.proofs.Math.Seq.{take-set-lt}
use Rattle.kit.specs.Lists.{length_part}
use Rattle.kit.specs.Pick.{side}
use Rattle.classfiles.specs.Descriptors.{cls}
use Rattle.reader.specs.BuiltIns.{null_pointer}
use Rattle.reader.specs.Program.{Program, method}
use Rattle.rules.specs.Opcodes.{body}
use Rattle.rules.specs.Sites.{front}
use Rattle.shaping.specs.Phases.{program_now}
use Rattle.plain.specs.Heap.{Heap, heap, Val, ref, has_room, header, allocate, next_ref}
use Rattle.plain.specs.HeapLaws.{room_in}
use Rattle.plain.specs.Machine.{heap_full, depth_full, stuck, returned, machine, Result, next, ended, stopped, uncaught, Here, only, call, landed, throw, fault, create, with_room}
use Rattle.plain.specs.ValueLaws.{value_of}
use Rattle.plain.specs.Windows.{halt_of, ops_put, locs_put, ops_of, locs_of}
use Rattle.plain.specs.Calls.{window_at, frame_at, waiting, waiting_kept}
use Rattle.plain.specs.CallSteps.{Lent, Runs}
use Rattle.plain.specs.Landing.{at_handler}
use Rattle.plain.specs.declared.frames.Frame.{Frame}
use Rattle.running.specs.Standing.{records, machine_of, Placed, Stacked, Standing, passed}
use Rattle.running.specs.Throws.{OfBundle, Waiters, Shaped, landed_as, Holds, Lands}
use Rattle.plain.specs.declared.calls.Running.{Running}
use Rattle.plain.specs.declared.window.Halt.{Halt}
use Rattle.plain.specs.declared.window.Halt.TheVariants.{Fault, HeapFull, DepthFull, Stuck}
use Rattle.running.specs.declared.ends.Moved.{Moved}
use Rattle.running.specs.declared.ends.Ended.{Ended}
use Rattle.running.specs.declared.ends.End.{End}
use Rattle.running.specs.declared.ends.End.TheVariants.{Returned, Uncaught, HeapFull as NoRoom, DepthFull as NoDepth, Stuck as NoWay}

-- ---- the call that catches
pub record Catching (n : ℕ) (t : List ℕ) (r : Found Running) : Type 0 where
  pub of : (o : Running) → r ≡ Some o → OfBundle n t o.call

-- it has a slot for an operand, where there is one
unfoldable pub has_slot : Program → Found Running → Bool
has_slot P None = true
has_slot P (Some r) = leb 1 (body (method P r.call.class r.call.method)).max_stack

pub slot_none : (P : Program) → true ≡ has_slot P None
unfolding has_slot
slot_none P = refl

pub slot_some : (P : Program) (r : Running) (m : ℕ) → m ≡ (body (method P r.call.class r.call.method)).max_stack → leb 1 m ≡ has_slot P (Some r)
unfolding has_slot
slot_some P r m q = rw q

-- ---- on in a call, or at an end; what is returned is told beside it
abbrev pub Move : Type 0
Move = Answer Moved Ended

abbrev pub ends_as : List Val → Heap → End → Result
ends_as rs H (Returned v) = ended (returned rs) H
ends_as rs H (Uncaught c) = ended (uncaught c) H
ends_as rs H NoRoom = stopped heap_full
ends_as rs H NoDepth = stopped depth_full
ends_as rs H NoWay = stopped stuck

abbrev pub moved_of : List Val → List ℕ → List ℕ → List ℕ → List ℕ → Move → Result
moved_of rs cells t s g (Ok r) = next (machine_of cells r.used t s g r.depth r.call)
moved_of rs cells t s g (Err e) = ends_as rs (heap cells e.used) e.end

-- A where the run is stopped
abbrev pub if_stopped : Type 0 → End → Type 0
if_stopped A (Returned v) = Unit {0}
if_stopped A (Uncaught c) = Unit {0}
if_stopped A NoRoom = A
if_stopped A NoDepth = A
if_stopped A NoWay = A

-- whoever stops has changed nothing
abbrev pub kept_by : Type 0 → ℕ → Move → Type 0
kept_by A used (Ok r) = Unit {0}
kept_by A used (Err e) = if_stopped (A × (e.used ≡ used)) e.end

-- nothing is returned
abbrev pub unreturned : End → Type 0
unreturned (Returned v) = ⊥
unreturned (Uncaught c) = Unit {0}
unreturned NoRoom = Unit {0}
unreturned NoDepth = Unit {0}
unreturned NoWay = Unit {0}

-- no demand on a halt
abbrev pub any_halt : Halt → Type 0
any_halt h = Unit {0}

-- of all faults, that of null alone
abbrev pub null_only : Halt → Type 0
null_only (Fault c) = c ≡ null_pointer
null_only HeapFull = Unit {0}
null_only DepthFull = Unit {0}
null_only Stuck = Unit {0}

abbrev pub ending : End → ℕ → Ended
ending e used = record { end = e; used = used }

-- the call with a reference as its only operand
unfoldable pub with_one : Frame → Frame
with_one k = record { class = k.class; method = k.method; offset = k.offset; own = k.own; operands = 1; locals = k.locals }

-- the reference q is put where the call that catches has its first operand
pub record Takes (s g s' g' : List ℕ) (r : Running) (q used : ℕ) (z : Moved) : Type 0 where
  pub words : s' ≡ set s (64 * r.depth + 32) q
  pub tags : g' ≡ set g (64 * r.depth + 32) 2
  pub is : z ≡ record { depth = r.depth; call = with_one r.call; used = used }

-- ---- what a halt and a throw leave; neither returns
pub record Faults (b : List ℕ) (n : ℕ) (t cells s g cells' s' g' : List ℕ) (d : ℕ) (k : Frame) (used : ℕ) (h : Halt) (r : Move) : Type 0 where
  pub is : (x : Here) → Runs x t s g records d k → x.heap ≡ heap cells used → moved_of [] cells' t s' g' r ≡ halt_of (program_now b n t) x h
  pub kept : kept_by ((cells' ≡ cells) × (s' ≡ s) × (g' ≡ g)) used r
  pub never : IfErr r (λ e. unreturned e.end)
  pub on : IfOk r (λ o. Standing b n t s' g' o.depth o.call)
  pub size : length cells' ≡ length cells

pub record Throws (b : List ℕ) (n : ℕ) (t s g s' g' : List ℕ) (d : ℕ) (k : Frame) (used q c : ℕ) (r : Move) : Type 0 where
  pub is : (cells : List ℕ) (x : Here) → Runs x t s g records d k → x.heap ≡ heap cells used → moved_of [] cells t s' g' r ≡ throw (program_now b n t) x q c
  pub kept : kept_by ((s' ≡ s) × (g' ≡ g)) used r
  pub never : IfErr r (λ e. unreturned e.end)
  pub on : IfOk r (λ o. Standing b n t s' g' o.depth o.call)

-- ---- the object in its place
window_put : (e : ℕ) (l : List ℕ) (x : ℕ) → window_at (set l (64 * e + 32) x) e ≡ set (window_at l e) 32 x
window_put e l x = ap (take 64) (drop-set-add (64 * e) l 32 x) ∙ take-set-lt 64 (drop (64 * e) l) 32 x (omega arith)

-- the machine that goes on, or the end
abbrev after : ℕ → List ℕ → List ℕ → List ℕ → Found Running → ℕ → Heap → Result
after c t s g None q H = ended (uncaught c) H
after c t s g (Some r) q H =
    next (machine H (call r.call.class r.call.method r.call.offset r.call.own (locs_of (window_at s r.depth) (window_at g r.depth) r.call.locals) (ref q ∷ [])) (waiting t records s g r.depth))

module _ (t s g s' g' : List ℕ) (r : Running) (q used : ℕ) (z : Moved) (h : Lent t s g records) (b : r.depth < 64) (m : r.call.locals ≤ 32) (k : Takes s g s' g' r q used z) where
  abbrev e : ℕ
  e = r.depth

  taken : (cells : List ℕ) → machine_of cells z.used t s' g' z.depth z.call
      ≡ machine (heap cells used) (call r.call.class r.call.method r.call.offset r.call.own (locs_of (window_at s e) (window_at g e) r.call.locals) (ref q ∷ [])) (waiting t records s g e)
  unfolding with_one ops_of value_of
  taken cells =
      let lw : 32 + 0 < length (window_at s e) = rw (length_part (64 * e) 64 s (rw h.words (omega arith))) (omega arith) in
      let lg : 32 + 0 < length (window_at g e) = rw (length_part (64 * e) 64 g (rw h.tags (omega arith))) (omega arith) in
      rw (
        k.is,
        k.words,
        k.tags,
        window_put e s q,
        window_put e g 2,
        locs_put (window_at s e) (window_at g e) 0 q 2 r.call.locals m,
        waiting_kept t t records (set s (64 * e + 32) q) s (set g (64 * e + 32) 2) g e (λ i l. refl) (take-set-le (64 * e) s (64 * e + 32) q (omega arith)) (take-set-le (64 * e) g (64 * e + 32) 2 (omega arith)),
      )
      (ap (λ (vs : List Val). machine (heap cells used) (call r.call.class r.call.method r.call.offset r.call.own (locs_of (window_at s e) (window_at g e) r.call.locals) vs) (waiting t records s g e)) (ops_put (window_at s e) (window_at g e) 0 q 2 lw lg))

  gone_on : (c : ℕ) (cells : List ℕ) → moved_of [] cells t s' g' (Ok z) ≡ after c t s g (Some r) q (heap cells used)
  gone_on c cells = ap next (taken cells)

  lent_on : Lent t s' g' records
  lent_on = record {
    words = ap length k.words ∙ length-set s (64 * e + 32) q ∙ h.words;
    tags = ap length k.tags ∙ length-set g (64 * e + 32) 2 ∙ h.tags;
    records = h.records;
  }

-- ---- the definitions, by what the code finds
landed_by : (P : Program) (c : ℕ) (t s g : List ℕ) (r : Found Running) (obtain : (ℕ → Heap → Result) → Result) → landed P c obtain (landed_as t s g r) ≡ only (has_slot P r) (obtain (after c t s g r))
unfolding landed has_slot
landed_by P c t s g None obtain = refl
landed_by P c t s g (Some r) obtain = refl

module _ (P : Program) (c : ℕ) (t s g : List ℕ) (d : ℕ) (k : Frame) (r : Found Running) (w : Lands P t d k c r) (x : Here) (z : Runs x t s g records d k) where
  throw_by : (q : ℕ) → throw P x q c ≡ only (has_slot P r) (after c t s g r q x.heap)
  unfolding throw
  throw_by q = ap (landed P c (λ o. o q x.heap)) (sym (w.is s g x z)) ∙ landed_by P c t s g r (λ o. o q x.heap)

  fault_by : fault P x c ≡ only (has_slot P r) (with_room (has_room x.heap 0) λ u. after c t s g r (next_ref x.heap) (allocate x.heap (cls c) 0 1))
  unfolding fault create
  fault_by = ap (landed P c (create x.heap (cls c) 0 1)) (sym (w.is s g x z)) ∙ landed_by P c t s g r (create x.heap (cls c) 0 1)

  module _ (cells : List ℕ) (used : ℕ) (e : x.heap ≡ heap cells used) where
    throw_stops : (q : ℕ) → has_slot P r ≡ false → throw P x q c ≡ stopped stuck
    throw_stops q f = throw_by q ∙ rw f

    throw_goes : (q : ℕ) → has_slot P r ≡ true → throw P x q c ≡ after c t s g r q (heap cells used)
    throw_goes q f = throw_by q ∙ rw (f, e)

    fault_stops : has_slot P r ≡ false → fault P x c ≡ stopped stuck
    fault_stops f = fault_by ∙ rw f

    fault_fills : has_slot P r ≡ true → has_room (heap cells used) 0 ≡ false → fault P x c ≡ stopped heap_full
    unfolding with_room
    fault_fills f y = fault_by ∙ rw (f, e, y)

    fault_goes : has_slot P r ≡ true → has_room (heap cells used) 0 ≡ true → (cells' : List ℕ) (m : ℕ) → heap cells' m ≡ allocate (heap cells used) (cls c) 0 1
        → fault P x c ≡ after c t s g r (suc used) (heap cells' m)
    unfolding with_room
    fault_goes f y cells' m a = fault_by ∙ rw (f, e, y, ← a)

length_allocated : (cells cells' : List ℕ) (used m c : ℕ) → has_room (heap cells used) 0 ≡ true → heap cells' m ≡ allocate (heap cells used) (cls c) 0 1 → length cells' ≡ length cells
unfolding allocate
length_allocated cells cells' used m c f a =
    let l : used + (4 + 0) ≤ length cells = room_in cells used 0 f in
    let p : length (take used cells) ≡ used = length-take-le used cells (omega arith) in
    let q = length-drop (used + (4 + 0)) cells in
    ap (λ (H : Heap). length H.cells) a
    ∙ length-append (take used cells) ((header (cls c) 0 1 ++ replicate 0 0) ++ drop (used + (4 + 0)) cells) ∙ omega (arith, p, q, l)

-- ---- the run goes on in it
stacked_at : (b : List ℕ) (n : ℕ) (f t : List ℕ) (d c m : ℕ) → Stacked b n f t d c m → (e : ℕ) → e < d
    → Placed b n f (frame_at t records e) × Stacked b n f t e (frame_at t records e).class (frame_at t records e).method
unfolding Stacked
stacked_at b n f t zero c m z e l = absurd (omega arith)
stacked_at b n f t (suc d) c m z e l =
    go (side e d) (stacked_at b n f t d (frame_at t records d).class (frame_at t records d).method z.1 e)
  where
    at : ℕ → Type 0
    at i = Placed b n f (frame_at t records i) × Stacked b n f t i (frame_at t records i).class (frame_at t records i).method

    go : (e < d) ⊎ (d ≤ e) → (e < d → at e) → at e
    go (inl v) y = y v
    go (inr v) y =
        let i : d ≡ e = omega arith in
        subst at i (z.0.placed, z.1)

pub record Held (b : List ℕ) (n : ℕ) (t : List ℕ) (r : Running) : Type 0 where
  pub placed : Placed b n (front t) r.call
  pub stacked : Stacked b n (front t) t r.depth r.call.class r.call.method
  pub depth : r.depth < 64

module _ (b : List ℕ) (n : ℕ) (t s g : List ℕ) (d : ℕ) (k : Frame) (h : Standing b n t s g d k) where
  pub standing_shaped : Shaped b n t
  standing_shaped = record { readied = h.ready; passes = h.shaped }

  pub standing-land : Shaped b n t × OfBundle n t k × (d < 64) × Waiters n t d
  standing-land = (standing_shaped, h.running.of, h.depth, record { at = λ e l. (stacked_at b n (front t) t d k.class k.method h.stacked e l).0.of })

  module _ (r : Running) where
    held_by : Holds t d k r → Held b n t r
    unfolding at_handler
    held_by y = go y.call
      where
        place : (v : Frame) → Placed b n (front t) v → Placed b n (front t) (at_handler v y.target)
        place v p = record { of = p.of; operands = omega arith; locals = p.locals; offset = y.low }

        go : ((r.depth ≡ d) × (r.call ≡ at_handler k y.target)) ⊎ ((r.depth < d) × (r.call ≡ at_handler (frame_at t records r.depth) y.target)) → Held b n t r
        go (inl v) = record {
          placed = subst (Placed b n (front t)) (sym v.1) (place k h.running);
          stacked = rw (v.0, v.1) h.stacked;
          depth = omega (arith, v.0, h.depth);
        }
        go (inr v) =
            let q = stacked_at b n (front t) t d k.class k.method h.stacked r.depth v.0 in
            record {
              placed = subst (Placed b n (front t)) (sym v.1) (place (frame_at t records r.depth) q.0);
              stacked = rw v.1 q.1;
              depth = omega (arith, v.0, h.depth);
            }

  pub catching : (c : ℕ) (r : Found Running) → Lands (program_now b n t) t d k c r → Catching n t r
  catching c r w = record { of = λ o e. (held_by o (w.holds o e)).placed.of }

  -- nothing catches it, or there is no slot: whoever stops has changed nothing
  module _ (c : ℕ) (r : Found Running) (w : Lands (program_now b n t) t d k c r) (v : Bool) (a : v ≡ has_slot (program_now b n t) r) (used : ℕ) where
    pub throw-stuck : (q : ℕ) → not v ≡ true → Throws b n t s g s g d k used q c (Err (ending NoWay used))
    throw-stuck q f = record {
      is = λ cells x z e. sym (throw_stops (program_now b n t) c t s g d k r w x z cells used e q (sym a ∙ not-true v f));
      kept = ((refl, refl), refl);
      never = tt;
      on = tt;
    }

    module _ (cells : List ℕ) where
      pub fault-stuck : not v ≡ true → Faults b n t cells s g cells s g d k used (Fault c) (Err (ending NoWay used))
      fault-stuck f = record {
        is = λ x z e. sym (fault_stops (program_now b n t) c t s g d k r w x z cells used e (sym a ∙ not-true v f));
        kept = ((refl, refl, refl), refl);
        never = tt;
        on = tt;
        size = refl;
      }

      module _ (l : not v ≡ false) (p : Bool) (ep : p ≡ has_room (heap cells used) 0) where
        pub fault_full : not p ≡ true → Faults b n t cells s g cells s g d k used (Fault c) (Err (ending NoRoom used))
        fault_full f = record {
          is = λ x z e. sym (fault_fills (program_now b n t) c t s g d k r w x z cells used e (sym a ∙ not-false v l) (sym ep ∙ not-true p f));
          kept = ((refl, refl, refl), refl);
          never = tt;
          on = tt;
          size = refl;
        }

        pub room_there : not p ≡ false → has_room (heap cells used) 0 ≡ true
        room_there i = sym ep ∙ not-false p i

  module _ (c : ℕ) (w : Lands (program_now b n t) t d k c None) (v : Bool) (a : v ≡ has_slot (program_now b n t) None) (l : not v ≡ false) (used : ℕ) where
    pub throw-uncaught : (q : ℕ) → Throws b n t s g s g d k used q c (Err (ending (Uncaught c) used))
    throw-uncaught q = record {
      is = λ cells x z e. sym (throw_goes (program_now b n t) c t s g d k None w x z cells used e q (sym a ∙ not-false v l));
      kept = tt;
      never = tt;
      on = tt;
    }

    pub fault-uncaught : (cells : List ℕ) → has_room (heap cells used) 0 ≡ true → (cells' : List ℕ) (m : ℕ) → heap cells' m ≡ allocate (heap cells used) (cls c) 0 1
        → Faults b n t cells s g cells' s g d k used (Fault c) (Err (ending (Uncaught c) m))
    fault-uncaught cells i cells' m al = record {
      is = λ x z e. sym (fault_goes (program_now b n t) c t s g d k None w x z cells used e (sym a ∙ not-false v l) i cells' m al);
      kept = tt;
      never = tt;
      on = tt;
      size = length_allocated cells cells' used m c i al;
    }

  module _ (c : ℕ) (r : Running) (w : Lands (program_now b n t) t d k c (Some r)) where
    held : Held b n t r
    held = held_by r (w.holds r refl)

    few : r.call.locals ≤ 32
    few = omega (arith, held.placed.locals, (passed b n t h.ready h.shaped r.call.class r.call.method held.placed.of).fits.locals)

    pub take-asked : (r.depth < 64) × (length s ≡ 4096) × (length g ≡ 4096)
    take-asked = (held.depth, h.lent.words, h.lent.tags)

    module _ (v : Bool) (a : v ≡ has_slot (program_now b n t) (Some r)) (l : not v ≡ false) where
      slot : has_slot (program_now b n t) (Some r) ≡ true
      slot = sym a ∙ not-false v l

      slot_there : has_slot (program_now b n t) (Some r) ≡ true → 1 ≤ (body (method (program_now b n t) r.call.class r.call.method)).max_stack
      unfolding has_slot
      slot_there e = leb-true 1 _ e

      standing_on : (s' g' : List ℕ) (q used : ℕ) (z : Moved) → Takes s g s' g' r q used z → Standing b n t s' g' z.depth z.call
      unfolding with_one
      standing_on s' g' q used z y = rw y.is (record {
        ready = h.ready;
        shaped = h.shaped;
        lent = lent_on t s g s' g' r q used z h.lent held.depth few y;
        depth = held.depth;
        running = record { of = held.placed.of; operands = slot_there slot; locals = held.placed.locals; offset = held.placed.offset };
        stacked = held.stacked;
      })

      pub throw-caught : (s' g' : List ℕ) (used q : ℕ) (z : Moved) → Takes s g s' g' r q used z → Throws b n t s g s' g' d k used q c (Ok z)
      throw-caught s' g' used q z y = record {
        is = λ cells x u e. gone_on t s g s' g' r q used z h.lent held.depth few y c cells ∙ sym (throw_goes (program_now b n t) c t s g d k (Some r) w x u cells used e q slot);
        kept = tt;
        never = tt;
        on = standing_on s' g' q used z y;
      }

      pub fault-caught : (cells : List ℕ) (used : ℕ) → has_room (heap cells used) 0 ≡ true → (cells' : List ℕ) (m : ℕ) → heap cells' m ≡ allocate (heap cells used) (cls c) 0 1
          → (s' g' : List ℕ) (z : Moved) → Takes s g s' g' r (used + 1) m z → Faults b n t cells s g cells' s' g' d k used (Fault c) (Ok z)
      fault-caught cells used i cells' m al s' g' z y =
          let o : used + 1 ≡ suc used = omega arith in
          record {
            is = λ x u e. gone_on t s g s' g' r (used + 1) m z h.lent held.depth few y c cells' ∙ ap (λ (j : ℕ). after c t s g (Some r) j (heap cells' m)) o ∙ sym (fault_goes (program_now b n t) c t s g d k (Some r) w x u cells used e slot i cells' m al);
            kept = tt;
            never = tt;
            on = standing_on s' g' (used + 1) m z y;
            size = length_allocated cells cells' used m c i al;
          }

  -- what is no fault stops the run
  module _ (cells : List ℕ) (used : ℕ) where
    pub halts_full : Faults b n t cells s g cells s g d k used HeapFull (Err (ending NoRoom used))
    halts_full = record { is = λ x z e. refl; kept = ((refl, refl, refl), refl); never = tt; on = tt; size = refl }

    pub halts_deep : Faults b n t cells s g cells s g d k used DepthFull (Err (ending NoDepth used))
    halts_deep = record { is = λ x z e. refl; kept = ((refl, refl, refl), refl); never = tt; on = tt; size = refl }

    pub halts_stuck : Faults b n t cells s g cells s g d k used Stuck (Err (ending NoWay used))
    halts_stuck = record { is = λ x z e. refl; kept = ((refl, refl, refl), refl); never = tt; on = tt; size = refl }
