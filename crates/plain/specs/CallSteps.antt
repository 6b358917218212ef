-- Entering a method and giving back, as the code's calls are read back. Assumes nothing.
use Rattle.std.specs.Prelude.{Result as Answer, Ok, Err, ◌≡◌, ℕ, suc, ◌+◌, ◌-◌, ◌*◌, ◌/◌, ◌<◌, ◌≤◌, ◌⊎◌, List, [], ◌∷◌, ◌++◌, length, take, drop, set}
use Rattle.std.proofs.Common.{subst, ◌∙◌, inl, inr, refl, sym, ap, add-zero, arith, lt-ltb, le-ltb, length-set}
use Rattle.std.proofs.lemmas.List.{take-set-le, drop-set-add}
use Rattle.std.proofs.Math.Seq.{take-set-lt}
use Rattle.kit.specs.Lists.{length_part}
use Rattle.kit.specs.Pick.{side}
use Rattle.reader.specs.Program.{Program, method}
use Rattle.rules.specs.Opcodes.{body, code_of, size_at}
use Rattle.plain.specs.Heap.{Heap, Val}
use Rattle.plain.specs.Machine.{call, machine, Result, next, Here, enter, give_back, ended, returned}
use Rattle.plain.specs.ValueLaws.{value_of}
use Rattle.plain.specs.Windows.{locs_from, locs_of, ops_of, halt_of, ops_put, locs_put}
use Rattle.plain.specs.Calls.{window_at, frame_at, call_of, call_at, waiting, length-waiting, waiting_kept, waiting_more, Saved}
use Rattle.plain.specs.NextWindow.{Fresh, new-locals}
use Rattle.plain.specs.declared.frames.Frame.{Frame}
use Rattle.plain.specs.declared.calls.Running.{Running}
use Rattle.plain.specs.declared.window.Halt.{Halt}
use Rattle.plain.specs.declared.window.Halt.TheVariants.{DepthFull}

-- the lent parts have their sizes: 64 windows, and records of 64 calls from word a on
pub record Lent (t s g : List ℕ) (a : ℕ) : Type 0 where
  pub words : length s ≡ 4096
  pub tags : length g ≡ 4096
  pub records : a + 384 ≤ length t / 4

-- the code's call at depth d is the context's
pub record Runs (x : Here) (t s g : List ℕ) (a d : ℕ) (k : Frame) : Type 0 where
  pub class : x.class ≡ k.class
  pub index : x.index ≡ k.method
  pub offset : x.offset ≡ k.offset
  pub self : x.self ≡ k.own
  pub locals : x.locals ≡ locs_of (window_at s d) (window_at g d) k.locals
  pub waiting : x.waiting ≡ waiting t a s g d

-- on in a call at its depth
abbrev pub at_of : Heap → List ℕ → ℕ → List ℕ → List ℕ → Running → Result
at_of H t a s g r = next (machine H (call_of r.call (window_at s r.depth) (window_at g r.depth)) (waiting t a s g r.depth))

-- or not
abbrev pub Going : Type 0
Going = Answer Running Halt

abbrev pub going_of : Program → Here → Heap → List ℕ → ℕ → List ℕ → List ℕ → Going → Result
going_of P x H t a s g (Ok r) = at_of H t a s g r
going_of P x H t a s g (Err h) = halt_of P x h

-- n arguments above the operands that are left
abbrev pub args_at : List ℕ → List ℕ → ℕ → ℕ → ℕ → List Val
args_at s g d left n = locs_from (window_at s d) (window_at g d) (32 + left) n

pub record Enters (t s g t' s' g' : List ℕ) (a d : ℕ) (k : Frame) (n : ℕ) (into : Frame) (r : Going) : Type 0 where
  pub is : (P : Program) (x : Here) → Runs x t s g a d k → n + ((body (method P into.class into.method)).max_locals - n) ≡ into.locals
      → going_of P x x.heap t' a s' g' r ≡ enter P x into.class into.method into.own (args_at s g d k.operands n) (ops_of (window_at s d) (window_at g d) k.operands)
  pub on : (o : Running) → r ≡ Ok o → (o.depth ≡ d + 1) × (o.call ≡ into) × Saved t t' a d k
  pub kept : (h : Halt) → r ≡ Err h → (t' ≡ t) × (s' ≡ s) × (g' ≡ g)
  pub front : take (4 * a) t' ≡ take (4 * a) t
  pub lent : Lent t s g a → Lent t' s' g' a

module _ (t s g : List ℕ) (a d : ℕ) (k : Frame) (n : ℕ) (into : Frame) where
  pub enter_full : 63 ≤ d → Enters t s g t s g a d k n into (Err DepthFull)
  unfolding enter
  enter_full h = record {
    is = λ P x z l. rw (z.waiting, length-waiting t a s g d, le-ltb (suc d) 64 (omega arith));
    on = λ o e. absurd cc;
    kept = λ h e. (refl, refl, refl);
    front = refl;
    lent = λ z. z;
  }

  pub enter_on : (t' s' g' : List ℕ) → d < 63 → k.operands + n ≤ 32 → into.locals ≤ 32 → into.offset ≡ 0 → into.operands ≡ 0
      → Saved t t' a d k → Fresh s s' d k.operands n into.locals → Fresh g g' d k.operands n into.locals
      → Enters t s g t' s' g' a d k n into (Ok (record { depth = d + 1; call = into }))
  unfolding enter ops_of
  enter_on t' s' g' h b l o z v p q =
      let u : d + 1 ≡ suc d = omega arith in
      record {
        is = λ P x y m. rw (
          y.waiting,
          length-waiting t a s g d,
          lt-ltb (suc d) 64 (omega arith),
          o,
          z,
          u,
          waiting_more t t' a s s' g g' d k v p.front q.front,
          y.class,
          y.index,
          y.offset,
          y.self,
          y.locals,
          ← m,
          new-locals s s' g g' d k.operands n into.locals b l p q (body (method P into.class into.method)).max_locals (omega (arith, m)),
        );
        on = λ o e. go o e;
        kept = λ h e. absurd cc;
        front = v.front;
        lent = λ y. record { words = p.size ∙ y.words; tags = q.size ∙ y.tags; records = rw v.size y.records };
      }
    where
      go : (o : Running) → ◌≡◌ {A = Going} (Ok (record { depth = d + 1; call = into })) (Ok o) → (o.depth ≡ d + 1) × (o.call ≡ into) × Saved t t' a d k
      go o e =
          let f : record { depth = d + 1; call = into } ≡ o = cc in
          (ap (λ (z : Running). z.depth) (sym f), ap (λ (z : Running). z.call) (sym f), v)

-- ---- back
-- the waiting call behind its call instruction, with operands more
unfoldable pub resumed_at : List ℕ → ℕ → ℕ → ℕ → ℕ → Frame
resumed_at t a e size more = record {
  class = (frame_at t a e).class;
  method = (frame_at t a e).method;
  offset = (frame_at t a e).offset + size;
  own = (frame_at t a e).own;
  operands = (frame_at t a e).operands + more;
  locals = (frame_at t a e).locals;
}

-- size is that of the instruction at which the call waits
pub record Gives (t s g s' g' : List ℕ) (a d size : ℕ) (rs : List Val) (r : Running) : Type 0 where
  pub is : (P : Program) (H : Heap)
      → size_at (code_of (method P (frame_at t a (d - 1)).class (frame_at t a (d - 1)).method)) (frame_at t a (d - 1)).offset ≡ size
      → at_of H t a s' g' r ≡ give_back P H rs (waiting t a s g d)
  pub on : (r.depth ≡ d - 1) × (r.call ≡ resumed_at t a (d - 1) size (length rs))
  pub lent : Lent t s g a → Lent t s' g' a

-- from the first call there is nothing to go back to
pub back_last : (P : Program) (H : Heap) (t s g : List ℕ) (a : ℕ) (rs : List Val) → give_back P H rs (waiting t a s g 0) ≡ ended (returned rs) H
unfolding waiting give_back
back_last P H t s g a rs = refl

module _ (t s g : List ℕ) (a e size : ℕ) where
  back_is : (rs : List Val) (P : Program) (H : Heap) → size_at (code_of (method P (frame_at t a e).class (frame_at t a e).method)) (frame_at t a e).offset ≡ size
      → give_back P H rs (waiting t a s g (suc e))
      ≡ next (machine H (call (frame_at t a e).class (frame_at t a e).method ((frame_at t a e).offset + size) (frame_at t a e).own (locs_of (window_at s e) (window_at g e) (frame_at t a e).locals) (rs ++ ops_of (window_at s e) (window_at g e) (frame_at t a e).operands)) (waiting t a s g e))
  unfolding waiting call_at give_back
  back_is rs P H z = rw z

  pub back_bare : (d : ℕ) (k : Frame) (r : Running) → d ≡ suc e → k ≡ resumed_at t a e size 0 → r ≡ record { depth = e; call = k } → Gives t s g s g a d size [] r
  unfolding resumed_at
  back_bare d k r u f q =
      let v : suc e - 1 ≡ e = omega arith in
      record {
        on = rw (u, v, q) (refl, f);
        is = rw (u, v, q, f, add-zero (frame_at t a e).operands) (λ P H z. sym (back_is [] P H z));
        lent = λ z. z;
      }

  window_put : (l : List ℕ) (i x : ℕ) → i < 64 → window_at (set l (64 * e + i) x) e ≡ set (window_at l e) i x
  window_put l i x h = ap (take 64) (drop-set-add (64 * e) l i x) ∙ take-set-lt 64 (drop (64 * e) l) i x h

  abbrev n : ℕ
  n = (frame_at t a e).operands

  pub back-with : (d : ℕ) (k : Frame) (r : Running) (s' g' : List ℕ) (tag v : ℕ) → Lent t s g a → e < 64 → (frame_at t a e).operands < 32 → (frame_at t a e).locals ≤ 32 → d ≡ suc e
      → k ≡ resumed_at t a e size 1 → s' ≡ set s (64 * e + 31 + k.operands) v → g' ≡ set g (64 * e + 31 + k.operands) tag → r ≡ record { depth = e; call = k }
      → Gives t s g s' g' a d size (value_of tag v ∷ []) r
  unfolding resumed_at
  back-with d k r s' g' tag v z b h m u f p q w =
      let o : suc e - 1 ≡ e = omega arith in
      let c : k.operands ≡ suc n = ap (λ (y : Frame). y.operands) f ∙ omega arith in
      let j : 64 * e + 31 + suc n ≡ 64 * e + (32 + n) = omega arith in
      let j2 : n + 1 ≡ suc n = omega arith in
      let lw : 32 + n < length (window_at s e) = rw (length_part (64 * e) 64 s (rw z.words (omega arith))) (omega arith) in
      let lg : 32 + n < length (window_at g e) = rw (length_part (64 * e) 64 g (rw z.tags (omega arith))) (omega arith) in
      let ps : s' ≡ set s (64 * e + (32 + n)) v = p ∙ rw (c, j) in
      let pg : g' ≡ set g (64 * e + (32 + n)) tag = q ∙ rw (c, j) in
      record {
        on = rw (u, o, w) (refl, f);
        is = rw (u, o, w, f, ps, pg) (λ P H y.
            rw (
              j2,
              window_put s (32 + n) v (omega arith),
              window_put g (32 + n) tag (omega arith),
              ops_put (window_at s e) (window_at g e) n v tag lw lg,
              locs_put (window_at s e) (window_at g e) n v tag (frame_at t a e).locals m,
              waiting_kept t t a (set s (64 * e + (32 + n)) v) s (set g (64 * e + (32 + n)) tag) g e (λ i l. refl) (take-set-le (64 * e) s (64 * e + (32 + n)) v (omega arith)) (take-set-le (64 * e) g (64 * e + (32 + n)) tag (omega arith)),
            )
            (sym (back_is (value_of tag v ∷ []) P H y)));
        lent = λ y. record { words = ap length ps ∙ length-set s (64 * e + (32 + n)) v ∙ y.words; tags = ap length pg ∙ length-set g (64 * e + (32 + n)) tag ∙ y.tags; records = y.records };
      }

-- ---- what is so of every call that waits
pub record Waits (t : List ℕ) (a d : ℕ) : Type 0 where
  pub operands : (e : ℕ) → e < d → (frame_at t a e).operands ≤ 32
  pub locals : (e : ℕ) → e < d → (frame_at t a e).locals ≤ 32
  pub offset : (e : ℕ) → e < d → (frame_at t a e).offset < 65536

pub waits_none : (t : List ℕ) (a : ℕ) → Waits t a 0
waits_none t a = record { operands = λ e b. absurd (omega arith); locals = λ e b. absurd (omega arith); offset = λ e b. absurd (omega arith) }

pub waits_less : (t : List ℕ) (a d : ℕ) → Waits t a d → Waits t a (d - 1)
waits_less t a d w = record { operands = λ e b. w.operands e (omega arith); locals = λ e b. w.locals e (omega arith); offset = λ e b. w.offset e (omega arith) }

pub waits_more : (t t' : List ℕ) (a d : ℕ) (k : Frame) → Waits t a d → Saved t t' a d k → k.operands ≤ 32 → k.locals ≤ 32 → k.offset < 65536 → Waits t' a (d + 1)
waits_more t t' a d k w h p q r = record {
  operands = λ e b. at (λ (f : Frame). f.operands ≤ 32) p e (omega arith) (w.operands e) (side e d);
  locals = λ e b. at (λ (f : Frame). f.locals ≤ 32) q e (omega arith) (w.locals e) (side e d);
  offset = λ e b. at (λ (f : Frame). f.offset < 65536) r e (omega arith) (w.offset e) (side e d);
}
  where
    at : (Q : Frame → Type 0) → Q k → (e : ℕ) → e ≤ d → (e < d → Q (frame_at t a e)) → (e < d) ⊎ (d ≤ e) → Q (frame_at t' a e)
    at Q x e b y (inl c) = subst Q (sym (h.others e (λ z. omega arith))) (y c)
    at Q x e b y (inr c) =
        let z : d ≡ e = omega arith in
        subst (λ (i : ℕ). Q (frame_at t' a i)) z (subst Q (sym h.here) x)
