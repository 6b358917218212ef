-- The run's state read back, and what is so of it at every instruction. Assumes nothing.
use Rattle.std.specs.Prelude.{◌≡◌, refl, Bool, true, false, cond, ◌⊎◌, eqb, length}
use Rattle.std.proofs.Common.{◌∙◌, inl, inr, ℕ, zero, suc, ◌+◌, ◌-◌, ◌*◌, ◌<◌, ◌≤◌, sym, ap, subst, List, arith}
use Rattle.kit.specs.Bools.{not_so}
use Rattle.kit.specs.Claims.{pass}
use Rattle.kit.specs.Pick.{side}
use Rattle.kit.specs.Words.{word}
use Rattle.texts.specs.Reading.{u2_at}
use Rattle.reader.specs.BuiltIns.{first_class}
use Rattle.classfiles.specs.Blocks.{method_rows, row_in}
use Rattle.classfiles.specs.Members.{Found, none, once, twice, Body}
use Rattle.classfiles.specs.Attributes.{found_of, body_of, member_of}
use Rattle.reader.specs.Program.{Method, method, method_of, program_of}
use Rattle.reader.specs.Linked.{files_in}
use Rattle.reader.specs.MemberRows.{block_at, rows_word, row_count, row_at}
use Rattle.reader.specs.MemberAt.{method-at}
use Rattle.reader.specs.FileLimits.{Fits, BodyFits}
use Rattle.rules.specs.States.{parameter_tys}
use Rattle.rules.specs.Opcodes.{only_body, body, code_of, size_at}
use Rattle.rules.specs.Shape.{is_once}
use Rattle.rules.specs.Sites.{front}
use Rattle.verifier.specs.Besides.{Besides, besides_word, besides_front}
use Rattle.shaping.specs.Phases.{Readied, readied_kept, program_now, shape_by, of_all}
use Rattle.shaping.specs.Passing.{judged_pass, one_code, few_params}
use Rattle.verifier.specs.Typing.{passes_kept}
use Rattle.plain.specs.Heap.{heap}
use Rattle.plain.specs.Machine.{Machine, machine}
use Rattle.plain.specs.Calls.{window_at, frame_at, call_of, waiting, Saved}
use Rattle.plain.specs.CallSteps.{Lent, Waits, resumed_at}
use Rattle.plain.specs.declared.frames.Frame.{Frame}

-- the word from which the records of the calls that wait stand
abbrev pub records : ℕ
records = 46752

-- the call k at depth d, over those that wait
abbrev pub machine_of : List ℕ → ℕ → List ℕ → List ℕ → List ℕ → ℕ → Frame → Machine
machine_of cells used t s g d k = machine (heap cells used) (call_of k (window_at s d) (window_at g d)) (waiting t records s g d)

-- ---- one call
-- a method of one of the bundle's n classes
pub record Row (n : ℕ) (f : List ℕ) (c j : ℕ) : Type 0 where
  pub low : 11 ≤ c
  pub high : c < 11 + n
  pub row : j < row_count (block_at f (c - 11)) true

abbrev pub method_by : List ℕ → ℕ → List ℕ → ℕ → ℕ → Method
method_by b n f c j = method (program_of (files_in b n f)) c j

-- a call is of such a method, and its sizes are that method's
pub record Placed (b : List ℕ) (n : ℕ) (f : List ℕ) (k : Frame) : Type 0 where
  pub of : Row n f k.class k.method
  pub operands : k.operands ≤ (body (method_by b n f k.class k.method)).max_stack
  pub locals : k.locals ≡ (body (method_by b n f k.class k.method)).max_locals
  pub offset : k.offset < 65536

-- the call w stands at an instruction that calls
pub record AtCall (b : List ℕ) (n : ℕ) (f : List ℕ) (w : Frame) : Type 0 where
  pub size : size_at (code_of (method_by b n f w.class w.method)) w.offset ≡ 3
  pub behind : w.offset + 3 < 65536

-- w waits for a call of method m of class c, for whose results it has room
pub record Under (b : List ℕ) (n : ℕ) (f : List ℕ) (w : Frame) (c m : ℕ) : Type 0 where
  pub placed : Placed b n f w
  pub call : AtCall b n f w
  pub room : w.operands + length (method_by b n f c m).results ≤ (body (method_by b n f w.class w.method)).max_stack

-- all d of them, below a call of method m of class c
unfoldable pub Stacked : List ℕ → ℕ → List ℕ → List ℕ → ℕ → ℕ → ℕ → Type 0
Stacked b n f t zero c m = Unit {0}
Stacked b n f t (suc e) c m = Under b n f (frame_at t records e) c m × Stacked b n f t e (frame_at t records e).class (frame_at t records e).method

-- ---- the run at an instruction: the call k at depth d, of a bundle that has passed phases A to C
pub record Standing (b : List ℕ) (n : ℕ) (t s g : List ℕ) (d : ℕ) (k : Frame) : Type 0 where
  pub ready : Readied b n t
  pub shaped : of_all shape_by b n t ≡ pass
  pub lent : Lent t s g records
  pub depth : d < 64
  pub running : Placed b n (front t) k
  pub stacked : Stacked b n (front t) t d k.class k.method

-- ---- what phases A to C have shown of a method
fits_once : (F : Found Body) → is_once F ≡ true → BodyFits F → Fits (only_body F)
fits_once none e h = absurd (not_so e)
fits_once (once v) e h = h
fits_once twice e h = absurd (not_so e)

once_is : (k : ℕ) (v : Body) → is_once (found_of k v) ≡ true → only_body (found_of k v) ≡ v
unfolding found_of
once_is k v h = go (eqb k 0) (eqb k 1) h
  where
    go : (p q : Bool) → is_once {A = Body} (cond p none (cond q (once v) twice)) ≡ true → only_body (cond p none (cond q (once v) twice)) ≡ v
    go true q x = absurd (not_so x)
    go false true x = refl
    go false false x = absurd (not_so x)

pub record Passed (M : Method) : Type 0 where
  pub fits : Fits (body M)
  pub params : length (parameter_tys M) ≤ (body M).max_locals

module _ (b : List ℕ) (n : ℕ) (t : List ℕ) (h : Readied b n t) (e : of_all shape_by b n t ≡ pass) (c j : ℕ) (r : Row n (front t) c j) where
  abbrev M : Method
  M = method_by b n (front t) c j

  abbrev block : List ℕ
  block = block_at (front t) (c - 11)

  there : first_class + (c - 11) ≡ c
  there = omega (arith, r.low)

  in-bundle : c - 11 < n
  in-bundle = omega (arith, r.low, r.high)

  by_row : M.body ≡ (row_at b block true j).body
  unfolding method_of
  by_row =
      ap (λ (i : ℕ). (method_by b n (front t) i j).body) (sym there)
      ∙ ap (λ (N : Method). N.body) (method-at b n (front t) h.prepared.tables.most (c - 11) in-bundle j r.row)

  shape_passes : shape_by (program_now b n t) M ≡ pass
  shape_passes =
      ap (λ (i : ℕ). shape_by (program_now b n t) (method_by b n (front t) i j)) (sym there)
      ∙ judged_pass shape_by b n t h e (c - 11) j in-bundle r.row

  has_once : is_once M.body ≡ true
  has_once = one_code (program_now b n t) M shape_passes

  pub passed : Passed M
  passed = record {
    fits = fits_once M.body has_once (subst BodyFits (sym by_row) (h.prepared.tables.bodies (c - 11) j in-bundle r.row));
    params = few_params (program_now b n t) M shape_passes;
  }

  pub row_small : (c - 11 < 16) × (j < 64)
  row_small = (omega (arith, in-bundle, h.prepared.tables.most), omega (arith, r.row, h.prepared.tables.limited.methods (c - 11) in-bundle))

  -- max_locals where the code finds it
  pub locals-word : u2_at b (word block (method_rows + 6 * j + 2) + 2) ≡ (body M).max_locals
  unfolding row_at rows_word row_in member_of body_of
  locals-word = sym (ap (λ (F : Found Body). (only_body F).max_locals) by_row ∙ ap (λ (B : Body). B.max_locals) (once_is _ _ (ap is_once (sym by_row) ∙ has_once)))

-- ---- what follows
module _ (b : List ℕ) (n : ℕ) (t s g : List ℕ) (d : ℕ) (k : Frame) (h : Standing b n t s g d k) where
  pub running-passed : Passed (method_by b n (front t) k.class k.method)
  running-passed = passed b n t h.ready h.shaped k.class k.method h.running.of

  pub few_operands : k.operands ≤ 32
  few_operands = omega (arith, h.running.operands, running-passed.fits.stack)

  pub few_locals : k.locals ≤ 32
  few_locals = omega (arith, h.running.locals, running-passed.fits.locals)

-- of each call that waits
module _ (b : List ℕ) (n : ℕ) (t : List ℕ) (h : Readied b n t) (p : of_all shape_by b n t ≡ pass) where
  under_waits : (d c m : ℕ) → Stacked b n (front t) t d c m → Waits t records d
  unfolding Stacked
  under_waits zero c m z = record { operands = λ e l. absurd (omega arith); locals = λ e l. absurd (omega arith); offset = λ e l. absurd (omega arith) }
  under_waits (suc d) c m z =
      let w = frame_at t records d in
      let y : Waits t records d = under_waits d w.class w.method z.1 in
      let q = passed b n t h p w.class w.method z.0.placed.of in
      record {
        operands = λ e l. at (λ (f : Frame). f.operands ≤ 32) (omega (arith, z.0.placed.operands, q.fits.stack)) e (omega arith) (y.operands e);
        locals = λ e l. at (λ (f : Frame). f.locals ≤ 32) (omega (arith, z.0.placed.locals, q.fits.locals)) e (omega arith) (y.locals e);
        offset = λ e l. at (λ (f : Frame). f.offset < 65536) z.0.placed.offset e (omega arith) (y.offset e);
      }
    where
      at : (Q : Frame → Type 0) → Q (frame_at t records d) → (e : ℕ) → e ≤ d → (e < d → Q (frame_at t records e)) → Q (frame_at t records e)
      at Q x e l y = go (side e d)
        where
          go : (e < d) ⊎ (d ≤ e) → Q (frame_at t records e)
          go (inl v) = y v
          go (inr v) =
              let i : d ≡ e = omega arith in
              subst (λ (j : ℕ). Q (frame_at t records j)) i x

pub standing_waits : (b : List ℕ) (n : ℕ) (t s g : List ℕ) (d : ℕ) (k : Frame) → Standing b n t s g d k → Waits t records d
standing_waits b n t s g d k h = under_waits b n t h.ready h.shaped d k.class k.method h.stacked

-- ---- what keeps it
module _ (b : List ℕ) (n : ℕ) (f t u : List ℕ) where
  stacked_kept : (d c m : ℕ) → ((e : ℕ) → e < d → frame_at u records e ≡ frame_at t records e) → Stacked b n f t d c m → Stacked b n f u d c m
  unfolding Stacked
  stacked_kept zero c m h z = tt
  stacked_kept (suc e) c m h z =
      let w = frame_at t records e in
      subst (λ (v : Frame). Under b n f v c m × Stacked b n f u e v.class v.method) (sym (h e (omega arith))) (z.0, stacked_kept e w.class w.method (λ i l. h i (omega arith)) z.1)

-- the running call's window, offset and operands
pub standing-turn : (b : List ℕ) (n : ℕ) (t s g s' g' : List ℕ) (d : ℕ) (k k' : Frame) → Standing b n t s g d k → Lent t s' g' records
    → k'.class ≡ k.class → k'.method ≡ k.method → k'.locals ≡ k.locals
    → k'.operands ≤ (body (method_by b n (front t) k.class k.method)).max_stack → k'.offset < 65536 → Standing b n t s' g' d k'
standing-turn b n t s g s' g' d k k' h l ec em el o q = record {
  ready = h.ready;
  shaped = h.shaped;
  lent = l;
  depth = h.depth;
  running = record { of = rw (ec, em) h.running.of; operands = rw (ec, em) o; locals = rw (ec, em) (el ∙ h.running.locals); offset = q };
  stacked = rw (ec, em) h.stacked;
}

-- words outside the records and what stands before them
frame_kept : (t u : List ℕ) (w n : ℕ) → records + 384 ≤ w → Besides w n t u → (e : ℕ) → e < 64 → frame_at u records e ≡ frame_at t records e
unfolding frame_at
frame_kept t u w n h b e l =
    rw (
      besides_word w n t u b (records + 6 * e) (inl (omega arith)),
      besides_word w n t u b (records + 6 * e + 1) (inl (omega arith)),
      besides_word w n t u b (records + 6 * e + 2) (inl (omega arith)),
      besides_word w n t u b (records + 6 * e + 3) (inl (omega arith)),
      besides_word w n t u b (records + 6 * e + 4) (inl (omega arith)),
      besides_word w n t u b (records + 6 * e + 5) (inl (omega arith)),
    )

module _ (b : List ℕ) (n : ℕ) (t u s g : List ℕ) (d : ℕ) (k : Frame) (h : Standing b n t s g d k) where
  pub standing_kept : (w m : ℕ) → records + 384 ≤ w → Besides w m t u → Standing b n u s g d k
  standing_kept w m l z =
      let e : front u ≡ front t = besides_front w m t u z (omega arith) in
      record {
        ready = readied_kept b n t u h.ready e z.long;
        shaped = passes_kept shape_by b n t u e h.shaped;
        lent = record { words = h.lent.words; tags = h.lent.tags; records = rw z.long h.lent.records };
        depth = h.depth;
        running = subst (λ (f : List ℕ). Placed b n f k) (sym e) h.running;
        stacked = subst (λ (f : List ℕ). Stacked b n f u d k.class k.method) (sym e)
            (stacked_kept b n (front t) t u d k.class k.method (λ i y. frame_kept t u w m l z i (omega (arith, h.depth))) h.stacked);
      }

-- entering: the call w, which is k with the operands that are left, waits for `into`
module _ (b : List ℕ) (n : ℕ) (t u s g s' g' : List ℕ) (d : ℕ) (k w into : Frame) (h : Standing b n t s g d k) where
  pub standing-enter : Besides records 384 t u → Lent u s' g' records → Saved t u records d w → d < 63
      → w.class ≡ k.class → w.method ≡ k.method → w.offset ≡ k.offset → w.locals ≡ k.locals → w.operands ≤ k.operands
      → AtCall b n (front t) k → w.operands + length (method_by b n (front t) into.class into.method).results ≤ (body (method_by b n (front t) k.class k.method)).max_stack
      → Row n (front t) into.class into.method → into.operands ≡ 0 → into.offset ≡ 0 → into.locals ≡ (body (method_by b n (front t) into.class into.method)).max_locals
      → Standing b n u s' g' (d + 1) into
  unfolding Stacked
  standing-enter z l v q ec em eo el lo a r y zo zf zl =
      let e : front u ≡ front t = besides_front records 384 t u z (omega arith) in
      let i : d + 1 ≡ suc d = omega arith in
      let under : Under b n (front t) w into.class into.method = record {
        placed = record {
          of = rw (ec, em) h.running.of;
          operands = rw (ec, em) (omega (arith, lo, h.running.operands));
          locals = rw (ec, em) (el ∙ h.running.locals);
          offset = omega (arith, eo, h.running.offset);
        };
        call = record { size = rw (ec, em, eo) a.size; behind = rw eo a.behind };
        room = rw (ec, em) r;
      } in
      let below : Stacked b n (front t) u d k.class k.method = stacked_kept b n (front t) t u d k.class k.method (λ j m. v.others j (λ o. omega arith)) h.stacked in
      let both : Under b n (front t) w into.class into.method × Stacked b n (front t) u d w.class w.method = (under, rw (ec, em) below) in
      record {
        ready = readied_kept b n t u h.ready e z.long;
        shaped = passes_kept shape_by b n t u e h.shaped;
        lent = l;
        depth = omega arith;
        running = subst (λ (f : List ℕ). Placed b n f into) (sym e) (record { of = y; operands = omega (arith, zo); locals = zl; offset = omega (arith, zf) });
        stacked = rw i (subst (λ (f : List ℕ). Stacked b n f u (suc d) into.class into.method) (sym e)
            (subst (λ (x : Frame). Under b n (front t) x into.class into.method × Stacked b n (front t) u d x.class x.method) (sym v.here) both));
      }

-- giving back, with m results
unstack : (b : List ℕ) (n : ℕ) (f t : List ℕ) (d c m : ℕ) → 0 < d → Stacked b n f t d c m
    → Under b n f (frame_at t records (d - 1)) c m × Stacked b n f t (d - 1) (frame_at t records (d - 1)).class (frame_at t records (d - 1)).method
unfolding Stacked
unstack b n f t zero c m l z = absurd (omega arith)
unstack b n f t (suc e) c m l z =
    let i : suc e - 1 ≡ e = omega arith in
    rw i z

module _ (b : List ℕ) (n : ℕ) (t s g : List ℕ) (d : ℕ) (k : Frame) (h : Standing b n t s g d k) (l : 0 < d) where
  pub innermost : Under b n (front t) (frame_at t records (d - 1)) k.class k.method
  innermost = (unstack b n (front t) t d k.class k.method l h.stacked).0

  pub standing-back : (s' g' : List ℕ) (m : ℕ) (k' : Frame) → Lent t s' g' records → m ≤ length (method_by b n (front t) k.class k.method).results
      → k' ≡ resumed_at t records (d - 1) 3 m → Standing b n t s' g' (d - 1) k'
  unfolding resumed_at
  standing-back s' g' m k' y q e =
      rw e (record {
        ready = h.ready;
        shaped = h.shaped;
        lent = y;
        depth = omega (arith, h.depth);
        running = record {
          of = innermost.placed.of;
          operands = omega (arith, innermost.room, q);
          locals = innermost.placed.locals;
          offset = innermost.call.behind;
        };
        stacked = (unstack b n (front t) t d k.class k.method l h.stacked).1;
      })
