-- Laws of the frame table as it is read: the loop over frames, the start's list, the table whole. Assumes nothing.
use Rattle.std.specs.Prelude.{◌≡◌, Result, Ok, Err, IsErrAnd, Bool, cond, ◌⊎◌, eqb, take, get_or}
use Rattle.std.proofs.Common.{◌∙◌, inl, inr, get_or-take, ℕ, zero, suc, ◌+◌, ◌-◌, ◌*◌, ◌/◌, ◌<◌, ◌≤◌, refl, sym, ap, true, false, List, [], ◌∷◌, ◌++◌, append-nil, arith, add-one, length, replicate, take_at, eq-eqb, ne_eqb, lt-ltb, le-ltb}
use Rattle.std.proofs.Math.ListN.{get_or-eq_default}
use Rattle.kit.specs.Pick.{side}
use Rattle.kit.specs.Words.{word}
use Rattle.texts.specs.Reading.{Res, ok, bad, and_then, pre, num2_at}
use Rattle.texts.specs.Faults.{number}
use Rattle.classfiles.specs.Loops.{pre_nil, pre-pre}
use Rattle.classfiles.specs.Descriptors.{Desc}
use Rattle.classfiles.specs.Members.{none, once, twice, Body}
use Rattle.classfiles.specs.Attributes.{found_of}
use Rattle.reader.specs.TypeCodes.{params_in}
use Rattle.reader.specs.Program.{Program, Method}
use Rattle.rules.specs.Opcodes.{body}
use Rattle.rules.specs.Lines.{Line, lines}
use Rattle.rules.specs.Types.{Ty, top, tys_of}
use Rattle.rules.specs.States.{State, state, padded, parameter_tys, start_state}
use Rattle.rules.specs.Slots.{locals_at, held}
use Rattle.rules.specs.SlotLaws.{length_locals}
use Rattle.rules.specs.Frames.{Frame, frame, Written, written, state_of, frame_at, frames_from, table_at, frames_in, frames}
use Rattle.rules.specs.FrameRows.{row_held, frames_at}
use Rattle.rules.specs.Sites.{front, site_frames, site_body, Sited, program_at, method_at}
use Rattle.shaping.specs.ScanLaws.{body_here}
use Rattle.shaping.specs.Marks.{lines_at}
use Rattle.rules.specs.StepClaims.{frames_outside}
use Rattle.verifier.specs.FrameReading.{Readable}
use Rattle.verifier.specs.Besides.{Besides, besides_word, besides_locals, besides_front, besides_readable}
use Rattle.verifier.specs.Drawing.{list_in, stack_in}
use Rattle.verifier.specs.Starts.{entry_at, start_tys, start-tys, Started}
use Rattle.verifier.specs.MethodWalks.{Placeable}
use Rattle.verifier.specs.WalkHere.{sited_whole}
use Rattle.rules.specs.declared.site.Site.{Site}
use Rattle.rules.specs.declared.slots.Held.{Held}
use Rattle.rules.specs.declared.frames.Rows.{Rows}
use Rattle.verifier.specs.declared.frame_reader.Drawn.{Drawn}
use Rattle.verifier.specs.Framing.{frame_by, Framing}
use Rattle.verifier.specs.RowWrites.{RowPut, locals-append}
use Rattle.verifier.specs.FullLaws.{cut_fault}
use Rattle.verifier.specs.FrameTable.{rows_of, listing, frames_by, table_by, Listed, RowsRead, FramesRead}
use Rattle.texts.specs.declared.faults.Got.{Got}
use Rattle.texts.specs.declared.faults.Fault as faults
use Rattle.texts.specs.declared.faults.Refusal.TheVariants.{FrameTable}

-- ---- the definition's turns
module _ (P : Program) (M : Method) (L : List Line) (f : List ℕ) (k from : ℕ) (l : List Ty) (q : ℕ) where
  turn_bad : (n m p : ℕ) → frame_at P M L f k from l q ≡ bad m p → frames_from P M L f (suc n) k from l q ≡ bad m p
  unfolding frames_from and_then
  turn_bad n m p e = rw e

  turn_more : (n : ℕ) (w : Written) (e : ℕ) → frame_at P M L f k from l q ≡ ok w e
      → frames_from P M L f (suc n) k from l q ≡ pre (frame (from + w.delta) (state_of M w) ∷ []) (frames_from P M L f n (suc k) (suc (from + w.delta)) w.locals e)
  unfolding frames_from and_then
  turn_more n w e h = rw h

  turn_end : q ≡ length f → frames_from P M L f 0 k from l q ≡ ok [] q
  unfolding frames_from
  turn_end e = rw (eq-eqb q (length f) e)

  turn_left : (q ≡ length f → ⊥) → frames_from P M L f 0 k from l q ≡ bad 14 k
  unfolding frames_from
  turn_left e = rw (ne_eqb q (length f) e)

-- one row more
frames_more : (u : List ℕ) (z x k : ℕ) → frames_at u z x (suc k) ≡ frames_at u z x k ++ (frame (word u (x + 68 * k + 64)) (held u (row_held u z (x + 68 * k))) ∷ [])
unfolding frames_at
frames_more u z x zero = let e : x + 68 * 0 ≡ x = omega arith in rw e
frames_more u z x (suc k) =
    let e : x + 68 + 68 * k ≡ x + 68 * suc k = omega arith in
    ap (λ (l : List Frame). frame (word u (x + 64)) (held u (row_held u z x)) ∷ l)
    (frames_more u z (x + 68) k ∙ ap (λ (j : ℕ). frames_at u z (x + 68) k ++ (frame (word u (j + 64)) (held u (row_held u z j)) ∷ [])) e)

-- a refusal
refused-listed : (s t : List ℕ) (x : Site) (T : Res (List Frame)) (u : List ℕ) (k : ℕ) → T ≡ bad 14 k → front u ≡ front t → Readable s u x → Listed s t x T (Err (record { 0 = FrameTable; 1 = k })) u
refused-listed s t x T u k h f y = record { is = sym h; wrong = refl; front = f; ready = y; rows = tt }

stopped-listed : (s t : List ℕ) (x : Site) (T : Res (List Frame)) (u : List ℕ) (r : Result (Got Rows) faults.Fault) (e : faults.Fault) → IsErrAnd r (λ z. z ≡ e) → T ≡ bad (number e.0) e.1 → number e.0 ≡ 14 → front u ≡ front t → Readable s u x
    → Listed s t x T r u
stopped-listed s t x T u (Ok a) e p h w f y = absurd p
stopped-listed s t x T u (Err z) e p h w f y = record { is = rw p (sym h); wrong = rw p w; front = f; ready = y; rows = tt }

-- ---- the loop over frames
module _ (s t : List ℕ) (x : Site) (f : List ℕ) (n m q : ℕ) where
  abbrev P : Program
  P = program_at s (front t) x

  abbrev M : Method
  M = method_at s (front t) x

  abbrev L : List Line
  L = lines_at s t x

  pub rows_start : Readable s t x → m ≤ x.locals → RowsRead s t x f n m q t 0 0 m q
  unfolding frames_at frames_by
  rows_start y h = record {
    is = pre_nil (frames_from P M L f (n - 0) 0 0 (list_in t m) q) ∙ (let z : n - 0 ≡ n = omega arith in ap (λ (j : ℕ). frames_from P M L f j 0 0 (list_in t m) q) z);
    front = refl;
    ready = y;
    long = refl;
    few = omega arith;
    locals = h;
    near = omega arith;
    rising = λ i j a b. absurd (omega arith);
    under = λ i a. absurd (omega arith);
  }

  module _ (u : List ℕ) (k from l at : ℕ) (z : RowsRead s t x f n m q u k from l at) where
    none_left : n ≤ k → n - k ≡ 0
    none_left h = omega arith

    all_read : n ≤ k → k ≡ n
    all_read h = omega (arith, z.few)

    pub rows_left : n ≤ k → (at ≡ length f → ⊥) → Listed s t x (frames_by s t x f n m q) (Err (record { 0 = FrameTable; 1 = n })) u
    unfolding pre
    rows_left h e =
        refused-listed s t x (frames_by s t x f n m q) u n
        (sym z.is ∙ ap (λ (j : ℕ). pre (frames_at u x.locals 46752 k) (frames_from P M L f j k from (list_in u l) at)) (none_left h)
        ∙ ap (pre (frames_at u x.locals 46752 k)) (turn_left P M L f k from (list_in u l) at e) ∙ ap (λ (j : ℕ). bad 14 j) (all_read h))
        z.front z.ready

    pub rows_done : (r : Got Rows) → n ≤ 256 → n ≤ k → at ≡ length f → r ≡ listing n x.locals at → Listed s t x (frames_by s t x f n m q) (Ok r) u
    unfolding pre
    rows_done r g h e d = rw d (record {
      is =
          sym (sym z.is ∙ ap (λ (j : ℕ). pre (frames_at u x.locals 46752 k) (frames_from P M L f j k from (list_in u l) at)) (none_left h)
          ∙ ap (pre (frames_at u x.locals 46752 k)) (turn_end P M L f k from (list_in u l) at e)
          ∙ ap (λ (fs : List Frame). ok fs at) (append-nil (frames_at u x.locals 46752 k)) ∙ ap (λ (j : ℕ). ok (frames_at u x.locals 46752 j) at) (all_read h));
      wrong = tt;
      front = z.front;
      ready = z.ready;
      rows = record {
        laid = record {
          inside = omega (arith, z.ready.marked.long);
          locals = z.ready.marked.here.bounded.locals;
          rising = λ i j a b. z.rising i j a (omega arith);
        };
        room = omega arith;
        locals = refl;
      };
    })

    module _ (h : k < n) where
      one_less : n - k ≡ suc (n - (k + 1))
      one_less = omega arith

      same_frame : frame_by s u x f k from l at ≡ frame_at P M L f k from (list_in u l) at
      unfolding frame_by lines_at
      same_frame = ap (λ (g : List ℕ). frame_at (program_at s g x) (method_at s g x) (lines (program_at s g x) (method_at s g x)) f k from (list_in u l) at) z.front

      module _ (v : List ℕ) (bs : Besides 65184 64 u v) where
        front_now : front v ≡ front t
        front_now = besides_front 65184 64 u v bs (omega arith) ∙ z.front

        ready_now : Readable s v x
        ready_now = besides_readable 65184 64 u v bs (omega arith) s x (inr (omega arith)) z.ready

      pub rows_stop : (v : List ℕ) (e : faults.Fault) → Framing s u x f k from l at (Err e) v → (d : Result (Got Rows) faults.Fault) → IsErrAnd d (λ j. j ≡ e) → Listed s t x (frames_by s t x f n m q) d v
      unfolding pre
      rows_stop v e y d p =
          stopped-listed s t x (frames_by s t x f n m q) v d e p
          (sym z.is ∙ ap (λ (j : ℕ). pre (frames_at u x.locals 46752 k) (frames_from P M L f j k from (list_in u l) at)) one_less
          ∙ ap (pre (frames_at u x.locals 46752 k)) (turn_bad P M L f k from (list_in u l) at (n - (k + 1)) (number e.0) e.1 (sym same_frame ∙ sym y.is)))
          y.wrong.0 (front_now v y.besides) (ready_now v y.besides)

    -- what put_row asks
    module _ (h : k < n) (g : Got Drawn) (v : List ℕ) (y : Framing s u x f k from l at (Ok g) v) (b : n ≤ 256) where
      abbrev r : Drawn
      r = g.val

      pub row-asked :
          (r.locals ≤ x.locals) × (x.locals ≤ 32) × (r.stack ≤ 32) × (from + r.delta < 65536) × (46752 + 68 * k + 68 ≤ 65184) × (65288 ≤ length v / 4)
      row-asked =
          (y.locals, z.ready.marked.here.bounded.locals, omega (arith, y.stack, z.ready.marked.here.bounded.stack), y.offset, omega arith, omega (arith, (ready_now h v y.besides).marked.long))

      module _ (w : List ℕ) (p : RowPut v (46752 + 68 * k) x.locals r.locals r.stack (from + r.delta) w) where
        word_kept : (j : ℕ) → j < 46752 + 68 * k → word w j ≡ word u j
        word_kept j a = besides_word (46752 + 68 * k) 68 v w p.besides j (inl a) ∙ besides_word 65184 64 u v y.besides j (inl (omega arith))

        frames_kept : frames_at w x.locals 46752 k ≡ frames_at u x.locals 46752 k
        frames_kept = frames_outside (46752 + 68 * k) u w word_kept (rows_of k x.locals) z.ready.marked.here.bounded.locals (omega arith)

        list_kept : list_in w r.locals ≡ list_in v r.locals
        list_kept = besides_locals (46752 + 68 * k) 68 v w p.besides 65184 r.locals (inr (omega arith))

        abbrev W : Written
        W = written r.delta (list_in v r.locals) (stack_in v r.stack)

        locals_here : (body M).max_locals ≡ x.locals
        unfolding site_body
        locals_here =
            ap (λ (b : Body). b.max_locals) (ap (λ (g : List ℕ). body (method_at s g x)) (sym z.front) ∙ body_here s u x z.ready.marked.here z.ready.marked.one)

        row_is : frame (word w (46752 + 68 * k + 64)) (held w (row_held w x.locals (46752 + 68 * k))) ≡ frame (from + r.delta) (state_of M W)
        unfolding state_of
        row_is = rw (p.offset, p.holds, locals_here)

        abbrev A : List Frame
        A = frames_at u x.locals 46752 k

        abbrev fresh : Frame
        fresh = frame (from + r.delta) (state_of M W)

        abbrev rest : Res (List Frame)
        rest = frames_from P M L f (n - (k + 1)) (k + 1) (from + r.delta + 1) (list_in w r.locals) g.at

        abbrev rest' : Res (List Frame)
        rest' = frames_from P M L f (n - (k + 1)) (suc k) (suc (from + r.delta)) (list_in v r.locals) g.at

        pub rows_next : RowsRead s t x f n m q w (k + 1) (from + r.delta + 1) r.locals g.at
        rows_next = record {
          is =
              ap (λ (fs : List Frame). pre fs rest) rows_are ∙ ap (pre (A ++ (fresh ∷ []))) rest_is ∙ sym (pre-pre A (fresh ∷ []) rest')
              ∙ ap (pre A) (sym (turn_more P M L f k from (list_in u l) at (n - (k + 1)) W g.at (sym (same_frame h) ∙ sym y.is)))
              ∙ ap (λ (j : ℕ). pre A (frames_from P M L f j k from (list_in u l) at)) (sym (one_less h)) ∙ z.is;
          front = besides_front (46752 + 68 * k) 68 v w p.besides (omega arith) ∙ front_now h v y.besides;
          ready = besides_readable (46752 + 68 * k) 68 v w p.besides (omega arith) s x (inl (omega arith)) (ready_now h v y.besides);
          long = p.besides.long ∙ y.besides.long ∙ z.long;
          few = omega arith;
          locals = y.locals;
          near = omega (arith, y.offset);
          rising = λ i j a c. rising i j a c (side j k);
          under = λ i a. under i a (side i k);
        }
          where
            rows_are : frames_at w x.locals 46752 (k + 1) ≡ A ++ (fresh ∷ [])
            rows_are =
                ap (frames_at w x.locals 46752) (add-one k) ∙ frames_more w x.locals 46752 k
                ∙ ap (λ (fs : List Frame). fs ++ (frame (word w (46752 + 68 * k + 64)) (held w (row_held w x.locals (46752 + 68 * k))) ∷ [])) frames_kept
                ∙ ap (λ (g : Frame). A ++ (g ∷ [])) row_is

            rest_is : rest ≡ rest'
            rest_is =
                ap (λ (j : ℕ). frames_from P M L f (n - (k + 1)) j (from + r.delta + 1) (list_in w r.locals) g.at) (add-one k)
                ∙ ap (λ (j : ℕ). frames_from P M L f (n - (k + 1)) (suc k) j (list_in w r.locals) g.at) (add-one (from + r.delta))
                ∙ ap (λ (j : List Ty). frames_from P M L f (n - (k + 1)) (suc k) (suc (from + r.delta)) j g.at) list_kept

            row_kept : (i : ℕ) → i < k → word w (46752 + 68 * i + 64) ≡ word u (46752 + 68 * i + 64)
            row_kept i a = word_kept (46752 + 68 * i + 64) (omega arith)

            row_new : (i : ℕ) → i ≡ k → word w (46752 + 68 * i + 64) ≡ from + r.delta
            row_new i a = ap (λ (j : ℕ). word w (46752 + 68 * j + 64)) a ∙ p.offset

            rising : (i j : ℕ) → i < j → j < k + 1 → (j < k) ⊎ (k ≤ j) → word w (46752 + 68 * i + 64) < word w (46752 + 68 * j + 64)
            rising i j a c (inl d) = rw (row_kept i (omega arith), row_kept j d) (z.rising i j a d)
            rising i j a c (inr d) = omega (arith, row_kept i (omega arith), row_new j (omega arith), z.under i (omega arith))

            under : (i : ℕ) → i < k + 1 → (i < k) ⊎ (k ≤ i) → word w (46752 + 68 * i + 64) < from + r.delta + 1
            under i a (inl d) = omega (arith, row_kept i d, z.under i d)
            under i a (inr d) = omega (arith, row_new i (omega arith))

-- ---- the start's list
length_tys : (ds : List Desc) → length (tys_of ds) ≡ length ds
length_tys [] = refl
length_tys (d ∷ ds) = ap suc (length_tys ds)

module _ (t : List ℕ) (x : Site) (n : ℕ) (e : n ≡ length (params_in t (entry_at x))) where
  pub given-static : x.fixed ≡ true → n ≡ length (start_tys t x)
  unfolding start_tys
  given-static h = sym (rw h (length_tys (params_in t (entry_at x)) ∙ sym e))

  pub given_own : x.fixed ≡ false → n + 1 ≡ length (start_tys t x)
  unfolding start_tys
  given_own h = add-one n ∙ sym (rw h (ap suc (length_tys (params_in t (entry_at x)) ∙ sym e)))

abbrev locals_in : State → List Ty
locals_in (state g l s) = l

-- the bytes before the state at hand are the same
besides_start : (t u : List ℕ) → take 260736 u ≡ take 260736 t → length u ≡ length t → Besides 65184 (length t) t u
besides_start t u e l = record { bytes = bytes; long = l }
  where
    bytes : (j : ℕ) → (j < 4 * 65184) ⊎ (4 * (65184 + length t) ≤ j) → get_or u j 0 ≡ get_or t j 0
    bytes j (inl a) = sym (get_or-take 260736 u j 0 (omega arith)) ∙ ap (λ (z : List ℕ). get_or z j 0) e ∙ get_or-take 260736 t j 0 (omega arith)
    bytes j (inr a) = get_or-eq_default u 0 (omega arith) ∙ sym (get_or-eq_default t 0 (omega arith))

module _ (s t : List ℕ) (x : Site) (y : Readable s t x) (room : length (parameter_tys (method_at s (front t) x)) ≤ x.locals) (few : length (params_in t (64 * x.class + x.method)) ≤ 16) where
  abbrev P₁ : Program
  P₁ = program_at s (front t) x

  abbrev M₁ : Method
  M₁ = method_at s (front t) x

  sited : Sited s t P₁ M₁ x
  sited = let b = y.marked.here.bounded in sited_whole t s P₁ M₁ x b.class b.method b.classes few y.marked.here.sited

  module _ (u : List ℕ) (h : Held) (m : ℕ) (z : Started t u x h) (em : m ≡ length (start_tys t x)) (long : length u ≡ length t) where
    count_is : m ≡ length (parameter_tys M₁)
    count_is = em ∙ ap length (start-tys s t P₁ M₁ x sited y.init)

    start_list : list_in u m ≡ parameter_tys M₁
    unfolding start_state padded
    start_list =
        let n : ℕ = (body M₁).max_locals in
        let a : locals_at u h.at h.locals ≡ parameter_tys M₁ ++ replicate (n - length (parameter_tys M₁)) top = ap locals_in (z.is s P₁ M₁ sited y.init y.marked.one room) in
        let b : locals_at u 65184 x.locals ≡ locals_at u h.at h.locals = ap (λ (j : ℕ). locals_at u j x.locals) (sym z.at) ∙ ap (locals_at u h.at) (sym z.locals) in
        let e : m + (x.locals - m) ≡ x.locals = omega (arith, count_is) in
        let c : list_in u m ++ locals_at u (65184 + m) (x.locals - m) ≡ parameter_tys M₁ ++ replicate (n - length (parameter_tys M₁)) top =
        sym (locals-append u 65184 m (x.locals - m)) ∙ ap (locals_at u 65184) e ∙ b ∙ a in
        sym (take_at (list_in u m) (locals_at u (65184 + m) (x.locals - m)) m (length_locals u 65184 m)) ∙ ap (take m) c
        ∙ take_at (parameter_tys M₁) (replicate (n - length (parameter_tys M₁)) top) m (sym count_is)

    start_besides : Besides 65184 (length t) t u
    start_besides = besides_start t u z.front long

    start_front : front u ≡ front t
    start_front = besides_front 65184 (length t) t u start_besides (omega arith)

    pub frames-asked : (n : ℕ) → n ≤ 256 → Readable s u x × (n ≤ 256) × (m ≤ x.locals)
    frames-asked n l = (besides_readable 65184 (length t) t u start_besides (omega arith) s x (inr (omega arith)) y, l, omega (arith, count_is))

    pub table_read : (f : List ℕ) (j a : ℕ) → ok j a ≡ num2_at f (length f) 14 0 0 → j ≤ 256 → (d : Result (Got Rows) faults.Fault) (v : List ℕ)
        → Listed s u x (frames_by s u x f j m a) d v → Listed s t x (table_by s t x f) d v
    unfolding table_by table_at and_then frames_by lines_at
    table_read f j a e l d v k = record {
      is =
          k.is
          ∙ ap (λ (g : List ℕ). frames_from (program_at s g x) (method_at s g x) (lines (program_at s g x) (method_at s g x)) f j 0 0 (list_in u m) a) start_front
          ∙ ap (λ (ts : List Ty). frames_from P₁ M₁ (lines P₁ M₁) f j 0 0 ts a) start_list
          ∙ sym (rw (← e, le-ltb 256 j l));
      wrong = k.wrong;
      front = k.front ∙ start_front;
      ready = k.ready;
      rows = k.rows;
    }

-- ---- the table whole
module _ (s t : List ℕ) (x : Site) (y : Readable s t x) (f : List ℕ) where
  pub table-cut : (d : Result (Got Rows) faults.Fault) (e : faults.Fault) → IsErrAnd d (λ z. z ≡ e) → bad (number e.0) e.1 ≡ num2_at f (length f) 14 0 0 → Listed s t x (table_by s t x f) d t
  unfolding table_by table_at and_then
  table-cut d e p h = stopped-listed s t x (table_by s t x f) t d e p (rw (← h)) (cut_fault s t x f 0 0 (number e.0) e.1 h).0 refl y

  pub table-many : (j a : ℕ) → ok j a ≡ num2_at f (length f) 14 0 0 → 256 < j → Listed s t x (table_by s t x f) (Err (record { 0 = FrameTable; 1 = 0 })) t
  unfolding table_by table_at and_then
  table-many j a h l = refused-listed s t x (table_by s t x f) t 0 (rw (← h, lt-ltb 256 j l)) refl y

-- ---- the method's frames
module _ (s t : List ℕ) (x : Site) (y : Readable s t x) where
  abbrev P₂ : Program
  P₂ = program_at s (front t) x

  abbrev M₂ : Method
  M₂ = method_at s (front t) x

  frames_are : (body M₂).frames ≡ found_of x.tables (site_frames s x)
  unfolding site_body
  frames_are = ap (λ (b : Body). b.frames) (body_here s t x y.marked.here y.marked.one)

  no_table : (x.tables ≡ 1 → ⊥) → frames P₂ M₂ ≡ ok [] 0
  unfolding frames found_of
  no_table h = rw (frames_are, ne_eqb x.tables 1 h) (go (eqb x.tables 0))
    where
      go : (b : Bool) → frames_in P₂ M₂ (lines P₂ M₂) (cond b none (cond false (once (site_frames s x)) twice)) ≡ ok [] 0
      go true = refl
      go false = refl

  pub frames_none : (d : Got Rows) → (x.tables ≡ 1 → ⊥) → d ≡ listing 0 x.locals 0 → FramesRead s t x (Ok d) t
  unfolding frames_at
  frames_none d h e = rw e (record {
    front = refl;
    is = sym (no_table h);
    wrong = tt;
    rows = record {
      laid = record { inside = omega (arith, y.marked.long); locals = y.marked.here.bounded.locals; rising = λ i j a b. absurd (omega arith) };
      room = omega arith;
      locals = refl;
    };
    ready = y;
  })

  one_table : x.tables ≡ 1 → frames P₂ M₂ ≡ table_by s t x (site_frames s x)
  unfolding frames found_of table_by lines_at
  one_table h = rw (frames_are, h)

  pub frames_one : (d : Result (Got Rows) faults.Fault) (u : List ℕ) → x.tables ≡ 1 → Listed s t x (table_by s t x (site_frames s x)) d u → FramesRead s t x d u
  frames_one d u h k = record {
    front = k.front;
    is = k.is ∙ sym (ap (λ (g : List ℕ). frames (program_at s g x) (method_at s g x)) k.front ∙ one_table h);
    wrong = k.wrong;
    rows = k.rows;
    ready = k.ready;
  }

-- what the walk over the code asks
pub frames_placeable : (s t : List ℕ) (x : Site) (r : Got Rows) (u : List ℕ) → FramesRead s t x (Ok r) u → Placeable s u x r.val
frames_placeable s t x r u h =
    record { bounded = h.ready.marked.here.bounded; laid = h.rows.laid; rows = h.rows.room; locals = h.rows.locals; size = omega (arith, h.ready.marked.long) }
