-- A turn of the running call's window, as a move of the run. Assumes nothing.
use Rattle.std.specs.Prelude.{Result as Answer, Ok, Err, ℕ, zero, suc, ◌+◌, ◌-◌, ◌*◌, ◌<◌, ◌≤◌, ◌≡◌, refl, List, [], ◌∷◌, ◌++◌, length, take, drop}
use Rattle.std.proofs.Common.{sym, ap, subst, ◌∙◌, arith, length-drop, length-take-le}
use Rattle.classfiles.specs.Limits.{max_heap}
use Rattle.classfiles.specs.Blocks.{block_size}
use Rattle.reader.specs.Access.{Limited}
use Rattle.reader.specs.Linked as linked
use Rattle.reader.specs.Program.{Program, layout}
use Rattle.rules.specs.Instruction.{Instr, new}
use Rattle.rules.specs.Ancestry.{Parents}
use Rattle.rules.specs.Sites.{front}
use Rattle.shaping.specs.Located.{Located}
use Rattle.verifier.specs.Besides.{besides_none}
use Rattle.shaping.specs.Phases.{program_now}
use Rattle.rules.specs.declared.site.Site.{Site}
use Rattle.plain.specs.Heap.{heap}
use Rattle.plain.specs.Machine.{Call, machine, next, Here}
use Rattle.plain.specs.Windows.{Turn, turn_of, Sized, Stands, Goes}
use Rattle.plain.specs.WindowForms.{doing}
use Rattle.plain.specs.HeapTurns.{Steps, windowed}
use Rattle.plain.specs.Calls.{window_at, call_of, waiting, waiting_kept, part-front, part_window, part_length}
use Rattle.plain.specs.CallSteps.{Lent}
use Rattle.plain.specs.declared.frames.Frame.{Frame}
use Rattle.plain.specs.declared.window.Place.{Place}
use Rattle.plain.specs.declared.window.Onward.{Onward}
use Rattle.plain.specs.declared.window.Halt.{Halt}
use Rattle.running.specs.Standing.{records, machine_of, Standing, standing-turn, few_operands, few_locals}
use Rattle.running.specs.Throws.{stack_is}
use Rattle.running.specs.Calling.{parents_of}
use Rattle.running.specs.Throwing.{Move}
use Rattle.stepping.specs.Turning.{Stays, turn_low}
use Rattle.stepping.specs.Moves.{here_of, executed, Does, does_on, halted_does, After, Lands}

-- ---- what stands before an instruction of z bytes: the run, and the running method's site
pub record Before (b t s g cells : List ℕ) (x : Site) (d : ℕ) (k : Frame) (z : ℕ) : Type 0 where
  pub standing : Standing b x.classes t s g d k
  pub located : Located b x.classes (k.class - 11) k.method x (front t)
  pub after : k.offset + z < 65536
  pub size : length cells ≤ max_heap

-- the place that its window has
abbrev pub place_of : Site → Frame → ℕ → ℕ → Place
place_of x k used z = record { operands = k.operands; most = x.stack; locals = k.locals; after = k.offset + z; used = used }

-- the call after it
abbrev pub after_of : Frame → Onward → Frame
after_of k r = record { class = k.class; method = k.method; offset = r.at; own = k.own; operands = r.operands; locals = k.locals }

abbrev pub turn_on : ℕ → Frame → Turn → Answer Move Halt
turn_on d k (Ok r) = Ok (Ok (record { depth = d; call = after_of k r; used = r.used }))
turn_on d k (Err h) = Err h

-- a slice whose window at depth d came back as m
abbrev pub put_window : List ℕ → ℕ → ℕ → List ℕ → List ℕ
put_window l p d m = take (64 * d) l ++ (m ++ drop p (drop (64 * d) l))

pub window_size : (d : ℕ) → 64 * d + 64 - 64 * d ≡ 64
window_size d = omega arith

put_same : (l : List ℕ) (p d : ℕ) → put_window l p d (take p (drop (64 * d) l)) ≡ l
put_same l p d = ap (λ (m : List ℕ). take (64 * d) l ++ m) (whole p (drop (64 * d) l)) ∙ whole (64 * d) l
  where
    whole : (n : ℕ) (m : List ℕ) → take n m ++ drop n m ≡ m
    whole zero m = refl
    whole (suc n) [] = refl
    whole (suc n) (a ∷ m) = ap (λ (v : List ℕ). a ∷ v) (whole n m)

module _ (b t s g cells : List ℕ) (x : Site) (d : ℕ) (k : Frame) (z : ℕ) (h : Before b t s g cells x d k z) where
  abbrev n : ℕ
  n = x.classes

  length_window : (l : List ℕ) → length l ≡ 4096 → length (window_at l d) ≡ 64
  length_window l e = length-take-le 64 (drop (64 * d) l) (omega (arith, length-drop (64 * d) l, e, h.standing.depth))

  pub sized : (c : Place) (used p q : ℕ) → p ≡ 64 → q ≡ 64 → c ≡ place_of x k used z → Sized c (take p (drop (64 * d) s)) (take q (drop (64 * d) g))
  sized c used p q ep eq ec = rw (ep, eq, ec) (record {
    words = length_window s h.standing.lent.words;
    tags = length_window g h.standing.lent.tags;
    operands = few_operands b n t s g d k h.standing;
    most = h.located.bounded.stack;
    locals = few_locals b n t s g d k h.standing;
  })

  module _ (K : Program → Type 0) (kp : K (program_now b n t)) (used : ℕ) (I : Instr) (low : Stays I) (w' v' cells₁ : List ℕ)
      (lw : length w' ≡ 64) (lv : length v' ≡ 64) where
    abbrev X : Here
    X = here_of t s g cells used d k z

    abbrev P : Program
    P = program_now b n t

    abbrev s₁ : List ℕ
    s₁ = put_window s 64 d w'

    abbrev g₁ : List ℕ
    g₁ = put_window g 64 d v'

    room : (l : List ℕ) → length l ≡ 4096 → 64 * d + 64 ≤ length l
    room l e = omega (arith, e, h.standing.depth)

    rs : 64 * d + 64 ≤ length s
    rs = room s h.standing.lent.words

    rg : 64 * d + 64 ≤ length g
    rg = room g h.standing.lent.tags

    lent : Lent t s₁ g₁ records
    lent = record { words = part_length s w' d lw rs ∙ h.standing.lent.words; tags = part_length g v' d lv rg ∙ h.standing.lent.tags; records = h.standing.lent.records }

    -- the run stands with whatever the window holds
    pub still : Standing b n t s₁ g₁ d k
    still = standing-turn b n t s g s₁ g₁ d k k h.standing lent refl refl refl h.standing.running.operands h.standing.running.offset

    stands : Stands P X (place_of x k used z) (window_at s d) (window_at g d) cells
    stands = record { heap = refl; locals = refl; after = refl; most = sym (stack_is b n t (record { readied = h.standing.ready; passes = h.standing.shaped }) k h.standing.running.of x h.located) }

    abbrev Turned : Turn → Type 0
    Turned r = Steps K (place_of x k used z) (window_at s d) (window_at g d) cells w' v' cells₁ r (doing (window_at s d) (window_at g d) k.operands I)

    turned : (r : Turn) → Turned r → turn_of P X k.locals w' v' cells₁ r ≡ executed b n t s g cells used d k z I
    unfolding doing
    turned r y = y.is P X kp stands

    s_kept : (h : Halt) → Turned (Err h) → s₁ ≡ s
    s_kept h y = ap (λ (m : List ℕ). put_window s 64 d m) (y.kept h refl).0 ∙ put_same s 64 d

    g_kept : (h : Halt) → Turned (Err h) → g₁ ≡ g
    g_kept h y = ap (λ (m : List ℕ). put_window g 64 d m) (y.kept h refl).1 ∙ put_same g 64 d

    pub turn_does : (s' g' cells' : List ℕ) (m : Move) (r : Turn) → Turned r → After b n t s₁ g₁ cells₁ s' g' cells' d k used (turn_on d k r) m
        → Does b n t s g cells d k used t s' g' cells' m (executed b n t s g cells used d k z I)
    turn_does s' g' cells' m (Err h) y a =
        halted_does b n t s g cells d k used z h _ (turned (Err h) y) t s₁ g₁ cells₁ s' g' cells' m refl (s_kept h y) (g_kept h y) (y.kept h refl).2 a.by
    turn_does s' g' cells' m (Ok r) y a =
        let o = turn_low P X I low h.after K (place_of x k used z) (window_at s d) (window_at g d) cells w' v' cells₁ r y kp stands in
        rw (a.by.0, a.by.1, a.by.2, a.by.3)
        (does_on b n t s g cells d k used (executed b n t s g cells used d k z I) t s₁ g₁ cells₁ (record { depth = d; call = after_of k r; used = r.used }) (same ∙ turned (Ok r) y)
        (standing-turn b n t s g s₁ g₁ d k (after_of k r) h.standing lent refl refl refl
        (omega (arith, o.0, stack_is b n t (record { readied = h.standing.ready; passes = h.standing.shaped }) k h.standing.running.of x h.located)) o.1)
        (besides_none records 384 t))
      where
        same : next (machine_of cells₁ r.used t s₁ g₁ d (after_of k r)) ≡ next (machine (heap cells₁ r.used) (call_of (after_of k r) w' v') (waiting t records s g d))
        same =
            ap (λ (W : List ℕ). next (machine (heap cells₁ r.used) (call_of (after_of k r) W (window_at g₁ d)) (waiting t records s₁ g₁ d))) (part_window s w' d lw rs)
            ∙ ap (λ (U : List ℕ). next (machine (heap cells₁ r.used) (call_of (after_of k r) w' U) (waiting t records s₁ g₁ d))) (part_window g v' d lv rg)
            ∙ ap (λ (Q : List Call). next (machine (heap cells₁ r.used) (call_of (after_of k r) w' v') Q))
            (waiting_kept t t records s₁ s g₁ g d (λ e l. refl) (part-front s w' d lw rs) (part-front g v' d lv rg))

  -- in the form that the code has: the window is p slots, of which it is known that they are 64
  abbrev pub TurnOf : (Program → Type 0) → Place → Instr → ℕ → ℕ → List ℕ → List ℕ → List ℕ → Turn → Type 0
  TurnOf K c I p q w' v' cells₁ r =
      Steps K c (take p (drop (64 * d) s)) (take q (drop (64 * d) g)) cells w' v' cells₁ r (doing (take p (drop (64 * d) s)) (take q (drop (64 * d) g)) c.operands I)

  module _ (K : Program → Type 0) (kp : K (program_now b n t)) (used : ℕ) (c : Place) (ec : c ≡ place_of x k used z) (I : Instr) (low : Stays I) (p q : ℕ) (ep : p ≡ 64) (eq : q ≡ 64)
      (w' v' cells₁ : List ℕ) (r : Turn) (y : TurnOf K c I p q w' v' cells₁ r)
      (lw : length w' ≡ length (take p (drop (64 * d) s))) (lv : length v' ≡ length (take q (drop (64 * d) g))) where
    there : TurnOf K (place_of x k used z) I 64 64 w' v' cells₁ r
    there = subst (λ (i : ℕ). TurnOf K (place_of x k used z) I i 64 w' v' cells₁ r) ep (subst (λ (i : ℕ). TurnOf K (place_of x k used z) I p i w' v' cells₁ r) eq (subst (λ (a : Place). TurnOf K a I p q w' v' cells₁ r) ec y))

    lw64 : length w' ≡ 64
    lw64 = lw ∙ ap (λ (i : ℕ). length (take i (drop (64 * d) s))) ep ∙ length_window s h.standing.lent.words

    lv64 : length v' ≡ 64
    lv64 = lv ∙ ap (λ (i : ℕ). length (take i (drop (64 * d) g))) eq ∙ length_window g h.standing.lent.tags

    pub part_lands : length cells₁ ≡ length cells → (o : Answer Move Halt) → o ≡ turn_on d k r → Lands b n t (put_window s p d w') (put_window g q d v') cells₁ d k o
    part_lands l o e = rw e (go r)
      where
        go : (r : Turn) → Lands b n t (put_window s p d w') (put_window g q d v') cells₁ d k (turn_on d k r)
        go (Ok r) = record { stands = tt; size = omega (arith, l, h.size) }
        go (Err i) = record { stands = rw (ep, eq) (still K kp used I low w' v' cells₁ lw64 lv64); size = omega (arith, l, h.size) }

    pub part_does : (s' g' cells' : List ℕ) (o : Answer Move Halt) (m : Move) → o ≡ turn_on d k r
        → After b n t (put_window s p d w') (put_window g q d v') cells₁ s' g' cells' d k used o m
        → Does b n t s g cells d k used t s' g' cells' m (executed b n t s g cells used d k z I)
    part_does s' g' cells' o m eo a =
        turn_does K kp used I low w' v' cells₁ lw64 lv64 s' g' cells' m r there
        (subst (λ (i : ℕ). After b n t (put_window s i d w') (put_window g 64 d v') cells₁ s' g' cells' d k used (turn_on d k r) m) ep
        (subst (λ (i : ℕ). After b n t (put_window s p d w') (put_window g i d v') cells₁ s' g' cells' d k used (turn_on d k r) m) eq
        (subst (λ (u : Answer Move Halt). After b n t (put_window s p d w') (put_window g q d v') cells₁ s' g' cells' d k used u m) eo a)))

  -- with the parents' numbers at hand, as every group but `new` asks
  abbrev pub Kin : Program → Type 0
  Kin P = Parents P (front t) 25728 (11 + n)

  kin_here : Kin (program_now b n t)
  kin_here = parents_of b n t h.standing.ready

  module _ (used : ℕ) (c : Place) (ec : c ≡ place_of x k used z) (I : Instr) (low : Stays I) (p q : ℕ) (ep : p ≡ 64) (eq : q ≡ 64) (w' v' : List ℕ) where
    module _ (cells₁ : List ℕ) (r : Turn) (y : TurnOf Kin c I p q w' v' cells₁ r)
        (lw : length w' ≡ length (take p (drop (64 * d) s))) (lv : length v' ≡ length (take q (drop (64 * d) g))) where
      pub kin_lands : length cells₁ ≡ length cells → (o : Answer Move Halt) → o ≡ turn_on d k r → Lands b n t (put_window s p d w') (put_window g q d v') cells₁ d k o
      kin_lands = part_lands Kin kin_here used c ec I low p q ep eq w' v' cells₁ r y lw lv

      pub kin_does : (s' g' cells' : List ℕ) (o : Answer Move Halt) (m : Move) → o ≡ turn_on d k r
          → After b n t (put_window s p d w') (put_window g q d v') cells₁ s' g' cells' d k used o m
          → Does b n t s g cells d k used t s' g' cells' m (executed b n t s g cells used d k z I)
      kin_does = part_does Kin kin_here used c ec I low p q ep eq w' v' cells₁ r y lw lv

    -- where the heap was not lent
    module _ (r : Turn) (y : Goes c (take p (drop (64 * d) s)) (take q (drop (64 * d) g)) w' v' r (doing (take p (drop (64 * d) s)) (take q (drop (64 * d) g)) c.operands I))
        (lw : length w' ≡ length (take p (drop (64 * d) s))) (lv : length v' ≡ length (take q (drop (64 * d) g))) where
      with_heap : TurnOf Kin c I p q w' v' cells r
      with_heap = windowed Kin c (take p (drop (64 * d) s)) (take q (drop (64 * d) g)) cells w' v' r (doing (take p (drop (64 * d) s)) (take q (drop (64 * d) g)) c.operands I) y

      pub goes_lands : (o : Answer Move Halt) → o ≡ turn_on d k r → Lands b n t (put_window s p d w') (put_window g q d v') cells d k o
      goes_lands = kin_lands cells r with_heap lw lv refl

      pub goes_does : (s' g' cells' : List ℕ) (o : Answer Move Halt) (m : Move) → o ≡ turn_on d k r
          → After b n t (put_window s p d w') (put_window g q d v') cells s' g' cells' d k used o m
          → Does b n t s g cells d k used t s' g' cells' m (executed b n t s g cells used d k z I)
      goes_does = kin_does cells r with_heap lw lv

  -- where the window was only read
  pub read_lands : (o : Answer Move Halt) → Lands b n t s g cells d k o
  read_lands (Ok o) = record { stands = tt; size = h.size }
  read_lands (Err i) = record { stands = h.standing; size = h.size }

  pub read_does : (used : ℕ) (c : Place) → c ≡ place_of x k used z → (I : Instr) → Stays I → (p q : ℕ) → p ≡ 64 → q ≡ 64 → (r : Turn)
      → TurnOf Kin c I p q (take p (drop (64 * d) s)) (take q (drop (64 * d) g)) cells r
      → (s' g' cells' : List ℕ) (o : Answer Move Halt) (m : Move) → o ≡ turn_on d k r → After b n t s g cells s' g' cells' d k used o m
      → Does b n t s g cells d k used t s' g' cells' m (executed b n t s g cells used d k z I)
  read_does used c ec I low p q ep eq r y s' g' cells' o m eo a =
      kin_does used c ec I low p q ep eq (take p (drop (64 * d) s)) (take q (drop (64 * d) g)) cells r y refl refl s' g' cells' o m eo
      (subst (λ (l : List ℕ). After b n t l (put_window g q d (take q (drop (64 * d) g))) cells s' g' cells' d k used o m) (sym (put_same s p d))
      (subst (λ (l : List ℕ). After b n t s l cells s' g' cells' d k used o m) (sym (put_same g q d)) a))

  -- an object of class i, which has `size` fields
  abbrev pub Sizing : ℕ → ℕ → Program → Type 0
  Sizing size i P = size ≡ length (layout P i)

  module _ (i size : ℕ) (es : size ≡ length (layout (program_now b n t) i)) (used : ℕ) (c : Place) (ec : c ≡ place_of x k used z) (p q : ℕ) (ep : p ≡ 64) (eq : q ≡ 64)
      (w' v' cells₁ : List ℕ) (r : Turn) (y : TurnOf (Sizing size i) c (new i) p q w' v' cells₁ r)
      (lw : length w' ≡ length (take p (drop (64 * d) s))) (lv : length v' ≡ length (take q (drop (64 * d) g))) where
    pub make_lands : length cells₁ ≡ length cells → (o : Answer Move Halt) → o ≡ turn_on d k r → Lands b n t (put_window s p d w') (put_window g q d v') cells₁ d k o
    make_lands = part_lands (Sizing size i) es used c ec (new i) tt p q ep eq w' v' cells₁ r y lw lv

    pub make_does : (s' g' cells' : List ℕ) (o : Answer Move Halt) (m : Move) → o ≡ turn_on d k r
        → After b n t (put_window s p d w') (put_window g q d v') cells₁ s' g' cells' d k used o m
        → Does b n t s g cells d k used t s' g' cells' m (executed b n t s g cells used d k z (new i))
    make_does = part_does (Sizing size i) es used c ec (new i) tt p q ep eq w' v' cells₁ r y lw lv

  -- what the size of an object is asked with
  pub layout-asked : (n ≤ 16) × (16 * block_size ≤ length (front t)) × linked.Parents b n (front t) × Limited n (front t)
  layout-asked =
      let T = h.standing.ready.prepared.tables in
      let l : length (front t) ≡ 187008 = length-take-le 187008 t (omega (arith, h.standing.ready.long)) in
      (T.most, omega arith, T.parents, T.limited)
