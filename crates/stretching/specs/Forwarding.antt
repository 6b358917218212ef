-- The running call, as far as its instructions stay in its window, as so many steps of the run. Assumes nothing.
use Rattle.std.specs.Prelude.{◌≡◌, refl, length, get_or, take, drop}
use Rattle.std.proofs.Math.Path.{fun_ext}
use Rattle.std.proofs.Common.{subst, ◌∙◌, arith, length-drop, length-take-le, ℕ, ◌+◌, ◌-◌, ◌*◌, ◌≤◌, sym, ap, List}
use Rattle.kit.specs.Lists.{length_part}
use Rattle.classfiles.specs.Limits.{max_heap}
use Rattle.texts.specs.Reading.{part}
use Rattle.reader.specs.Program.{Program, Method, class}
use Rattle.rules.specs.Resolve.{Resolved, resolve}
use Rattle.rules.specs.Opcodes.{Row, row, row_of, body, code_of, make, instruction}
use Rattle.rules.specs.ResolvedWords.{resolved_in}
use Rattle.rules.specs.Decoding.{made, made_by}
use Rattle.rules.specs.Sites.{front, site_code, program_at, method_at, Sited}
use Rattle.rules.specs.declared.site.Site.{Site}
use Rattle.shaping.specs.SiteLaws.{code_is}
use Rattle.shaping.specs.Located.{Located}
use Rattle.shaping.specs.Phases.{program_now}
use Rattle.plain.specs.Heap.{heap}
use Rattle.plain.specs.Machine.{Call, Machine, machine}
use Rattle.plain.specs.Run.{run}
use Rattle.plain.specs.Calls.{window_at, call_of, waiting, waiting_kept, part-front, part_window, part_length}
use Rattle.plain.specs.CallSteps.{Lent}
use Rattle.plain.specs.declared.frames.Frame.{Frame}
use Rattle.running.specs.Standing.{records, machine_of, method_by, Standing, standing-turn, few_operands, few_locals}
use Rattle.running.specs.Throws.{stack_is}
use Rattle.running.specs.Calling.{parents_of}
use Rattle.stepping.specs.Windowed.{put_window}
use Rattle.stepping.specs.Fetching.{same-method, one, code_here}
use Rattle.stretching.specs.Quick.{made_at}
use Rattle.stretching.specs.Stretch.{Fit, Fetches, Low, Reached, Stretched}
use Rattle.stretching.specs.declared.quick.Ground.{Ground}
use Rattle.stretching.specs.declared.stretch.Spot.{Spot}

abbrev pub ground_of : Site → Frame → Ground
ground_of x k = record { most = x.stack; locals = k.locals; class = x.class; count = 11 + x.classes }

abbrev pub spot_of : Frame → ℕ → ℕ → Spot
spot_of k used left = record { at = k.offset; operands = k.operands; used = used; left = left }

-- the call there
abbrev pub at_spot : Frame → Spot → Frame
at_spot k q = record { class = k.class; method = k.method; offset = q.at; own = k.own; operands = q.operands; locals = k.locals }

pub record Ahead (b t s g cells : List ℕ) (x : Site) (d : ℕ) (k : Frame) : Type 0 where
  pub standing : Standing b x.classes t s g d k
  pub located : Located b x.classes (k.class - 11) k.method x (front t)
  pub size : length cells ≤ max_heap

pub record Forward (b t s g cells s' g' cells' : List ℕ) (x : Site) (d : ℕ) (k : Frame) (used left : ℕ) (q : Spot) : Type 0 where
  pub is : (m : ℕ) → run (program_now b x.classes t) left m (machine_of cells used t s g d k)
      ≡ run (program_now b x.classes t) q.left (m + (left - q.left)) (machine_of cells' q.used t s' g' d (at_spot k q))
  pub stands : Standing b x.classes t s' g' d (at_spot k q)
  pub left_most : q.left ≤ left
  pub room : q.operands ≤ 32

-- ---- the instructions are those that are made of the site's code
module _ (s t : List ℕ) (P : Program) (M : Method) (x : Site) (h : Sited s t P M x) (e : x.codes ≡ 1) where
  make_is : (o op : ℕ) (r : Row)
      → made_by P (resolve P (class P M.owner).pool) op (get_or (code_of M) (o + 1) 0) (get_or (code_of M) (o + 2) 0) o r ≡ make P M o op r
  make_is o op (row a b n u l f) = refl

  pub instruction-made : (o : ℕ) → instruction P M o ≡ made_at s t x.class (site_code s x) o P
  unfolding instruction made
  instruction-made o =
      let q : resolved_in s t x.class ≡ resolve P (class P M.owner).pool = fun_ext (λ i. h.named i) in
      sym (ap (λ (f : ℕ → Resolved). made P f (get_or (site_code s x) o 0) (get_or (site_code s x) (o + 1) 0) (get_or (site_code s x) (o + 2) 0) o) q
      ∙ ap (λ (l : List ℕ). made P (resolve P (class P M.owner).pool) (get_or l o 0) (get_or l (o + 1) 0) (get_or l (o + 2) 0) o) (sym (code_is s t P M x h e))
      ∙ make_is o (get_or (code_of M) o 0) (row_of (get_or (code_of M) o 0)))

module _ (b t s g cells : List ℕ) (x : Site) (d : ℕ) (k : Frame) (h : Ahead b t s g cells x d k) where
  abbrev P : Program
  P = program_now b x.classes t

  has_one : x.codes ≡ 1
  has_one = one b t s g d k x h.standing h.located

  most_is : x.stack ≡ (body (method_by b x.classes (front t) k.class k.method)).max_stack
  most_is = stack_is b x.classes t (record { readied = h.standing.ready; passes = h.standing.shaped }) k h.standing.running.of x h.located

  fetches : Fetches b (front t) (site_code b x) (ground_of x k) P k.class k.method
  unfolding program_at
  fetches = record {
    known = record { kin = parents_of b x.classes t h.standing.ready; flags = h.located.sited.flags };
    code_is = code_here b t s g d k x h.standing h.located;
    most = sym most_is;
    made = λ o l.
        ap (λ (N : Method). instruction P N o) (sym (same-method b t s g d k x h.standing h.located))
        ∙ instruction-made b (front t) (program_at b (front t) x) (method_at b (front t) x) x h.located.sited has_one o;
  }

  pub code_short : length (site_code b x) ≤ 4096
  unfolding part
  code_short = omega (arith, length_part x.start (x.end - x.start) b (omega (arith, h.located.bounded.from, h.located.bounded.to)), h.located.bounded.size)

  length_window : (l : List ℕ) → length l ≡ 4096 → length (window_at l d) ≡ 64
  length_window l e = length-take-le 64 (drop (64 * d) l) (omega (arith, length-drop (64 * d) l, e, h.standing.depth))

  pub ahead_fit : (p q : ℕ) → p ≡ 64 → q ≡ 64 → Fit (site_code b x) cells (take p (drop (64 * d) s)) (take q (drop (64 * d) g)) (ground_of x k) k.operands
  ahead_fit p q ep eq = rw (ep, eq) (record {
    words = length_window s h.standing.lent.words;
    tags = length_window g h.standing.lent.tags;
    operands = few_operands b x.classes t s g d k h.standing;
    most = h.located.bounded.stack;
    locals = few_locals b x.classes t s g d k h.standing;
    size = h.size;
    short = code_short;
  })

  module _ (used left : ℕ) (w' g' cells' : List ℕ) (q : Spot) (lw : length w' ≡ 64) (lg : length g' ≡ 64)
      (y : Stretched b (front t) (site_code b x) (ground_of x k) (spot_of k used left) (window_at s d) (window_at g d) cells w' g' cells' q) where
    abbrev s₁ : List ℕ
    s₁ = put_window s 64 d w'

    abbrev g₁ : List ℕ
    g₁ = put_window g 64 d g'

    room : (l : List ℕ) → length l ≡ 4096 → 64 * d + 64 ≤ length l
    room l e = omega (arith, e, h.standing.depth)

    rs : 64 * d + 64 ≤ length s
    rs = room s h.standing.lent.words

    rg : 64 * d + 64 ≤ length g
    rg = room g h.standing.lent.tags

    lent : Lent t s₁ g₁ records
    lent = record { words = part_length s w' d lw rs ∙ h.standing.lent.words; tags = part_length g g' d lg rg ∙ h.standing.lent.tags; records = h.standing.lent.records }

    low : Low (ground_of x k) (spot_of k used left)
    low = record { operands = omega (arith, most_is, h.standing.running.operands); offset = h.standing.running.offset }

    reached : Reached (ground_of x k) (spot_of k used left) q (window_at s d) (window_at g d) cells w' g' cells' P k.class k.method k.own (waiting t records s g d)
    reached = y.reached P k.class k.method k.own (waiting t records s g d) fetches low

    same : machine_of cells' q.used t s₁ g₁ d (at_spot k q) ≡ machine (heap cells' q.used) (call_of (at_spot k q) w' g') (waiting t records s g d)
    same =
        ap (λ (W : List ℕ). machine (heap cells' q.used) (call_of (at_spot k q) W (window_at g₁ d)) (waiting t records s₁ g₁ d)) (part_window s w' d lw rs)
        ∙ ap (λ (U : List ℕ). machine (heap cells' q.used) (call_of (at_spot k q) w' U) (waiting t records s₁ g₁ d)) (part_window g g' d lg rg)
        ∙ ap (λ (ks : List Call). machine (heap cells' q.used) (call_of (at_spot k q) w' g') ks)
        (waiting_kept t t records s₁ s g₁ g d (λ e l. refl) (part-front s w' d lw rs) (part-front g g' d lg rg))

    forward : Forward b t s g cells s₁ g₁ cells' x d k used left q
    forward = record {
      is = λ m. reached.is m ∙ ap (λ (K : Machine). run P q.left (m + (left - q.left)) K) (sym same);
      stands = standing-turn b x.classes t s g s₁ g₁ d k (at_spot k q) h.standing lent refl refl refl (omega (arith, most_is, reached.low.operands)) reached.low.offset;
      left_most = y.left;
      room = y.room;
    }

  -- in the form that the code has
  pub forward_by : (used left : ℕ) (p q : ℕ) → p ≡ 64 → q ≡ 64 → (w' g' cells' : List ℕ) (r : Spot)
      → length w' ≡ length (take p (drop (64 * d) s)) → length g' ≡ length (take q (drop (64 * d) g))
      → Stretched b (front t) (site_code b x) (ground_of x k) (spot_of k used left) (take p (drop (64 * d) s)) (take q (drop (64 * d) g)) cells w' g' cells' r
      → Forward b t s g cells (put_window s p d w') (put_window g q d g') cells' x d k used left r
  forward_by used left p q ep eq w' g' cells' r lw lg y =
      rw (ep, eq)
      (forward used left w' g' cells' r (lw ∙ ap (λ (i : ℕ). length (take i (drop (64 * d) s))) ep ∙ length_window s h.standing.lent.words)
      (lg ∙ ap (λ (i : ℕ). length (take i (drop (64 * d) g))) eq ∙ length_window g h.standing.lent.tags)
      (subst (λ (i : ℕ). Stretched b (front t) (site_code b x) (ground_of x k) (spot_of k used left) (take i (drop (64 * d) s)) (window_at g d) cells w' g' cells' r) ep
      (subst (λ (i : ℕ). Stretched b (front t) (site_code b x) (ground_of x k) (spot_of k used left) (take p (drop (64 * d) s)) (take i (drop (64 * d) g)) cells w' g' cells' r) eq y)))
