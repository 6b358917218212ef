-- Laws of judging a frame: the code's tests in another order than the definition's, with the same fault. Assumes nothing.
use Rattle.std.specs.Prelude.{◌≡◌, Result, Ok, Err, IsErrAnd, Bool, not, ◌⊎◌, leb, length, get_or}
use Rattle.std.proofs.Common.{◌∙◌, inl, inr, ℕ, suc, ◌+◌, ◌-◌, ◌<◌, ◌≤◌, refl, sym, ap, true, false, cond, List, [], ◌∷◌, arith, lt-ltb, le-ltb}
use borrow.Author.Tests.{not-true, not-false}
use Rattle.kit.specs.Bools.{not_so}
use Rattle.kit.specs.Pick.{side}
use Rattle.kit.specs.Words.{word}
use Rattle.classfiles.specs.Members.{Body}
use Rattle.texts.specs.Reading.{Res, ok, bad, and_then}
use Rattle.texts.specs.Answers.{t_stop}
use Rattle.texts.specs.declared.faults.Refusal.TheVariants.{FrameTable}
use Rattle.texts.specs.declared.faults.Got.{Got}
use Rattle.texts.specs.declared.faults.Fault as faults
use Rattle.reader.specs.Program.{Program, Method}
use Rattle.rules.specs.Opcodes.{body}
use Rattle.rules.specs.Types.{Ty, is_top}
use Rattle.rules.specs.TypeWords.{type_of}
use Rattle.rules.specs.Slots.{slot, locals_at}
use Rattle.rules.specs.Lines.{Line, is_start}
use Rattle.rules.specs.Frames.{Written, no_top, good, judged, frame_at}
use Rattle.rules.specs.Sites.{front, site_body, program_at, method_at}
use Rattle.shaping.specs.Marks.{lines_at}
use Rattle.shaping.specs.MarkLaws.{start_past}
use Rattle.shaping.specs.ScanLaws.{body_here, lines-front}
use Rattle.verifier.specs.FrameReading.{Readable}
use Rattle.verifier.specs.Besides.{besides_none, besides_front, besides_readable}
use Rattle.verifier.specs.Drawing.{stack_in, written_in, sized, Drew}
use Rattle.verifier.specs.DrawLaws.{no_ok, handed_wrong}
use Rattle.rules.specs.declared.site.Site.{Site}
use Rattle.verifier.specs.declared.frame_reader.Drawn.{Drawn}
use Rattle.verifier.specs.FrameForms.{form_by}
use Rattle.verifier.specs.Framing.{frame_by, Framing}
use Rattle.verifier.specs.Judging.{topless, standing, kept_as, Picked}
use Rattle.verifier.specs.Refusals.{then-then}

-- ---- no top among n types from w on: i of them are none
module _ (t : List ℕ) (w n i : ℕ) (R : Bool) (e : topless (locals_at t (w + i) (n - i)) ≡ R) where
  topless_more : i < n → topless (locals_at t (w + i) (n - i)) ≡ cond (is_top (slot t (w + i))) false (topless (locals_at t (w + (i + 1)) (n - (i + 1))))
  unfolding locals_at topless
  topless_more h =
      let z : n - i ≡ suc (n - (i + 1)) = omega arith in
      let y : suc (w + i) ≡ w + (i + 1) = omega arith in
      ap (λ (j : ℕ). topless (locals_at t (w + i) j)) z ∙ ap (λ (j : ℕ). cond (is_top (slot t (w + i))) false (topless (locals_at t j (n - (i + 1))))) y

  pub topless_end : n ≤ i → true ≡ R
  unfolding locals_at topless
  topless_end h =
      let z : n - i ≡ 0 = omega arith in
      sym (ap (λ (j : ℕ). topless (locals_at t (w + i) j)) z) ∙ e

  module _ (h : i < n) (v : ℕ) (ev : v ≡ word t (w + i)) (b : Bool) (eb : b ≡ is_top (type_of v)) where
    here : is_top (slot t (w + i)) ≡ b
    unfolding slot
    here = ap (λ (j : ℕ). is_top (type_of j)) (sym ev) ∙ sym eb

    pub topless_stop : b ≡ true → false ≡ R
    topless_stop y = sym (topless_more h ∙ rw (here, y)) ∙ e

    pub topless_next : b ≡ false → topless (locals_at t (w + (i + 1)) (n - (i + 1))) ≡ R
    topless_next y = sym (topless_more h ∙ rw (here, y)) ∙ e

pub topless_start : (t : List ℕ) (w n : ℕ) → topless (locals_at t (w + 0) (n - 0)) ≡ topless (locals_at t w n)
topless_start t w n =
    let y : w + 0 ≡ w = omega arith in
    let z : n - 0 ≡ n = omega arith in
    rw (y, z)

-- ---- what was read, picked
module _ (s t : List ℕ) (x : Site) (k from : ℕ) (r : Drawn) where
  refused : ((e : ℕ) → standing s t x k from (written_in t r) e ≡ bad 14 k) → Picked s t x k from r (Err (record { 0 = FrameTable; 1 = k }))
  refused h = record { is = λ e. sym (h e); wrong = (refl, refl); offset = tt }

  pub picked_past : Readable s t x → 4096 ≤ r.delta → Picked s t x k from r (Err (record { 0 = FrameTable; 1 = k }))
  unfolding standing
  picked_past d l =
      let o : is_start (lines_at s t x) (from + r.delta) ≡ false = sym (start_past (lines_at s t x) (x.end - x.start) (from + r.delta) t d.marked.marks (omega (arith, d.marked.here.bounded.size))) in
      refused (λ e. rw o)

  module _ (b : Bool) (eb : b ≡ is_start (lines_at s t x) (from + r.delta)) where
    pub picked_off : not b ≡ true → Picked s t x k from r (Err (record { 0 = FrameTable; 1 = k }))
    unfolding standing
    picked_off h = refused (λ e. rw (← eb, not-true b h))

    module _ (h : not b ≡ false) (c : Bool) (ec : c ≡ topless (stack_in t r.stack)) where
      pub picked_top : c ≡ false → Picked s t x k from r (Err (record { 0 = FrameTable; 1 = k }))
      unfolding standing
      picked_top z = refused (λ e. rw (← eb, not-false b h, ← ec, z))

      pub picked_good : Readable s t x → c ≡ true → Picked s t x k from r (Ok tt)
      unfolding standing
      picked_good d z = record {
        is = λ e. sym (rw (← eb, not-false b h, ← ec, z));
        wrong = tt;
        offset = within (side (from + r.delta) (x.end - x.start));
      }
        where
          within : (from + r.delta < x.end - x.start) ⊎ (x.end - x.start ≤ from + r.delta) → from + r.delta < 65536
          within (inl p) = omega (arith, d.marked.here.bounded.size)
          within (inr p) = absurd (not_so (start_past (lines_at s t x) (x.end - x.start) (from + r.delta) t d.marked.marks p ∙ sym eb ∙ not-false b h))

-- ---- against the definition
module _ (P : Program) (M : Method) (all : List Line) (f : List ℕ) (k : ℕ) where
  topless_is : (vs : List Ty) → no_top P M all f k vs ≡ topless vs
  unfolding no_top topless
  topless_is [] = refl
  topless_is (v ∷ vs) = ap (cond (is_top v) false) (topless_is vs)

  -- the same of w within the limits, since each fault is the same
  judged_by : (x : Site) → (body M).max_locals ≡ x.locals → (body M).max_stack ≡ x.stack → (from : ℕ) (w : Written) (e : ℕ)
      → judged P M all f k (from + w.delta) w e
      ≡ and_then (sized x k w e) (λ v a. cond (is_start all (from + v.delta)) (cond (topless v.stack) (ok v a) (bad 14 k)) (bad 14 k))
  unfolding judged good sized and_then
  judged_by x l g from w e =
      rw (l, g, topless_is w.stack) (go (is_start all (from + w.delta)) (leb (length w.locals) x.locals) (leb (length w.stack) x.stack) (topless w.stack) refl refl)
    where
      go : (a b c d : Bool) → is_start all (from + w.delta) ≡ a → topless w.stack ≡ d
          → cond (cond a (cond b (cond c d false) false) false) (ok w e) (bad 14 k)
          ≡ and_then (cond b (cond c (ok w e) (bad 14 k)) (bad 14 k)) (λ v j. cond (is_start all (from + v.delta)) (cond (topless v.stack) (ok v j) (bad 14 k)) (bad 14 k))
      go true true true d o p = rw (o, p)
      go true true false d o p = refl
      go true false c d o p = refl
      go false true true d o p = rw o
      go false true false d o p = refl
      go false false c d o p = refl

then_same : {A B : Type 0} (r : Res A) (f g : A → ℕ → Res B) → ((v : A) (e : ℕ) → f v e ≡ g v e) → and_then r f ≡ and_then r g
unfolding and_then
then_same (ok v e) f g h = h v e
then_same (bad n p) f g h = refl

module _ (s t : List ℕ) (x : Site) (f : List ℕ) (k from n q : ℕ) where
  pub framed_end : length f ≤ q → Framing s t x f k from n q (Err (record { 0 = FrameTable; 1 = k })) t
  unfolding frame_by frame_at
  framed_end h = record {
    is = rw (le-ltb q (length f) h);
    wrong = (refl, refl);
    besides = besides_none 65184 64 t;
    locals = tt;
    stack = tt;
    offset = tt;
  }

  module _ (y : Readable s t x) (h : q < length f) (b : ℕ) (eb : b ≡ get_or f q 0) where
    frame_is : frame_by s t x f k from n q ≡ and_then (and_then (form_by s t x f k b n (q + 1)) (sized x k)) (standing s t x k from)
    unfolding frame_by frame_at form_by standing site_body
    frame_is =
        let own : body (method_at s (front t) x) ≡ site_body s x = body_here s t x y.marked.here y.marked.one in
        rw (lt-ltb q (length f) h, ← eb)
        (then_same (form_by s t x f k b n (q + 1)) _ _ (judged_by (program_at s (front t) x) (method_at s (front t) x) (lines_at s t x) f k x (ap (λ (j : Body). j.max_locals) own) (ap (λ (j : Body). j.max_stack) own) from)
        ∙ sym (then-then (form_by s t x f k b n (q + 1)) (sized x k) (standing s t x k from)))

    -- what its form does not fit
    pub framed_off : (r : Result (Got Drawn) faults.Fault) (e : faults.Fault) → IsErrAnd r (λ z. z ≡ e) → (u : List ℕ) → Drew s t x k (form_by s t x f k b n (q + 1)) (Err e) u → Framing s t x f k from n q r u
    framed_off r e p u d = record {
      is = t_stop (written_in u) _ (standing s t x k from) r e p d.is ∙ sym frame_is;
      wrong = handed_wrong k r e p d.wrong;
      besides = d.besides;
      locals = no_ok _ r e p;
      stack = no_ok _ r e p;
      offset = no_ok _ r e p;
    }

    module _ (r : Got Drawn) (u : List ℕ) (d : Drew s t x k (form_by s t x f k b n (q + 1)) (Ok r) u) where
      pub framed_ready : Readable s u x
      framed_ready = besides_readable 65184 64 t u d.besides (omega arith) s x (inr (omega arith)) y

      stands : (g : Result (Unit {0}) faults.Fault) → Picked s u x k from r.val g → kept_as u r.val r.at g ≡ frame_by s t x f k from n q
      unfolding standing and_then
      stands g p =
          p.is r.at
          ∙ ap (λ (ls : List Line). cond (is_start ls (from + r.val.delta)) (cond (topless (stack_in u r.val.stack)) (ok (written_in u r.val) r.at) (bad 14 k)) (bad 14 k)) (lines-front s t u x (besides_front 65184 64 t u d.besides (omega arith)))
          ∙ ap (λ (j : Res Written). and_then j (standing s t x k from)) d.is
          ∙ sym frame_is

      pub framed : Picked s u x k from r.val (Ok tt) → Framing s t x f k from n q (Ok r) u
      framed p = record { is = stands (Ok tt) p; wrong = tt; besides = d.besides; locals = d.locals; stack = d.stack; offset = p.offset }

      pub framed_not : (e : faults.Fault) → Picked s u x k from r.val (Err e) → (j : Result (Got Drawn) faults.Fault) → IsErrAnd j (λ z. z ≡ e) → Framing s t x f k from n q j u
      framed_not e p (Ok a) w = absurd w
      framed_not e p (Err z) w = record { is = rw w (stands (Err e) p); wrong = rw w p.wrong; besides = d.besides; locals = tt; stack = tt; offset = tt }
