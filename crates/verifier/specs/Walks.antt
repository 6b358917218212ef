-- The walk's loop: lines in order, the first refusal with its place. Assumes nothing.
use Rattle.std.specs.Prelude.{ℕ, ◌+◌, ◌<◌, ◌≤◌, ◌≡◌, Ok, Err, Bool, cond, length, take}
use Rattle.std.proofs.Common.{◌∙◌, arith, refl, sym, ap, true, false, List, [], ◌∷◌, ◌++◌, eqb, eq-eqb, ne_eqb, eqb-true}
use Rattle.std.proofs.Math.Option.{Option, some}
use borrow.Author.Tests.{eqb-false}
use Rattle.kit.specs.Claims.{Claim, Ruling, pass, fail, verdict, then, relabel, label, verdict-append, verdict-label, verdict_none, verdict_no, pass_then, fail_then}
use Rattle.reader.specs.Verdicts.{Fault, fault, fault_at}
use Rattle.reader.specs.Program.{Program, Method}
use Rattle.rules.specs.Opcodes.{code_of, instruction, size_at}
use Rattle.rules.specs.Lines.{Line, line}
use Rattle.rules.specs.States.{State, start_state}
use Rattle.rules.specs.Frames.{Frame}
use Rattle.rules.specs.Rule.{rule}
use Rattle.rules.specs.Walk.{frame_at, meets, merged, onward, instruction_claims, ending, walk, walk_claims}
use Rattle.rules.specs.Slots.{held}
use Rattle.rules.specs.FrameRows.{frames_of}
use Rattle.rules.specs.Sites.{site_code, Sited}
use Rattle.shaping.specs.LineLaws.{rest, rest_all, rest_end, rest_last, rest_more}
use Rattle.shaping.specs.SiteLaws.{code_is}
use Rattle.rules.specs.Loads.{current}
use Rattle.texts.specs.Faults.{number}
use Rattle.texts.specs.declared.faults.Refusal.{Refusal}
use Rattle.texts.specs.declared.faults.Refusal.TheVariants.{Flow}
use Rattle.shaping.specs.Marks.{Ruled, ruled_as}
use Rattle.verifier.specs.Callees.{Typed}
use Rattle.verifier.specs.Lineup.{line_claims, line_after, front-word, front_sited, front-typed, Walking, LineDone}
use Rattle.rules.specs.StepClaims.{frames_outside, Going}
use Rattle.rules.specs.declared.site.Site.{Site}
use Rattle.rules.specs.declared.slots.Held.{Held}
use Rattle.rules.specs.declared.frames.Rows.{Rows}
use Rattle.rules.specs.declared.types.Kin.{Kin}
use Rattle.verifier.specs.declared.walk.Turn.{Turn}

-- the answer at the code's end
pub record Ended (live : Bool) (n : ℕ) (r : Ruled) : Type 0 where
  pub is : (S : State) → ruled_as r ≡ verdict (ending n (current live S))

pub ended_live : (live : Bool) (n : ℕ) → live ≡ true → Ended live n (Err (record { 0 = Flow; 1 = n }))
ended_live live n e = record { is = λ S. rw e (sym (verdict_no (fault 17 n) false [] refl)) }

pub ended_none : (live : Bool) (n : ℕ) → live ≡ false → Ended live n (Ok tt)
ended_none live n e = record { is = λ S. rw e (sym verdict_none) }

-- where the line behind the one at o starts; the code's end where that one has no length
unfoldable pub next_at : List ℕ → ℕ → ℕ
next_at c o = cond (eqb (size_at c o) 0) (length c) (o + size_at c o)

pub next_end : (c : List ℕ) (o n : ℕ) → n ≡ size_at c o → n ≡ 0 → length c ≡ next_at c o
unfolding next_at
next_end c o n e z = sym (rw (eq-eqb (size_at c o) 0 (sym e ∙ z)))

pub next_more : (c : List ℕ) (o n : ℕ) → n ≡ size_at c o → (n ≡ 0 → ⊥) → o + n ≡ next_at c o
unfolding next_at
next_more c o n e z = ap (λ (k : ℕ). o + k) e ∙ sym (rw (ne_eqb (size_at c o) 0 (λ y. z (e ∙ y))))

pub next_far : (c : List ℕ) (o : ℕ) → o < length c → o < next_at c o
unfolding next_at
next_far c o l = go (eqb (size_at c o) 0) refl
  where
    go : (b : Bool) → eqb (size_at c o) 0 ≡ b → o < cond b (length c) (o + size_at c o)
    go true e = l
    go false e = let z = eqb-false (size_at c o) 0 e in omega arith

-- ---- turns: R is what the whole walk gives
module _ (P : Program) (M : Method) (t : List ℕ) (f : Rows) (o : ℕ) where
  pub walk_out : (c : Option State) (R : Ruling Fault) → verdict (walk P M (frames_of t f) (rest P M o) c) ≡ R → length (code_of M) ≤ o → verdict (ending (length (code_of M)) c) ≡ R
  unfolding walk
  walk_out c R i l = ap (λ (ls : List Line). verdict (walk P M (frames_of t f) ls c)) (sym (rest_end P M o l)) ∙ i

  module _ (l : o < length (code_of M)) where
    rest_next : rest P M o ≡ line o (instruction P M o) (o + size_at (code_of M) o) ∷ rest P M (next_at (code_of M) o)
    unfolding next_at
    rest_next = go (eqb (size_at (code_of M) o) 0) refl
      where
        go : (b : Bool) → eqb (size_at (code_of M) o) 0 ≡ b
            → rest P M o ≡ line o (instruction P M o) (o + size_at (code_of M) o) ∷ rest P M (cond b (length (code_of M)) (o + size_at (code_of M) o))
        go true e = rest_last P M o l (eqb-true (size_at (code_of M) o) 0 e) ∙ ap (λ (ls : List Line). line o (instruction P M o) (o + size_at (code_of M) o) ∷ ls) (sym (rest_end P M (length (code_of M)) (omega arith)))
        go false e = rest_more P M o l (eqb-false (size_at (code_of M) o) 0 e)

    -- the line at o, then the rest
    pub walk-line : (c : Option State) → verdict (walk P M (frames_of t f) (rest P M o) c)
        ≡ then (relabel (fault_at o) (verdict (line_claims P M t f o c))) (verdict (walk P M (frames_of t f) (rest P M (next_at (code_of M) o)) (line_after P M t f o c)))
    unfolding walk line_claims line_after
    walk-line c =
        ap (λ (ls : List Line). verdict (walk P M (frames_of t f) ls c)) rest_next
        ∙ verdict-append (label (fault_at o) (line_claims P M t f o c)) (walk P M (frames_of t f) (rest P M (next_at (code_of M) o)) (line_after P M t f o c))
        ∙ ap (λ (v : Ruling Fault). then v (verdict (walk P M (frames_of t f) (rest P M (next_at (code_of M) o)) (line_after P M t f o c)))) (verdict-label (fault_at o) (line_claims P M t f o c))

    module _ (c : Option State) (R : Ruling Fault) (i : verdict (walk P M (frames_of t f) (rest P M o) c) ≡ R) where
      pub walk_stop : (e : Refusal) → fail (number e) ≡ verdict (line_claims P M t f o c) → ruled_as (Err (record { 0 = e; 1 = o })) ≡ R
      unfolding relabel
      walk_stop e h = sym (fail_then _ _ (fault_at o (number e)) (ap (relabel (fault_at o)) (sym h))) ∙ sym (walk-line c) ∙ i

      pub walk_next : pass ≡ verdict (line_claims P M t f o c) → (d : Option State) → d ≡ line_after P M t f o c → verdict (walk P M (frames_of t f) (rest P M (next_at (code_of M) o)) d) ≡ R
      unfolding relabel
      walk_next h d q = rw q (sym (pass_then _ _ (ap (relabel (fault_at o)) (sym h))) ∙ sym (walk-line c) ∙ i)

    -- what a line asks and leaves is all that counts of what comes to it
    pub walk_same : (c d : Option State) → verdict (line_claims P M t f o d) ≡ verdict (line_claims P M t f o c) → line_after P M t f o d ≡ line_after P M t f o c
        → verdict (walk P M (frames_of t f) (rest P M o) d) ≡ verdict (walk P M (frames_of t f) (rest P M o) c)
    walk_same c d e q =
        walk-line d
        ∙ ap (λ (v : Ruling ℕ). then (relabel (fault_at o) v) (verdict (walk P M (frames_of t f) (rest P M (next_at (code_of M) o)) (line_after P M t f o d)))) e
        ∙ ap (λ (k : Option State). then (relabel (fault_at o) (verdict (line_claims P M t f o c))) (verdict (walk P M (frames_of t f) (rest P M (next_at (code_of M) o)) k))) q
        ∙ sym (walk-line c)

-- the start
pub walk_start : (P : Program) (M : Method) (t : List ℕ) (f : Rows) (S : State) → S ≡ start_state M
    → verdict (walk P M (frames_of t f) (rest P M 0) (current true S)) ≡ verdict (walk_claims P M (frames_of t f))
unfolding walk_claims
walk_start P M t f S e = rw e (ap (λ (ls : List Line). verdict (walk P M (frames_of t f) ls (some (start_state M)))) (sym (rest_all P M)))

-- the whole walk from a state that is the method's start
pub record Walked (s t u : List ℕ) (x : Site) (f : Rows) (h : Held) (r : Ruled) : Type 0 where
  pub is : (P : Program) (M : Method) → Sited s t P M x → Typed t P x.classes → x.codes ≡ 1 → held t h ≡ start_state M → ruled_as r ≡ verdict (walk_claims P M (frames_of t f))
  pub front : take 260736 u ≡ take 260736 t

-- the loop's state: the rest from here is the whole
pub record Midway (s t u : List ℕ) (x : Site) (f : Rows) (h : Held) (o : ℕ) (live : Bool) (g : Held) : Type 0 where
  pub is : (P : Program) (M : Method) → Sited s t P M x → Typed t P x.classes → x.codes ≡ 1 → held t h ≡ start_state M
      → verdict (walk P M (frames_of t f) (rest P M o) (current live (held u g))) ≡ verdict (walk_claims P M (frames_of t f))
  pub front : take 260736 u ≡ take 260736 t

line-frames : (P : Program) (M : Method) (t u : List ℕ) (f : Rows) (o : ℕ) (c : Option State) → frames_of u f ≡ frames_of t f
    → (line_claims P M u f o c ≡ line_claims P M t f o c) × (line_after P M u f o c ≡ line_after P M t f o c)
unfolding line_claims line_after
line-frames P M t u f o c e = (
  ap (λ (fs : List Frame). meets P c (frame_at fs o) ++ instruction_claims P M fs o (instruction P M o) (merged c (frame_at fs o))) e,
  ap (λ (fs : List Frame). onward (instruction P M o) (rule P M o (instruction P M o) (merged c (frame_at fs o))).after) e,
)

module _ (s t u : List ℕ) (x : Site) (f : Rows) (h : Held) (o : ℕ) (live : Bool) (g : Held) (m : Midway s t u x f h o live g) where
  code_long : (P : Program) (M : Method) → Sited s t P M x → x.codes ≡ 1 → length (site_code s x) ≡ length (code_of M)
  code_long P M d one = ap length (sym (code_is s t P M x d one))

  pub mid_out : (r : Ruled) (n : ℕ) → n ≡ length (site_code s x) → Ended live n r → n ≤ o → Walked s t u x f h r
  mid_out r n len e l = record {
    is = λ P M d y one st.
        let k : n ≡ length (code_of M) = len ∙ code_long P M d one in
        e.is (held u g) ∙ ap (λ (k : ℕ). verdict (ending k (current live (held u g)))) k
        ∙ walk_out P M t f o (current live (held u g)) _ (m.is P M d y one st) (omega arith);
    front = m.front;
  }

  module _ (kin : Kin) (w : Walking s u x kin f g) (b : o < length (site_code s x)) where
    module _ (P : Program) (M : Method) (dt : Sited s t P M x) (yt : Typed t P x.classes) (one : x.codes ≡ 1) where
      pub sited_now : Sited s u P M x
      sited_now = front_sited t u m.front s P M x w.bounded.class w.bounded.method w.bounded.classes dt

      typed_now : Typed u P x.classes
      typed_now = front-typed t u m.front P x.classes w.bounded.classes yt

      inside : o < length (code_of M)
      inside = let k = code_long P M dt one in omega arith

    fs : frames_of u f ≡ frames_of t f
    fs = let q = w.rows in frames_outside 65184 t u (front-word t u m.front) f w.laid.locals (omega arith)

    -- a state that asks and leaves the same at o takes the place of what came
    pub mid_same : (v : List ℕ) (q : Held) → take 260736 v ≡ take 260736 u
        → ((P : Program) (M : Method) → Sited s u P M x
        → (verdict (line_claims P M u f o (some (held v q))) ≡ verdict (line_claims P M u f o (current live (held u g)))) × (line_after P M u f o (some (held v q)) ≡ line_after P M u f o (current live (held u g))))
        → Midway s t v x f h o true q
    mid_same v q e same = record {
      is = λ P M dt yt one st.
          let y = same P M (sited_now P M dt yt one) in
          let A = line-frames P M t u f o (some (held v q)) fs in
          let B = line-frames P M t u f o (current live (held u g)) fs in
          walk_same P M t f o (inside P M dt yt one) (current live (held u g)) (some (held v q))
          (ap (λ (cs : List (Claim ℕ)). verdict cs) (sym A.0) ∙ y.0 ∙ ap (λ (cs : List (Claim ℕ)). verdict cs) B.0) (sym A.1 ∙ y.1 ∙ B.1)
          ∙ m.is P M dt yt one st;
      front = e ∙ m.front;
    }

    module _ (v : List ℕ) where
      says_at : (R : Ruling ℕ) (P : Program) (M : Method) → R ≡ verdict (line_claims P M u f o (current live (held u g))) → R ≡ verdict (line_claims P M t f o (current live (held u g)))
      says_at R P M h = h ∙ ap (λ (cs : List (Claim ℕ)). verdict cs) (line-frames P M t u f o (current live (held u g)) fs).0

      pub mid_stop : (e : Refusal) → LineDone s u v x f live g o (Err e) → Walked s t v x f h (Err (record { 0 = e; 1 = o }))
      mid_stop e d = record {
        is = λ P M dt yt one st.
            walk_stop P M t f o (inside P M dt yt one) (current live (held u g)) _ (m.is P M dt yt one st) e
            (says_at (fail (number e)) P M (d.says P M (sited_now P M dt yt one) (typed_now P M dt yt one) one));
        front = d.front ∙ m.front;
      }

      pub mid_next : (r : Turn) → LineDone s u v x f live g o (Ok r) → (q : Held) → q ≡ r.held → Midway s t v x f h (next_at (site_code s x) o) r.live q
      mid_next r d q y = record {
        is = λ P M dt yt one st.
            ap (λ (p : Held). verdict (walk P M (frames_of t f) (rest P M (next_at (site_code s x) o)) (current r.live (held v p)))) y
            ∙ ap (λ (c : List ℕ). verdict (walk P M (frames_of t f) (rest P M (next_at c o)) (current r.live (held v r.held)))) (sym (code_is s t P M x dt one))
            ∙ walk_next P M t f o (inside P M dt yt one) (current live (held u g)) _ (m.is P M dt yt one st)
            (says_at pass P M (d.says P M (sited_now P M dt yt one) (typed_now P M dt yt one) one)) (current r.live (held v r.held))
            (d.leaves P M (sited_now P M dt yt one) (typed_now P M dt yt one) one ∙ (line-frames P M t u f o (current live (held u g)) fs).1);
        front = d.front ∙ m.front;
      }

pub mid_start : (s t : List ℕ) (x : Site) (f : Rows) (h g : Held) → g ≡ h → Midway s t t x f h 0 true g
mid_start s t x f h g e = record {
  is = λ P M d y one st. walk_start P M t f (held t g) (ap (held t) e ∙ st);
  front = refl;
}

-- the state as the loop keeps it
abbrev pub place : Held → ℕ → Bool → Held
place h d b = record { at = h.at; locals = h.locals; depth = d; flag = b }

pub held_parts : (h q : Held) → Going h q → record { at = h.at; locals = h.locals; depth = q.depth; flag = q.flag } ≡ q
held_parts h q g = rw (← g.at, ← g.locals)
