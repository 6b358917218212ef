-- One line of the walk: what is read before the state does not change, so the tables say the same of the program throughout. Assumes nothing.
use Rattle.std.specs.Prelude.{ℕ, ◌+◌, ◌-◌, ◌*◌, ◌^◌, ◌/◌, ◌<◌, ◌≤◌, ◌≡◌, refl, Result, Ok, Err, IfOk, IsErrAnd, Bool, ◌⊎◌, ltb, length, get_or, take, drop}
use Rattle.std.proofs.Common.{subst, ◌∙◌, inl, inr, arith, length-take, get_or-take, sym, ap, cond, List, [], ◌++◌, lt-ltb, le-ltb}
use Rattle.std.proofs.Math.Option.{Option, none, some}
use Rattle.kit.specs.Pick.{side}
use Rattle.kit.specs.Words.{word, word-take}
use Rattle.kit.specs.Claims.{Claim, Ruling, pass, fail, ruled, handed, verdict, verdict-append, pass_then, fail_then}
use Rattle.texts.specs.Faults.{number}
use Rattle.texts.specs.declared.faults.Refusal.{Refusal}
use Rattle.reader.specs.BuiltIns.{first_class}
use Rattle.classfiles.specs.Members.{Body}
use Rattle.classfiles.specs.Attributes.{handlers_from}
use Rattle.reader.specs.TypeCodes.{params_in, results_in, result_at}
use Rattle.reader.specs.Program.{Program, Method}
use Rattle.rules.specs.Instruction.{Instr, falls}
use Rattle.rules.specs.Opcodes.{instruction}
use Rattle.rules.specs.States.{State}
use Rattle.rules.specs.Frames.{Frame}
use Rattle.rules.specs.Rule.{rule}
use Rattle.rules.specs.Walk.{frame_at, meets, merged, instruction_claims, onward}
use Rattle.rules.specs.InstructionWords.{instr_of}
use Rattle.rules.specs.Ancestry.{lineage, Parents, states_lineage}
use Rattle.rules.specs.Slots.{locals_at, stack_at, held, Outside, Roomy}
use Rattle.rules.specs.SlotLaws.{locals_same, stack_same, slot-word, take_less}
use Rattle.rules.specs.FrameRows.{frames_of, Laid}
use Rattle.rules.specs.ResolvedWords.{word_of, resolved_word, resolved_of, Flagged}
use Rattle.rules.specs.Sites.{site_body, site_code, Sited, Bounded}
use Rattle.shaping.specs.SiteLaws.{one_body, decoded}
use Rattle.rules.specs.Decoding.{DecodedAt}
use Rattle.rules.specs.Handlers.{catch_in, catch_is}
use Rattle.rules.specs.Known.{facts_of, instr_after}
use Rattle.rules.specs.KnownLaws.{Told, left_known}
use Rattle.rules.specs.StepClaims.{step_by, step_known, falls_of, falls_of_lem, frames_outside, laid_outside, Going}
use Rattle.rules.specs.Loads.{current}
use Rattle.verifier.specs.Callees.{methods_in, entry_of, params_of, back_of, Typed, Beside, params_same}
use Rattle.verifier.specs.Preparing.{Prepared}
use Rattle.rules.specs.declared.site.Site.{Site}
use Rattle.rules.specs.declared.slots.Held.{Held}
use Rattle.rules.specs.declared.frames.Rows.{Rows}
use Rattle.rules.specs.declared.calls.Known.{Known}
use Rattle.rules.specs.declared.types.Kin.{Kin}
use Rattle.verifier.specs.declared.walk.Turn.{Turn}
use Rattle.rules.specs.declared.instruction.Instr as code

-- where the state at hand stands
abbrev pub state_at : ℕ
state_at = 65184

-- what stands before the state is the same
abbrev pub Front : List ℕ → List ℕ → Type 0
Front t u = take 260736 u ≡ take 260736 t

module _ (t u : List ℕ) (e : take 260736 u ≡ take 260736 t) where
  pub front-word : (j : ℕ) → j < 65184 → word u j ≡ word t j
  front-word j l = sym (word-take 260736 u j (omega arith)) ∙ ap (λ (z : List ℕ). word z j) e ∙ word-take 260736 t j (omega arith)

  front_byte : (j : ℕ) → j < 260736 → get_or u j 0 ≡ get_or t j 0
  front_byte j l = sym (get_or-take 260736 u j 0 l) ∙ ap (λ (z : List ℕ). get_or z j 0) e ∙ get_or-take 260736 t j 0 l

  pub front-named : (c i : ℕ) → word_of u c i ≡ word_of t c i
  unfolding word_of
  front-named c i = go (side c 16) (side i 1024)
    where
      go : (c < 16) ⊎ (16 ≤ c) → (i < 1024) ⊎ (1024 ≤ i)
          → cond (ltb c 16) (cond (ltb i 1024) (word u (resolved_word c i)) 0) 0 ≡ cond (ltb c 16) (cond (ltb i 1024) (word t (resolved_word c i)) 0) 0
      go (inl p) (inl q) = rw (lt-ltb c 16 p, lt-ltb i 1024 q) (front-word (resolved_word c i) (omega arith))
      go (inl p) (inr q) = rw (le-ltb i 1024 q)
      go (inr p) z = rw (le-ltb c 16 p)

  front-params : (k : ℕ) → k < 1024 → params_in u k ≡ params_in t k
  front-params k l = params_same t u k l (take_less 187040 260736 t u (omega arith) e)

  front-results : (k : ℕ) → k < 1024 → results_in u k ≡ results_in t k
  unfolding results_in result_at
  front-results k l = rw (front_byte (168576 + 18 * k) (omega arith), front_byte (168576 + 18 * k + 17) (omega arith))

  pub front_parents : (P : Program) (n : ℕ) → n ≤ 27 → Parents P t 25728 n → Parents P u 25728 n
  front_parents P n l p = record { count = p.count; parent = λ c h. front-word (25728 + c) (omega arith) ∙ p.parent c h }

  pub front_sited : (s : List ℕ) (P : Program) (M : Method) (x : Site) → x.class < 16 → x.method < 64 → x.classes ≤ 16 → Sited s t P M x → Sited s u P M x
  front_sited s P M x a b n d = record {
    owner = d.owner;
    named = λ i. ap (resolved_of s) (front-named x.class i) ∙ d.named i;
    flags = λ i. subst (Flagged P) (sym (front-named x.class i)) (d.flags i);
    params = d.params ∙ sym (front-params (64 * x.class + x.method) (omega arith));
    results = d.results ∙ sym (front-results (64 * x.class + x.method) (omega arith));
    parents = front_parents P (first_class + x.classes) (omega arith) d.parents;
    static = d.static;
    body = d.body;
  }

  front-entry : (n c j : ℕ) → n ≤ 16 → entry_of u n c j ≡ entry_of t n c j
  unfolding entry_of
  front-entry n c j h = go (side c (first_class + n))
    where
      go : (c < first_class + n) ⊎ (first_class + n ≤ c)
          → cond (ltb c first_class) 1024 (cond (ltb c (first_class + n)) (cond (ltb j 64) (cond (ltb j (methods_in u (c - first_class))) (64 * (c - first_class) + j) 1024) 1024) 1024)
          ≡ cond (ltb c first_class) 1024 (cond (ltb c (first_class + n)) (cond (ltb j 64) (cond (ltb j (methods_in t (c - first_class))) (64 * (c - first_class) + j) 1024) 1024) 1024)
      go (inl l) = rw (front-word (1608 * (c - first_class) + 1028) (omega arith))
      go (inr l) = rw (le-ltb c (first_class + n) l)

  front_types : (k : ℕ) → params_of u k ≡ params_of t k
  unfolding params_of
  front_types k = go (side k 1024)
    where
      go : (k < 1024) ⊎ (1024 ≤ k) → cond (ltb k 1024) (params_in u k) [] ≡ cond (ltb k 1024) (params_in t k) []
      go (inl l) = rw (front-params k l)
      go (inr l) = rw (le-ltb k 1024 l)

  front-back : (k : ℕ) → back_of u k ≡ back_of t k
  unfolding back_of
  front-back k = go (side k 1024)
    where
      go : (k < 1024) ⊎ (1024 ≤ k) → cond (ltb k 1024) (results_in u k) [] ≡ cond (ltb k 1024) (results_in t k) []
      go (inl l) = rw (front-results k l)
      go (inr l) = rw (le-ltb k 1024 l)

  pub front-typed : (P : Program) (n : ℕ) → n ≤ 16 → Typed t P n → Typed u P n
  front-typed P n h y = record {
    params = λ c j. y.params c j ∙ sym (front_types (entry_of u n c j) ∙ ap (params_of t) (front-entry n c j h));
    results = λ c j. y.results c j ∙ sym (front-back (entry_of u n c j) ∙ ap (back_of t) (front-entry n c j h));
  }

-- an error has no value of which something is said
pub IfOk-never : {A E : Type 0} (P : A → Type 0) (e : E) (r : Result A E) → IsErrAnd r (λ j. j ≡ e) → IfOk r P
IfOk-never P e (Ok a) b = absurd b
IfOk-never P e (Err z) b = tt

-- ---- one line
-- what it asks, and what goes on
unfoldable pub line_claims : Program → Method → List ℕ → Rows → ℕ → Option State → List (Claim ℕ)
line_claims P M t f o c =
    meets P c (frame_at (frames_of t f) o) ++ instruction_claims P M (frames_of t f) o (instruction P M o) (merged c (frame_at (frames_of t f) o))

unfoldable pub line_after : Program → Method → List ℕ → Rows → ℕ → Option State → Option State
line_after P M t f o c = onward (instruction P M o) (rule P M o (instruction P M o) (merged c (frame_at (frames_of t f) o))).after

meets-lineage : (P : Program) (t : List ℕ) (x n : ℕ) → Parents P t x n → (c F : Option State) → meets (lineage t x n) c F ≡ meets P c F
meets-lineage P t x n p none none = refl
meets-lineage P t x n p none (some F) = refl
meets-lineage P t x n p (some S) none = refl
meets-lineage P t x n p (some S) (some F) = states_lineage P t x n p S F

-- where what came has met the frame, the instruction's claims are left
module _ (P : Program) (M : Method) (t : List ℕ) (f : Rows) (o : ℕ) (c : Option State) (S : State) (S-is : merged c (frame_at (frames_of t f) o) ≡ S) where
  pub claims_left : verdict (meets P c (frame_at (frames_of t f) o)) ≡ pass → verdict (instruction_claims P M (frames_of t f) o (instruction P M o) S) ≡ verdict (line_claims P M t f o c)
  unfolding line_claims
  claims_left m =
      ap (λ (T : State). verdict (instruction_claims P M (frames_of t f) o (instruction P M o) T)) (sym S-is)
      ∙ sym (verdict-append (meets P c (frame_at (frames_of t f) o)) _ ∙ pass_then _ _ m)

  pub after_left : onward (instruction P M o) (rule P M o (instruction P M o) S).after ≡ line_after P M t f o c
  unfolding line_after
  after_left = ap (λ (T : State). onward (instruction P M o) (rule P M o (instruction P M o) T).after) (sym S-is)

module _ (P : Program) (M : Method) (t : List ℕ) (f : Rows) (o : ℕ) (c : Option State) (n : ℕ) (p : Parents P t 25728 n) where
  met : (R : Ruling ℕ) → R ≡ verdict (meets (lineage t 25728 n) c (frame_at (frames_of t f) o)) → R ≡ verdict (meets P c (frame_at (frames_of t f) o))
  met R m = m ∙ ap (λ (cs : List (Claim ℕ)). verdict cs) (meets-lineage P t 25728 n p c (frame_at (frames_of t f) o))

  pub line_stop : (k : ℕ) → fail k ≡ verdict (meets (lineage t 25728 n) c (frame_at (frames_of t f) o)) → fail k ≡ verdict (line_claims P M t f o c)
  unfolding line_claims
  line_stop k m = sym (verdict-append (meets P c (frame_at (frames_of t f) o)) _ ∙ fail_then _ _ k (sym (met (fail k) m)))

  pub line_on : pass ≡ verdict (meets (lineage t 25728 n) c (frame_at (frames_of t f) o)) → verdict (instruction_claims P M (frames_of t f) o (instruction P M o) (merged c (frame_at (frames_of t f) o))) ≡ verdict (line_claims P M t f o c)
  line_on m = claims_left P M t f o c _ refl (sym (met pass m))

  -- the scratch as it was decoded from, v, and as the step found it, u
  module _ (m : pass ≡ verdict (meets (lineage t 25728 n) c (frame_at (frames_of t f) o))) (s u : List ℕ) (x : Site) (h : Held) (i : code.Instr) (k : Known) (S : held u h ≡ merged c (frame_at (frames_of t f) o))
      (du : Sited s u P M x) (one : x.codes ≡ 1) (n-is : n ≡ first_class + x.classes) (fs : frames_of u f ≡ frames_of t f) (told : Told P M (facts_of u k) (stack_at u (h.at + 32) h.depth) i)
      (d : instr_of i ≡ instruction P M o) where
    abbrev B : List (Claim ℕ)
    B = step_by (lineage u 25728 n) (catch_in u x.class (first_class + x.classes)) (frames_of u f) (handlers_from s x.entries x.table) x.stack (facts_of u k) o i (held u h)

    parents_now : Parents P u 25728 n
    parents_now = rw n-is du.parents

    pub line-says : (R : Ruling ℕ) → R ≡ verdict B → R ≡ verdict (line_claims P M t f o c)
    unfolding site_body
    line-says R e =
        e ∙ step_known P M u 25728 n parents_now (catch_in u x.class (first_class + x.classes)) (frames_of u f) (handlers_from s x.entries x.table) x.stack (facts_of u k) o i
        (catch_is s u P M x du) (sym (ap (λ (b : Body). b.table) (one_body s u P M x du one))) (sym (ap (λ (b : Body). b.max_stack) (one_body s u P M x du one))) (held u h) told
        ∙ ap (λ (g : List Frame). verdict (instruction_claims P M g o (instr_of i) (held u h))) fs
        ∙ ap (λ (j : Instr). verdict (instruction_claims P M (frames_of t f) o j (held u h))) d
        ∙ ap (λ (T : State). verdict (instruction_claims P M (frames_of t f) o (instruction P M o) T)) S
        ∙ line_on m

    pub line_after_lem : (v : List ℕ) (r : Held) (live : Bool) → held v r ≡ instr_after (facts_of u k) o i (held u h) → live ≡ falls_of i → current live (held v r) ≡ line_after P M t f o c
    unfolding line_after
    line_after_lem v r live e l =
        ap (λ (b : Bool). current b (held v r)) (l ∙ falls_of_lem i ∙ ap falls d)
        ∙ ap (λ (T : State). current (falls (instruction P M o)) T)
        (left_known P M u 25728 n parents_now (facts_of u k) o i h.flag (locals_at u h.at h.locals) (stack_at u (h.at + 32) h.depth) told (held v r) e
        ∙ ap (λ (j : Instr). (rule P M o j (held u h)).after) d
        ∙ ap (λ (T : State). (rule P M o (instruction P M o) T).after) S)

-- ---- what a line starts from and what it leaves
pub record Walking (s t : List ℕ) (x : Site) (kin : Kin) (f : Rows) (h : Held) : Type 0 where
  pub at : h.at ≡ 65184
  pub locals : f.locals ≡ h.locals
  pub depth : h.depth ≤ 32
  pub size : 65288 ≤ length t / 4
  pub laid : Laid t f
  pub rows : f.at + 68 * f.count + 68 ≤ 65184
  pub kin_at : kin.at ≡ 25728
  pub kin_count : kin.count ≡ first_class + x.classes
  pub bounded : Bounded s x

-- the state has met what stands at o: no frame, or one that is the same
pub record Entered (t : List ℕ) (f : Rows) (h : Held) (o : ℕ) : Type 0 where
  pub met : (P : Program) → verdict (meets P (some (held t h)) (frame_at (frames_of t f) o)) ≡ pass
  pub same : merged (some (held t h)) (frame_at (frames_of t f) o) ≡ held t h

pub record LineDone (s t u : List ℕ) (x : Site) (f : Rows) (live : Bool) (h : Held) (o : ℕ) (r : Result Turn Refusal) : Type 0 where
  pub says : (P : Program) (M : Method) → Sited s t P M x → Typed t P x.classes → x.codes ≡ 1 → ruled number r ≡ verdict (line_claims P M t f o (current live (held t h)))
  pub leaves : IfOk r (λ q. (P : Program) (M : Method) → Sited s t P M x → Typed t P x.classes → x.codes ≡ 1
      → current q.live (held u q.held) ≡ line_after P M t f o (current live (held t h)))
  pub going : IfOk r (λ q. Going h q.held)
  pub front : take 260736 u ≡ take 260736 t

module _ (s t : List ℕ) (x : Site) (kin : Kin) (f : Rows) (h : Held) (w : Walking s t x kin f h) where
  pub walking_roomy : Roomy t h
  walking_roomy =
      let a = w.at in let b = w.size in let c = w.locals in let d = w.laid.locals in let e = w.depth in
      record { inside = omega arith; locals = omega arith; depth = omega arith }

  pub walking_on : (u : List ℕ) (r : Held) → Going h r → take 260736 u ≡ take 260736 t → length u ≡ length t → Walking s u x kin f r
  walking_on u r g e l = record {
    at = g.at ∙ w.at;
    locals = w.locals ∙ sym g.locals;
    depth = g.depth;
    size = let b = w.size in omega arith;
    laid = let b = w.rows in laid_outside 65184 t u f (front-word t u e) (omega arith) l w.laid;
    rows = w.rows;
    kin_at = w.kin_at;
    kin_count = w.kin_count;
    bounded = w.bounded;
  }

pub outside_front : (t u : List ℕ) (a : ℕ) → a ≡ 65184 → Outside a t u → take 260736 u ≡ take 260736 t
outside_front t u a e h = take_less 260736 (4 * a) t u (omega arith) h.front

pub beside_front : (t u : List ℕ) → Beside 65256 t u → take 260736 u ≡ take 260736 t
beside_front t u h = take_less 260736 261024 t u (omega arith) h.front

module _ (s t u : List ℕ) (x : Site) (kin : Kin) (f : Rows) (live : Bool) (h : Held) (o : ℕ) (w : Walking s t x kin f h) (out : Outside h.at t u) where
  pub met_at : (R : Ruling ℕ) → R ≡ verdict (meets (lineage t kin.at kin.count) (current live (held t h)) (frame_at (frames_of t f) o))
      → R ≡ verdict (meets (lineage t 25728 (first_class + x.classes)) (current live (held t h)) (frame_at (frames_of t f) o))
  met_at R m =
      m ∙ ap (λ (b : ℕ). verdict (meets (lineage t b kin.count) (current live (held t h)) (frame_at (frames_of t f) o))) w.kin_at
      ∙ ap (λ (b : ℕ). verdict (meets (lineage t 25728 b) (current live (held t h)) (frame_at (frames_of t f) o))) w.kin_count

  pub line_refused : (e : Refusal) → fail (number e) ≡ verdict (meets (lineage t kin.at kin.count) (current live (held t h)) (frame_at (frames_of t f) o)) → LineDone s t u x f live h o (Err e)
  line_refused e m = record {
    says = λ P M d y one. line_stop P M t f o (current live (held t h)) (first_class + x.classes) d.parents (number e) (met_at (fail (number e)) m);
    leaves = tt;
    going = tt;
    front = outside_front t u h.at w.at out;
  }

  module _ (g : Held) (m : pass ≡ verdict (meets (lineage t kin.at kin.count) (current live (held t h)) (frame_at (frames_of t f) o)))
      (l : held u g ≡ merged (current live (held t h)) (frame_at (frames_of t f) o)) (go : Going h g)
      (v y : List ℕ) (i : code.Instr) (k : Known) (d : DecodedAt s u x.class (site_code s x) o i) (p : Prepared s u v x g i k) (out2 : Outside g.at v y) where
    abbrev asked : List (Claim ℕ)
    asked = step_by (lineage v kin.at kin.count) (catch_in v x.class (first_class + x.classes)) (frames_of v f) (handlers_from s x.entries x.table) x.stack (facts_of v k) o i (held v g)

    f1 : take 260736 u ≡ take 260736 t
    f1 = outside_front t u h.at w.at out

    f2 : take 260736 v ≡ take 260736 t
    f2 = beside_front u v p.beside ∙ f1

    f3 : take 260736 y ≡ take 260736 t
    f3 = outside_front v y g.at (go.at ∙ w.at) out2 ∙ f2

    frames_now : frames_of v f ≡ frames_of t f
    frames_now = let r = w.rows in frames_outside 65184 t v (front-word t v f2) f w.laid.locals (omega arith)

    held_now : held v g ≡ held u g
    held_now =
        let r : g.at ≡ 65184 = go.at ∙ w.at in
        let j : g.locals ≤ 32 = let c = go.locals in let e = w.locals in let m = w.laid.locals in omega arith in
        let e : g.depth ≤ 32 = go.depth in
        let A : locals_at v g.at g.locals ≡ locals_at u g.at g.locals =
        locals_same u v g.at g.locals (λ i a b. slot-word u v i (p.beside.kept i (inl (omega arith)))) in
        let B : stack_at v (g.at + 32) g.depth ≡ stack_at u (g.at + 32) g.depth =
        stack_same u v (g.at + 32) g.depth (λ i a b. slot-word u v i (p.beside.kept i (inl (omega arith)))) in
        cc

    step-at : (R : Ruling ℕ) → R ≡ verdict asked → R ≡ verdict (step_by (lineage v 25728 (first_class + x.classes)) (catch_in v x.class (first_class + x.classes)) (frames_of v f) (handlers_from s x.entries x.table) x.stack (facts_of v k) o i (held v g))
    step-at R n =
        n ∙ ap (λ (c : ℕ). verdict (step_by (lineage v c kin.count) (catch_in v x.class (first_class + x.classes)) (frames_of v f) (handlers_from s x.entries x.table) x.stack (facts_of v k) o i (held v g))) w.kin_at
        ∙ ap (λ (c : ℕ). verdict (step_by (lineage v 25728 c) (catch_in v x.class (first_class + x.classes)) (frames_of v f) (handlers_from s x.entries x.table) x.stack (facts_of v k) o i (held v g))) w.kin_count

    module _ (P : Program) (M : Method) (dt : Sited s t P M x) (yt : Typed t P x.classes) (one : x.codes ≡ 1) where
      sited_as : (r : List ℕ) → take 260736 r ≡ take 260736 t → Sited s r P M x
      sited_as r e = front_sited t r e s P M x w.bounded.class w.bounded.method w.bounded.classes dt

      told_now : Told P M (facts_of v k) (stack_at v (g.at + 32) g.depth) i
      told_now = p.told P M (sited_as u f1) (front-typed t u f1 P x.classes w.bounded.classes yt) one

      decoded_now : instr_of i ≡ instruction P M o
      decoded_now = decoded s u P M x (sited_as u f1) o i one d

      pub done_says : (R : Ruling ℕ) → R ≡ verdict asked → R ≡ verdict (line_claims P M t f o (current live (held t h)))
      done_says R n =
          line-says P M t f o (current live (held t h)) (first_class + x.classes) dt.parents (met_at pass m) s v x g i k (held_now ∙ l) (sited_as v f2) one refl frames_now told_now decoded_now R (step-at R n)

      pub done_after : (q : Held) → held y q ≡ instr_after (facts_of v k) o i (held v g) → (c : Bool) → c ≡ falls_of i → current c (held y q) ≡ line_after P M t f o (current live (held t h))
      done_after q a c e =
          line_after_lem P M t f o (current live (held t h)) (first_class + x.classes) dt.parents (met_at pass m) s v x g i k (held_now ∙ l) (sited_as v f2) one refl frames_now told_now decoded_now y q c a e

    -- the step is refused
    pub line_off : (e : Refusal) → fail (number e) ≡ verdict asked → (r : Result Turn Refusal) → IsErrAnd r (λ j. j ≡ e) → LineDone s t y x f live h o r
    line_off e n r b = record {
      says = λ P M dt yt one. handed number r e b ∙ done_says P M dt yt one (fail (number e)) n;
      leaves = IfOk-never _ e r b;
      going = IfOk-never _ e r b;
      front = f3;
    }

    pub line_done : (q : Held) → pass ≡ verdict asked → held y q ≡ instr_after (facts_of v k) o i (held v g) → Going g q → (c : Bool) → c ≡ falls_of i
        → LineDone s t y x f live h o (Ok (record { live = c; held = q }))
    line_done q n a go2 c e = record {
      says = λ P M dt yt one. done_says P M dt yt one pass n;
      leaves = λ P M dt yt one. done_after P M dt yt one q a c e;
      going = record { at = go2.at ∙ go.at; locals = go2.locals ∙ go.locals; depth = go2.depth };
      front = f3;
    }

-- ---- what the steps of a line ask
module _ (s t : List ℕ) (x : Site) (kin : Kin) (f : Rows) (h : Held) (w : Walking s t x kin f h) where
  -- behind the state stand the parameters
  pub walking_known : (u v : List ℕ) (g : Held) → Going h g → Outside h.at t u → Beside 65256 u v → length v ≡ length t → Walking s v x kin f g
  walking_known u v g go out b l = walking_on s t x kin f h w v g go (beside_front u v b ∙ outside_front t u h.at w.at out) l

  pub walking_at : (u : List ℕ) (d : ℕ) (b : Bool) (g : Held) → g ≡ record { at = h.at; locals = h.locals; depth = d; flag = b } → d ≤ 32 → take 260736 u ≡ take 260736 t → length u ≡ length t
      → Walking s u x kin f g
  walking_at u d b g q m e l =
      rw q (walking_on s t x kin f h w u (record { at = h.at; locals = h.locals; depth = d; flag = b }) (record { at = refl; locals = refl; depth = m }) e l)

  pub step-ready : (k : Known) → k.args.at ≡ 65256 → k.args.count < 32 → length s * 1 < 2 ^ 63
      → Roomy t h × (h.depth ≤ 32) × (k.args.at + k.args.count ≤ length t / 4) × Laid t f × (kin.at + kin.count ≤ h.at) × (f.at + 68 * f.count ≤ h.at)
      × (x.classes ≤ 16) × (x.stack ≤ 32) × (x.table ≤ 2 ^ 63) × (x.entries ≤ 32)
  step-ready k a c m =
      let p = w.at in let q = w.size in let r = w.rows in let i = w.kin_at in let j = w.kin_count in let n = w.bounded.classes in let b = w.bounded.table in
      (walking_roomy s t x kin f h w, w.depth, omega arith, w.laid, omega arith, omega arith, n, w.bounded.stack, omega arith, w.bounded.entries)

pub code_short : (s : List ℕ) (x : Site) → Bounded s x → length (take (x.end - x.start) (drop x.start s)) ≤ 4096
code_short s x b = let z = b.size in omega (arith, length-take (x.end - x.start) (drop x.start s))
