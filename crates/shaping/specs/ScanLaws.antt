-- Laws of the scan that marks a method's instructions: its turns and its ends. Assumes nothing.
use Rattle.texts.specs.declared.faults.Refusal.TheVariants.{Opcode}
use Rattle.std.specs.Prelude.{Option, Some, None, ℕ, Ok, Err, OnOk, ◌+◌, ◌-◌, ◌<◌, ◌≤◌, ◌≡◌, refl, set}
use Rattle.std.proofs.Common.{◌∙◌, arith, length-set, sym, ap, subst, List, length}
use Rattle.kit.specs.Lists.{length_part}
use Rattle.kit.specs.Claims.{fail, verdict, verdict_none}
use Rattle.texts.specs.Reading.{part}
use Rattle.classfiles.specs.Members.{Body}
use Rattle.reader.specs.Verdicts.{fault}
use Rattle.reader.specs.Program.{Program, Method}
use Rattle.rules.specs.Instruction.{Instr}
use Rattle.rules.specs.Opcodes.{body, code_of, instruction, size_at}
use Rattle.rules.specs.Lines.{Line, lines}
use Rattle.rules.specs.Shape.{form_claims}
use Rattle.rules.specs.Sites.{front, site_code, site_body, Sited, Bounded, program_at, method_at, KnowsInit, Here}
use Rattle.shaping.specs.Asks.{Says, mark_by, mark_none, mark_some}
use Rattle.shaping.specs.SiteLaws.{one_body, code_is, site_says}
use Rattle.shaping.specs.Marks.{Ruled, lines_at, Cleared, Marked, Scanned, Ready}
use Rattle.shaping.specs.LineLaws.{rest, rest_all, rest_end, form_unlisted, form_cut, form_bad, form_good}
use Rattle.shaping.specs.MarkLaws.{marked_front, Marking, marking_start, marking_turn, marking_end}
use Rattle.rules.specs.declared.site.Site.{Site}

-- where only the front is the same, the site is
pub here_front : (s t u : List ℕ) (x : Site) → front u ≡ front t → Here s t x → Here s u x
here_front s t u x e h =
    record { sited = subst (λ (f : List ℕ). Sited s f (program_at s f x) (method_at s f x) x) (sym e) h.sited; bounded = h.bounded }

pub init-front : (s t u : List ℕ) (x : Site) → front u ≡ front t → KnowsInit s (front t) x → KnowsInit s (front u) x
init-front s t u x e = subst (λ (f : List ℕ). KnowsInit s f x) (sym e)

pub lines-front : (s t u : List ℕ) (x : Site) → front u ≡ front t → lines_at s u x ≡ lines_at s t x
unfolding lines_at
lines-front s t u x e = ap (λ (f : List ℕ). lines (program_at s f x) (method_at s f x)) e

-- where all is marked, the scratch is ready
pub ready-after : (s t u : List ℕ) (x : Site) → Here s t x → x.codes ≡ 1 → 262144 ≤ length t → front u ≡ front t → length u ≡ length t
    → Marked (lines_at s t x) (x.end - x.start) u → Ready s u x
ready-after s t u x h e g f l m = record {
  here = here_front s t u x f h;
  one = e;
  long = rw l g;
  marks = subst (λ (ls : List Line). Marked ls (x.end - x.start) u) (sym (lines-front s t u x f)) m;
}

-- the code's length
pub code-length : (s : List ℕ) (x : Site) → Bounded s x → length (site_code s x) ≡ x.end - x.start
unfolding part
code-length s x b = length_part x.start (x.end - x.start) s (omega (arith, b.from, b.to))

-- before the line at o
pub record Scanning (s t : List ℕ) (x : Site) (u : List ℕ) (o : ℕ) : Type 0 where
  pub claims :
      verdict (form_claims (method_at s (front t) x) (rest (program_at s (front t) x) (method_at s (front t) x) o))
      ≡ verdict (form_claims (method_at s (front t) x) (lines_at s t x))
  pub marking : Marking (program_at s (front t) x) (method_at s (front t) x) u o
  pub front : front u ≡ front t
  pub long : length u ≡ length t

module _ (s t : List ℕ) (x : Site) (h : Here s t x) (one : x.codes ≡ 1) where
  abbrev P : Program
  P = program_at s (front t) x

  abbrev M : Method
  M = method_at s (front t) x

  pub code_here : code_of M ≡ site_code s x
  code_here = code_is s (front t) P M x h.sited one

  pub body_here : body M ≡ site_body s x
  body_here = one_body s (front t) P M x h.sited one

  locals_here : (body M).max_locals ≡ x.locals
  unfolding site_body
  locals_here = ap (λ (b : Body). b.max_locals) body_here

  pub long_here : length (code_of M) ≡ length (site_code s x)
  long_here = ap length code_here

  pub none_marked : Cleared (x.end - x.start) t t → Marking P M t 0
  none_marked z = marking_start P M t (λ j l. z.zeros j (omega (arith, code-length s x h.bounded, long_here)))

  pub all_marked : (u : List ℕ) (o : ℕ) → length (site_code s x) ≤ o → Marking P M u o → Marked (lines_at s t x) (x.end - x.start) u
  unfolding lines_at
  all_marked u o l m =
      subst (λ (k : ℕ). Marked (lines P M) k u) (long_here ∙ code-length s x h.bounded) (marking_end P M u o (omega (arith, long_here)) m)

  pub scan_start : Cleared (x.end - x.start) t t → Scanning s t x t 0
  unfolding lines_at
  scan_start z = record {
    claims = ap (λ (ls : List Line). verdict (form_claims M ls)) (sym (rest_all P M));
    marking = none_marked z;
    front = refl;
    long = refl;
  }

  pub scan_end : (u : List ℕ) (o : ℕ) → length (site_code s x) ≤ o → Scanning s t x u o → Scanned s t x (Ok tt) u
  unfolding form_claims
  scan_end u o l z =
      let g : length (code_of M) ≤ o = omega (arith, long_here) in
      record {
        is = sym (verdict_none) ∙ ap (λ (ls : List Line). verdict (form_claims M ls)) (sym (rest_end P M o g)) ∙ z.claims;
        marks = all_marked u o l z.marking;
        front = z.front;
        long = z.long;
      }

  module _ (u : List ℕ) (o n : ℕ) (z : Scanning s t x u o) (l : o < length (site_code s x)) (en : n ≡ size_at (site_code s x) o) where
    abbrev I : Instr
    I = instruction P M o

    size_here : n ≡ size_at (code_of M) o
    size_here = en ∙ ap (λ (c : List ℕ). size_at c o) (sym code_here)

    inside : o < length (code_of M)
    inside = omega (arith, long_here)

    stopped : fail (fault 11 o) ≡ verdict (form_claims M (lines_at s t x)) → Scanned s t x (Err (record { 0 = Opcode; 1 = o })) u
    stopped e = record { is = e; marks = tt; front = z.front; long = z.long }

    pub scan_unlisted : n ≡ 0 → Scanned s t x (Err (record { 0 = Opcode; 1 = o })) u
    scan_unlisted e = stopped (form_unlisted P M o n I _ z.claims inside size_here refl e)

    module _ (y : n ≡ 0 → ⊥) where
      pub scan_cut : length (site_code s x) - o < n → Scanned s t x (Err (record { 0 = Opcode; 1 = o })) u
      scan_cut e = stopped (form_cut P M o n I _ z.claims inside size_here refl y (omega (arith, long_here)))

      module _ (k : n ≤ length (site_code s x) - o) where
        fits : n ≤ length (code_of M) - o
        fits = omega (arith, long_here)

        marked_here : (v : Option ℕ) → Says (mark_by x.locals) s u x.class (site_code s x) o v → v ≡ mark_by (body M).max_locals I
        marked_here v d = site_says (mark_by x.locals) s t u x h one z.front o v d ∙ ap (λ (j : ℕ). mark_by j I) (sym locals_here)

        pub scan_bad : Says (mark_by x.locals) s u x.class (site_code s x) o None → Scanned s t x (Err (record { 0 = Opcode; 1 = o })) u
        scan_bad d = stopped (form_bad P M o n I _ z.claims inside size_here refl y fits (mark_none (body M).max_locals I (marked_here None d)))

        pub scan_turn : (v : ℕ) → Says (mark_by x.locals) s u x.class (site_code s x) o (Some v) → 256640 + o < length u → Scanning s t x (set u (256640 + o) v) (o + n)
        scan_turn v d g =
            let m = mark_some (body M).max_locals I v (marked_here (Some v) d) in
            record {
              claims = form_good P M o n I _ z.claims inside size_here refl y fits m.0;
              marking = marking_turn P M u o n v I inside size_here y refl m.1 g z.marking;
              front = marked_front u o v ∙ z.front;
              long = length-set u (256640 + o) v ∙ z.long;
            }

-- cleared first
pub mark_after : (s t m u : List ℕ) (x : Site) (r : Ruled) → Cleared (x.end - x.start) t m → Scanned s m x r u → Scanned s t x r u
mark_after s t m u x r c z =
    let q : lines_at s m x ≡ lines_at s t x = lines-front s t m x c.front in
    record {
      is = z.is ∙ ap (λ (f : List ℕ). verdict (form_claims (method_at s f x) (lines_at s m x))) c.front ∙ ap (λ (ls : List Line). verdict (form_claims (method_at s (front t) x) ls)) q;
      marks = subst (λ (ls : List Line). OnOk r (Marked ls (x.end - x.start) u)) q z.marks;
      front = z.front ∙ c.front;
      long = z.long ∙ c.long;
    }

-- what is clear stays clear
pub cleared-after : (n : ℕ) (t u : List ℕ) → Cleared n t u → Cleared n u u
cleared-after n t u c = record { zeros = c.zeros; front = refl; long = refl }

pub scan_less : (k o n : ℕ) → o < k → (n ≡ 0 → ⊥) → k - (o + n) < k - o
scan_less k o n h z = omega arith

pub scan_room : (s t : List ℕ) (x : Site) (u : List ℕ) (o : ℕ) → Here s t x → Scanning s t x u o → o < length (site_code s x) → 262144 ≤ length t → 256640 + o < length u
scan_room s t x u o h z l g = omega (arith, z.long, code-length s x h.bounded, h.bounded.size)

pub scan_ready : (s t u : List ℕ) (x : Site) → Here s t x → x.codes ≡ 1 → 262144 ≤ length t → Cleared (x.end - x.start) t u
    → Here s u x × (x.codes ≡ 1) × (262144 ≤ length u) × Cleared (x.end - x.start) u u
scan_ready s t u x h e l c = (here_front s t u x c.front h, e, rw c.long l, cleared-after (x.end - x.start) t u c)
