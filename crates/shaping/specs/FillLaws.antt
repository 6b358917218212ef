-- Laws of the marks of a method that phase C has passed, written by its opcodes: the loop's turns and its end. Assumes nothing.
use Rattle.std.specs.Prelude.{ℕ, ◌+◌, ◌-◌, ◌<◌, ◌≤◌, ◌≡◌, Bool, true, length, get_or, set}
use Rattle.std.proofs.Common.{◌∙◌, arith, le-ltb, refl, sym, ap, subst, cond, List, ◌∷◌, T, eqb, length-set}
use Rattle.kit.specs.Bools.{T_true}
use Rattle.kit.specs.Claims.{AllT, pass, verdict, pass_all, all_split}
use Rattle.reader.specs.Program.{Program, Method}
use Rattle.rules.specs.Instruction.{Instr, is_new, resolved}
use Rattle.rules.specs.Opcodes.{code_of, instruction, size_at}
use Rattle.rules.specs.Lines.{Line, line, lines}
use Rattle.rules.specs.Shape.{line_ok, body_claims, form_claims, reference_claims, shape_claims}
use Rattle.rules.specs.Sites.{front, site_code, program_at, method_at, Here}
use Rattle.shaping.specs.Asks.{new_by_lem}
use Rattle.shaping.specs.SiteLaws.{made_here}
use Rattle.shaping.specs.Marks.{lines_at, Cleared, PassesShape, Restored}
use Rattle.shaping.specs.LineLaws.{rest, rest_all, rest_last, rest_more}
use Rattle.shaping.specs.MarkLaws.{marked_front, Marking, marking_turn}
use Rattle.shaping.specs.ScanLaws.{code-length, code_here, long_here, none_marked, all_marked, ready-after, scan_ready}
use Rattle.rules.specs.declared.site.Site.{Site}

-- before the line at o: it and the ones after it pass 11, 12 and 13
pub record Filling (s t : List ℕ) (x : Site) (u : List ℕ) (o : ℕ) : Type 0 where
  pub forms : AllT (form_claims (method_at s (front t) x) (rest (program_at s (front t) x) (method_at s (front t) x) o))
  pub names : AllT (reference_claims (lines_at s t x) (rest (program_at s (front t) x) (method_at s (front t) x) o))
  pub marking : Marking (program_at s (front t) x) (method_at s (front t) x) u o
  pub front : front u ≡ front t
  pub long : length u ≡ length t

module _ (s t : List ℕ) (x : Site) (h : Here s t x) (one : x.codes ≡ 1) where
  abbrev P : Program
  P = program_at s (front t) x

  abbrev M : Method
  M = method_at s (front t) x

  abbrev all : List Line
  all = lines_at s t x

  pub fill_start : Cleared (x.end - x.start) t t → PassesShape s t x → Filling s t x t 0
  unfolding lines_at shape_claims
  fill_start z e =
      let a = all_split (body_claims M) _ (pass_all _ e) in
      let b = all_split (form_claims M (lines P M)) _ a.1 in
      let c = all_split (reference_claims (lines P M) (lines P M)) _ b.1 in
      record {
        forms = subst (λ (ls : List Line). AllT (form_claims M ls)) (rest_all P M) b.0;
        names = subst (λ (ls : List Line). AllT (reference_claims (lines P M) ls)) (rest_all P M) c.0;
        marking = none_marked s t x h one z;
        front = refl;
        long = refl;
      }

  module _ (u : List ℕ) (o : ℕ) (z : Filling s t x u o) where
    pub fill_end : x.end - x.start ≤ o → 262144 ≤ length t → Restored s t x u
    fill_end l g =
        let k : length (site_code s x) ≤ o = omega (arith, code-length s x h.bounded) in
        record { ready = ready-after s t u x h one g z.front z.long (all_marked s t x h one u o k z.marking); front = z.front }

    pub fill_room : o < x.end - x.start → 262144 ≤ length t → 256640 + o < length u
    fill_room l g = omega (arith, z.long, h.bounded.size)

    module _ (n : ℕ) (l : o < x.end - x.start) (en : n ≡ size_at (site_code s x) o) where
      abbrev I : Instr
      I = instruction P M o

      size_here : n ≡ size_at (code_of M) o
      size_here = en ∙ ap (λ (c : List ℕ). size_at c o) (sym (code_here s t x h one))

      inside : o < length (code_of M)
      inside = omega (arith, long_here s t x h one, code-length s x h.bounded)

      pub fill_listed : n ≡ 0 → ⊥
      unfolding form_claims
      fill_listed e =
          let y : size_at (code_of M) o ≡ 0 = sym size_here ∙ e in
          let a : T (line_ok M (line o I (o + size_at (code_of M) o))) = (subst (λ (ls : List Line). AllT (form_claims M ls)) (rest_last P M o inside y) z.forms).0 in
          rw (le-ltb o (o + size_at (code_of M) o) (omega arith)) at a

      more : rest P M o ≡ line o I (o + size_at (code_of M) o) ∷ rest P M (o + n)
      more =
          rest_more P M o inside (λ e. fill_listed (size_here ∙ e))
          ∙ ap (λ (k : ℕ). line o I (o + size_at (code_of M) o) ∷ rest P M (o + k)) (sym size_here)

      found : resolved I ≡ true
      unfolding reference_claims
      found = T_true _ (subst (λ (ls : List Line). AllT (reference_claims all ls)) more z.names).1.0

      module _ (op : ℕ) (eo : op ≡ get_or (site_code s x) o 0) (k : op < 256) where
        -- the instruction is a new where its opcode says so
        new_here : is_new I ≡ eqb op 0xbb
        unfolding size_at
        new_here =
            let q = made_here s (front t) P M x h.sited o one in
            let w : (size_at (site_code s x) o ≡ 0 → ⊥) = λ e. fill_listed (en ∙ e) in
            ap is_new (sym q) ∙ new_by_lem (get_or (site_code s x) o 0) (subst (λ (j : ℕ). j < 256) eo k) w P _ _ _ o (ap resolved q ∙ found)
            ∙ ap (λ (j : ℕ). eqb j 0xbb) (sym eo)

        pub fill_turn : (v : ℕ) → v ≡ cond (eqb op 0xbb) 2 1 → 262144 ≤ length t → Filling s t x (set u (256640 + o) v) (o + n)
        unfolding form_claims reference_claims
        fill_turn v e g = record {
          forms = (subst (λ (ls : List Line). AllT (form_claims M ls)) more z.forms).1;
          names = (subst (λ (ls : List Line). AllT (reference_claims all ls)) more z.names).1.1;
          marking = marking_turn P M u o n v I inside size_here fill_listed refl (e ∙ ap (λ (b : Bool). cond b 2 1) (sym new_here)) (fill_room l g) z.marking;
          front = marked_front u o v ∙ z.front;
          long = length-set u (256640 + o) v ∙ z.long;
        }

-- cleared first
pub fill_asked : (s t u : List ℕ) (x : Site) → Here s t x → x.codes ≡ 1 → 262144 ≤ length t → PassesShape s t x → Cleared (x.end - x.start) t u
    → Here s u x × (x.codes ≡ 1) × (262144 ≤ length u) × Cleared (x.end - x.start) u u × PassesShape s u x
fill_asked s t u x h e l p c =
    let r = scan_ready s t u x h e l c in
    (r.0, r.1, r.2, r.3, subst (λ (f : List ℕ). verdict (shape_claims (program_at s f x) (method_at s f x)) ≡ pass) (sym c.front) p)

pub fill_after : (s t m u : List ℕ) (x : Site) → Cleared (x.end - x.start) t m → Restored s m x u → Restored s t x u
fill_after s t m u x c z = record { ready = z.ready; front = z.front ∙ c.front }
