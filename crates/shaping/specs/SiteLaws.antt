-- Laws of sites: the method's body, and its instructions as they are decoded from any scratch with the same front. Assumes nothing.
use Rattle.std.specs.Prelude.{◌≡◌, refl, cond, ◌⊎◌, ltb, get_or}
use Rattle.std.proofs.Common.{sym, subst, ◌∙◌, inl, inr, arith, lt-ltb, le-ltb, ℕ, ◌+◌, ◌<◌, ◌≤◌, ap, List}
use Rattle.std.proofs.Math.Path.{fun_ext}
use Rattle.kit.specs.Pick.{side}
use Rattle.kit.specs.Words.{word, word-take}
use Rattle.classfiles.specs.Members.{Body}
use Rattle.classfiles.specs.Attributes.{found_of}
use Rattle.reader.specs.Program.{Program, Method, class}
use Rattle.rules.specs.Instruction.{Instr}
use Rattle.rules.specs.Resolve.{Resolved, resolve}
use Rattle.rules.specs.Opcodes.{Row, row, row_of, only_body, body, code_of, make, instruction}
use Rattle.rules.specs.InstructionWords.{instr_of}
use Rattle.rules.specs.ResolvedWords.{resolved_word, word_of, resolved_of, resolved_in, Flagged}
use Rattle.rules.specs.Decoding.{made_by, made, DecodedAt}
use Rattle.rules.specs.Sites.{front, site_code, site_body, Sited, program_at, method_at, Here}
use Rattle.shaping.specs.Asks.{Says}
use Rattle.rules.specs.declared.instruction.Instr as code
use Rattle.rules.specs.declared.site.Site.{Site}

-- a resolved word stands in the front
pub word-front : (t : List ℕ) (c i : ℕ) → word_of (front t) c i ≡ word_of t c i
unfolding word_of
word-front t c i = go (side c 16) (side i 1024)
  where
    go : (c < 16) ⊎ (16 ≤ c) → (i < 1024) ⊎ (1024 ≤ i)
        → cond (ltb c 16) (cond (ltb i 1024) (word (front t) (resolved_word c i)) 0) 0 ≡ cond (ltb c 16) (cond (ltb i 1024) (word t (resolved_word c i)) 0) 0
    go (inl p) (inl q) = rw (lt-ltb c 16 p, lt-ltb i 1024 q) (word-take 187008 t (resolved_word c i) (omega arith))
    go (inl p) (inr q) = rw (le-ltb i 1024 q)
    go (inr p) z = rw (le-ltb c 16 p)

module _ (s t : List ℕ) (P : Program) (M : Method) (x : Site) (h : Sited s t P M x) where
  pub one_body : x.codes ≡ 1 → body M ≡ site_body s x
  unfolding found_of
  one_body e = ap only_body h.body ∙ rw e

  pub code_is : x.codes ≡ 1 → code_of M ≡ site_code s x
  unfolding site_body
  code_is e = ap (λ (b : Body). b.code) (one_body e)

  make_is : (o op : ℕ) (r : Row)
      → made_by P (resolve P (class P M.owner).pool) op (get_or (code_of M) (o + 1) 0) (get_or (code_of M) (o + 2) 0) o r ≡ make P M o op r
  make_is o op (row a b n t l f) = refl

  pub made_here : (o : ℕ) → x.codes ≡ 1
      → made P (resolved_in s t x.class) (get_or (site_code s x) o 0) (get_or (site_code s x) (o + 1) 0) (get_or (site_code s x) (o + 2) 0) o ≡ instruction P M o
  unfolding instruction made
  made_here o e =
      let q : resolved_in s t x.class ≡ resolve P (class P M.owner).pool = fun_ext (λ i. h.named i) in
      ap (λ (f : ℕ → Resolved). made P f (get_or (site_code s x) o 0) (get_or (site_code s x) (o + 1) 0) (get_or (site_code s x) (o + 2) 0) o) q
      ∙ ap (λ (l : List ℕ). made P (resolve P (class P M.owner).pool) (get_or l o 0) (get_or l (o + 1) 0) (get_or l (o + 2) 0) o) (sym (code_is e))
      ∙ make_is o (get_or (code_of M) o 0) (row_of (get_or (code_of M) o 0))

  pub decoded : (o : ℕ) (r : code.Instr) → x.codes ≡ 1 → DecodedAt s t x.class (site_code s x) o r → instr_of r ≡ instruction P M o
  decoded o r e d = d.is P h.flags ∙ made_here o e

-- the scratch's front alone matters
module _ (s t u : List ℕ) (c : ℕ) (e : front u ≡ front t) where
  words_front : (i : ℕ) → word_of u c i ≡ word_of (front t) c i
  words_front i = sym (word-front u c i) ∙ ap (λ (l : List ℕ). word_of l c i) e

  names-front : resolved_in s u c ≡ resolved_in s (front t) c
  names-front = fun_ext (λ i. ap (resolved_of s) (words_front i))

  pub decoded_front : (bytes : List ℕ) (o : ℕ) (r : code.Instr) → DecodedAt s u c bytes o r → DecodedAt s (front t) c bytes o r
  decoded_front bytes o r d = record {
    is = λ P f.
        d.is P (λ i. subst (Flagged P) (sym (words_front i)) (f i))
        ∙ ap (λ (g : ℕ → Resolved). made P g (get_or bytes o 0) (get_or bytes (o + 1) 0) (get_or bytes (o + 2) 0) o) names-front;
  }

  pub says-front : {A : Type 0} (g : Instr → A) (bytes : List ℕ) (o : ℕ) (v : A) → Says g s u c bytes o v → Says g s (front t) c bytes o v
  says-front g bytes o v d = record {
    is = λ P f.
        d.is P (λ i. subst (Flagged P) (sym (words_front i)) (f i))
        ∙ ap (λ (k : ℕ → Resolved). g (made P k (get_or bytes o 0) (get_or bytes (o + 1) 0) (get_or bytes (o + 2) 0) o)) names-front;
  }

-- what is said of it, from a scratch with the same front
pub site_says : {A : Type 0} (g : Instr → A) (s t u : List ℕ) (x : Site) → Here s t x → x.codes ≡ 1 → front u ≡ front t → (o : ℕ) (v : A)
    → Says g s u x.class (site_code s x) o v → v ≡ g (instruction (program_at s (front t) x) (method_at s (front t) x) o)
site_says g s t u x h e f o v d =
    (says-front s t u x.class f g (site_code s x) o v d).is (program_at s (front t) x) h.sited.flags
    ∙ ap g (made_here s (front t) (program_at s (front t) x) (method_at s (front t) x) x h.sited o e)

-- the instruction at o, decoded from a scratch with the same front
pub site_instruction : (s t u : List ℕ) (x : Site) → Here s t x → x.codes ≡ 1 → front u ≡ front t → (o : ℕ) (r : code.Instr)
    → DecodedAt s u x.class (site_code s x) o r → instr_of r ≡ instruction (program_at s (front t) x) (method_at s (front t) x) o
site_instruction s t u x h e f o r d =
    decoded s (front t) (program_at s (front t) x) (method_at s (front t) x) x h.sited o r e (decoded_front s t u x.class f (site_code s x) o r d)
