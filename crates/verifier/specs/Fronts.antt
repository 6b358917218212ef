-- A site of the whole scratch is one of its front. Assumes nothing.
use Rattle.std.specs.Prelude.{ℕ, ◌+◌, ◌*◌, ◌%◌, ◌<◌, ◌≤◌, ◌≡◌, List}
use Rattle.std.proofs.Common.{sym, subst, ◌∙◌, arith, get_or-take, take-take, ap, get_or}
use Rattle.kit.specs.Words.{word-take}
use Rattle.reader.specs.BuiltIns.{first_class}
use Rattle.classfiles.specs.Blocks.{listed, classes_in}
use Rattle.classfiles.specs.BlockWords.{listed_same}
use Rattle.reader.specs.Linked.{parents_at}
use Rattle.reader.specs.TypeCodes.{types_of, desc_of, codes_in, result_at, params_in, results_in}
use Rattle.reader.specs.Program.{Program, Method, method, program_of}
use Rattle.rules.specs.ResolvedWords.{resolved_of, Flagged}
use Rattle.rules.specs.Sites.{front, Sited, Bounded, program_at, method_at, Here}
use Rattle.shaping.specs.SiteLaws.{word-front}
use Rattle.rules.specs.declared.site.Site.{Site}

program-front : (s t : List ℕ) (x : Site) → program_at s (front t) x ≡ program_at s t x
unfolding program_at
program-front s t x = ap (λ (l : List ℕ). program_of (classes_in s l x.classes)) (take-take parents_at 187008 t (omega arith))

byte_front : (t : List ℕ) (i : ℕ) → i < 187008 → get_or (front t) i 0 ≡ get_or t i 0
byte_front t i h = get_or-take 187008 t i 0 h

module _ (t : List ℕ) (k : ℕ) (h : k < 1024) where
  results-front : results_in (front t) k ≡ results_in t k
  unfolding results_in result_at
  results-front =
      let a : get_or (front t) (types_of k) 0 ≡ get_or t (types_of k) 0 = byte_front t (types_of k) (omega arith) in
      let b : get_or (front t) (types_of k + 17) 0 ≡ get_or t (types_of k + 17) 0 = byte_front t (types_of k + 17) (omega arith) in
      rw (a, b)

  params-front : get_or t (types_of k) 0 % 32 ≤ 17 → params_in (front t) k ≡ params_in t k
  unfolding params_in codes_in
  params-front l =
      let a : get_or (front t) (types_of k) 0 ≡ get_or t (types_of k) 0 = byte_front t (types_of k) (omega arith) in
      ap (λ (v : ℕ). listed (λ i. desc_of (get_or (front t) (types_of k + 1 + i) 0)) (v % 32)) a
      ∙ listed_same (λ i. desc_of (get_or (front t) (types_of k + 1 + i) 0)) (λ i. desc_of (get_or t (types_of k + 1 + i) 0)) (get_or t (types_of k) 0 % 32)
      (λ i g. ap desc_of (byte_front t (types_of k + 1 + i) (omega arith)))

-- what is said of the whole is so of the front
pub here_of : (s t : List ℕ) (x : Site) → Sited s t (program_at s t x) (method_at s t x) x → Bounded s x → get_or t (types_of (64 * x.class + x.method)) 0 % 32 ≤ 17 → Here s t x
here_of s t x d b l =
    let P : Program = program_at s t x in
    let M : Method = method_at s t x in
    let k : 64 * x.class + x.method < 1024 = omega (arith, b.class, b.method) in
    let z : Sited s (front t) P M x = record {
      owner = d.owner;
      named = λ i. ap (resolved_of s) (word-front t x.class i) ∙ d.named i;
      flags = λ i. subst (Flagged P) (sym (word-front t x.class i)) (d.flags i);
      params = d.params ∙ sym (params-front t (64 * x.class + x.method) k l);
      results = d.results ∙ sym (results-front t (64 * x.class + x.method) k);
      parents = record { count = d.parents.count; parent = λ c g. word-take 187008 t (25728 + c) (omega (arith, b.classes)) ∙ d.parents.parent c g };
      static = d.static;
      body = d.body;
    } in
    record {
      sited = subst (λ (Q : Program). Sited s (front t) Q (method Q (first_class + x.class) x.method) x) (sym (program-front s t x)) z;
      bounded = b;
    }
