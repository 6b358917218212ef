-- The walk of a method of the program that the scratch stands for. Assumes nothing.
use Rattle.std.specs.Prelude.{ℕ, ◌+◌, ◌*◌, ◌%◌, ◌<◌, ◌≤◌, ◌≡◌, List}
use Rattle.std.proofs.Common.{sym, subst, ◌∙◌, arith, get_or-take, ap, length, get_or}
use Rattle.kit.specs.Words.{word-take}
use Rattle.kit.specs.Claims.{verdict}
use Rattle.classfiles.specs.BlockWords.{listed_same, length-listed}
use Rattle.reader.specs.TypeCodes.{codes_in, params_in, results_in, result_at, desc_of as code_desc}
use Rattle.reader.specs.Program.{Program, Method}
use Rattle.rules.specs.States.{parameter_tys}
use Rattle.rules.specs.Walk.{walk_claims}
use Rattle.rules.specs.FrameRows.{frames_of}
use Rattle.rules.specs.ResolvedWords.{resolved_of, Flagged}
use Rattle.rules.specs.Sites.{front, Sited, Here, KnowsInit, program_at, method_at}
use Rattle.shaping.specs.SiteLaws.{word-front}
use Rattle.shaping.specs.Marks.{Ruled, ruled_as}
use Rattle.verifier.specs.Callees.{Typed}
use Rattle.verifier.specs.MethodWalks.{MethodWalked}
use Rattle.rules.specs.declared.site.Site.{Site}
use Rattle.rules.specs.declared.frames.Rows.{Rows}

-- what the front says, the scratch says
module _ (t u : List ℕ) (b : (i : ℕ) → i < 187008 → get_or u i 0 ≡ get_or t i 0) (k : ℕ) (l : k < 1024) where
  params_by : length (params_in t k) ≤ 16 → params_in u k ≡ params_in t k
  unfolding params_in codes_in
  params_by m =
      let c : get_or u (168576 + 18 * k) 0 ≡ get_or t (168576 + 18 * k) 0 = b (168576 + 18 * k) (omega arith) in
      let n : length (params_in t k) ≡ get_or t (168576 + 18 * k) 0 % 32 = length-listed (λ i. code_desc (get_or t (168576 + 18 * k + 1 + i) 0)) (get_or t (168576 + 18 * k) 0 % 32) in
      rw c (listed_same (λ i. code_desc (get_or u (168576 + 18 * k + 1 + i) 0)) (λ i. code_desc (get_or t (168576 + 18 * k + 1 + i) 0)) (get_or t (168576 + 18 * k) 0 % 32)
      (λ i h. ap code_desc (b (168576 + 18 * k + 1 + i) (omega arith))))

  results_by : results_in u k ≡ results_in t k
  unfolding results_in result_at
  results_by = rw (b (168576 + 18 * k) (omega arith), b (168576 + 18 * k + 17) (omega arith))

module _ (t : List ℕ) where
  byte_front : (i : ℕ) → i < 187008 → get_or (front t) i 0 ≡ get_or t i 0
  byte_front i l = get_or-take 187008 t i 0 l

  pub sited_whole : (s : List ℕ) (P : Program) (M : Method) (x : Site) → x.class < 16 → x.method < 64 → x.classes ≤ 16
      → length (params_in t (64 * x.class + x.method)) ≤ 16 → Sited s (front t) P M x → Sited s t P M x
  sited_whole s P M x a b n m d = record {
    owner = d.owner;
    named = λ i. ap (resolved_of s) (sym (word-front t x.class i)) ∙ d.named i;
    flags = λ i. subst (Flagged P) (word-front t x.class i) (d.flags i);
    params = d.params ∙ params_by t (front t) byte_front (64 * x.class + x.method) (omega arith) m;
    results = d.results ∙ results_by t (front t) byte_front (64 * x.class + x.method) (omega arith);
    parents = record {
      count = d.parents.count;
      parent = λ c h. sym (word-take 187008 t (25728 + c) (omega arith)) ∙ d.parents.parent c h;
    };
    static = d.static;
    body = d.body;
  }

pub walked_here : (s t u : List ℕ) (x : Site) (f : Rows) (r : Ruled) → Here s t x → KnowsInit s (front t) x → x.codes ≡ 1 → Typed t (program_at s (front t) x) x.classes
    → length (params_in t (64 * x.class + x.method)) ≤ 16 → length (parameter_tys (method_at s (front t) x)) ≤ x.locals → MethodWalked s t u x f r
    → ruled_as r ≡ verdict (walk_claims (program_at s (front t) x) (method_at s (front t) x) (frames_of t f))
walked_here s t u x f r h i one y m l w =
    let b = h.bounded in
    w.is (program_at s (front t) x) (method_at s (front t) x) (sited_whole t s (program_at s (front t) x) (method_at s (front t) x) x b.class b.method b.classes m h.sited) i y one l
