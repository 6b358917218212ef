-- Document 01's examples at the edges, those marked P: one table under a single claim, over whole bundles in bytes.
use Rattle.std.specs.Prelude.{ℕ, ◌≡◌, true, List, [], ◌∷◌, ◌++◌}
use Rattle.std.proofs.Common.{ap, ◌∙◌}
use Rattle.classfiles.specs.Limits.{unnamed}
use Rattle.reader.specs.Verdicts.{numbers}
use Rattle.shaping.specs.Verify.{verdict_of}
use Rattle.plain.specs.Run.{Lent, sizes_ok, answer_of, answer_numbers, no_verdict, run_of}
use Rattle.plain.specs.Laws.{run-answer}
use Rattle.examples.specs.Assemble.{no_frames, frames, static, constructor, no_arguments, object_name}

-- class and method, arguments, budget, lent cells; the nine numbers of the answer
pub record Run : Type 0 where
  pub class : ℕ
  pub method : ℕ
  pub arguments : List ℕ
  pub budget : ℕ
  pub cells : List ℕ
  pub answer : List ℕ

-- a bundle, its verdict's four numbers, its runs
pub record Case : Type 0 where
  pub bytes : List ℕ
  pub verdict : List ℕ
  pub runs : List Run

-- a run, whatever stands in the scratch, slots and tags that are lent
abbrev pub Runs : List ℕ → List Run → Type 0
Runs s [] = Unit {0}
Runs s (r ∷ rs) =
    ((t : Lent) → sizes_ok t r.budget ≡ true → t.heap ≡ r.cells → answer_numbers (run_of s t r.class r.method r.arguments r.budget).answer ≡ r.answer)
    × Runs s rs

abbrev pub Holds : List Case → Type 0
Holds [] = Unit {0}
Holds (c ∷ cs) = (numbers (verdict_of c.bytes) ≡ c.verdict) × Runs c.bytes c.runs × Holds cs

-- ---- how the table is written
abbrev pub accepted : List ℕ
accepted = 0 ∷ unnamed ∷ unnamed ∷ 0 ∷ []

abbrev refused_at : ℕ → ℕ → List ℕ
refused_at n place = n ∷ 0 ∷ 0 ∷ place ∷ []

abbrev run : List ℕ → ℕ → List ℕ → Run
run args budget answer = record { class = 0; method = 0; arguments = args; budget = budget; cells = []; answer = answer }

abbrev returns : ℕ → ℕ → List ℕ
returns value count = 0 ∷ 1 ∷ value ∷ count ∷ 0 ∷ no_verdict

abbrev out_of_steps : ℕ → List ℕ
out_of_steps count = 0 ∷ 3 ∷ 0 ∷ count ∷ 0 ∷ no_verdict

abbrev pub case : List ℕ → List ℕ → List Run → Case
case s v rs = record { bytes = s; verdict = v; runs = rs }

-- ()I, (I)I, ()Ljava/lang/Object;
abbrev to_int : List ℕ
to_int = 40 ∷ 41 ∷ 73 ∷ []

abbrev int_to_int : List ℕ
int_to_int = 40 ∷ 73 ∷ 41 ∷ 73 ∷ []

abbrev to_object : List ℕ
to_object = 40 ∷ 41 ∷ 76 ∷ (object_name ++ (59 ∷ []))

abbrev example7 : List ℕ
example7 = 0x1a ∷ 0x99 ∷ 0x00 ∷ 0x05 ∷ 0x04 ∷ 0xac ∷ 0x05 ∷ 0xac ∷ []

-- 1, 2, 3, 6 without and with its frame, 7 with and without, 8, 9, 10
abbrev pub examples : List Case
examples =
    case (static to_int 1 0 (0x03 ∷ 0xac ∷ []) no_frames) accepted (run [] 2 (returns 0 2) ∷ run [] 1 (out_of_steps 1) ∷ [])
    ∷ case (static to_int 0 0 (0x03 ∷ 0xac ∷ []) no_frames) (refused_at 15 0) []
    ∷ case (static to_int 1 0 (0xac ∷ []) no_frames) (refused_at 15 0) []
    ∷ case (static no_arguments 0 0 (0xa7 ∷ 0x00 ∷ 0x00 ∷ []) no_frames) (refused_at 17 0) []
    ∷ case (static no_arguments 0 0 (0xa7 ∷ 0x00 ∷ 0x00 ∷ []) (frames 1 (0x00 ∷ []))) accepted (run [] 1000 (out_of_steps 1000) ∷ [])
    ∷ case (static int_to_int 1 1 example7 (frames 1 (0x06 ∷ []))) accepted (run (0 ∷ []) 4 (returns 2 4) ∷ run (5 ∷ []) 4 (returns 1 4) ∷ [])
    ∷ case (static int_to_int 1 1 example7 no_frames) (refused_at 17 1) []
    ∷ case (constructor 0 1 (0xb1 ∷ [])) (refused_at 18 0) []
    ∷ case (constructor 1 1 (0x2a ∷ 0xb7 ∷ 0x00 ∷ 0x0c ∷ 0xb1 ∷ [])) accepted []
    ∷ case (static to_object 1 0 (0xbb ∷ 0x00 ∷ 0x04 ∷ 0xb0 ∷ []) no_frames) (refused_at 16 3) []
    ∷ []

-- ---- what is computed: verdicts, and answers at the lent cells
abbrev pub Answers : List ℕ → List Run → Type 0
Answers s [] = Unit {0}
Answers s (r ∷ rs) = (answer_numbers (answer_of s r.cells r.class r.method r.arguments r.budget) ≡ r.answer) × Answers s rs

abbrev pub Computes : List Case → Type 0
Computes [] = Unit {0}
Computes (c ∷ cs) = (numbers (verdict_of c.bytes) ≡ c.verdict) × Answers c.bytes c.runs × Computes cs

runs : (s : List ℕ) (rs : List Run) → Answers s rs → Runs s rs
runs s [] a = tt
runs s (r ∷ rs) a = (one, runs s rs a.1)
  where
    one : (t : Lent) → sizes_ok t r.budget ≡ true → t.heap ≡ r.cells → answer_numbers (run_of s t r.class r.method r.arguments r.budget).answer ≡ r.answer
    one t h e =
        ap answer_numbers (run-answer s t r.class r.method r.arguments r.budget h)
        ∙ (ap (λ (cs : List ℕ). answer_numbers (answer_of s cs r.class r.method r.arguments r.budget)) e ∙ a.0)

pub holds : (cs : List Case) → Computes cs → Holds cs
holds [] p = tt
holds (c ∷ cs) p = (p.0, runs c.bytes c.runs p.1, holds cs p.2)
