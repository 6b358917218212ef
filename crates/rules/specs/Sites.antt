-- What a method's site says: the method of the program that the scratch stands for, and the tables' words of it.
use Rattle.std.specs.Prelude.{ℕ, ◌+◌, ◌-◌, ◌*◌, ◌^◌, ◌≤◌, ◌<◌, ◌≡◌, List, length, take}
use Rattle.texts.specs.Reading.{part}
use Rattle.reader.specs.BuiltIns.{first_class}
use Rattle.classfiles.specs.Members.{Body}
use Rattle.classfiles.specs.Attributes.{found_of, handlers_from}
use Rattle.reader.specs.Program.{Program, Method, class, method, program_of, is_constructor}
use Rattle.reader.specs.TypeCodes.{params_in, results_in}
use Rattle.reader.specs.Linked.{files_in}
use Rattle.rules.specs.Resolve.{resolve}
use Rattle.rules.specs.Ancestry.{Parents}
use Rattle.rules.specs.ResolvedWords.{word_of, resolved_in, Flagged}
use Rattle.rules.specs.declared.site.Site.{Site}

-- what stands before the frame rows does not change in phases C and D: class blocks, parents, resolved words, method types
abbrev pub front : List ℕ → List ℕ
front t = take 187008 t

abbrev pub site_code : List ℕ → Site → List ℕ
site_code s x = part s x.start (x.end - x.start)

abbrev pub site_frames : List ℕ → Site → List ℕ
site_frames s x = part s x.frames (x.last - x.frames)

unfoldable pub site_body : List ℕ → Site → Body
site_body s x = record {
  max_stack = x.stack;
  max_locals = x.locals;
  code = site_code s x;
  table = handlers_from s x.entries x.table;
  frames = found_of x.tables (site_frames s x);
}

-- the method M of P is the one at the site
pub record Sited (s t : List ℕ) (P : Program) (M : Method) (x : Site) : Type 0 where
  pub owner : M.owner ≡ first_class + x.class
  pub named : (i : ℕ) → resolved_in s t x.class i ≡ resolve P (class P M.owner).pool i
  pub flags : (i : ℕ) → Flagged P (word_of t x.class i)
  pub params : M.params ≡ params_in t (64 * x.class + x.method)
  pub results : M.results ≡ results_in t (64 * x.class + x.method)
  pub parents : Parents P t 25728 (first_class + x.classes)
  pub static : M.static ≡ x.fixed
  pub body : M.body ≡ found_of x.codes (site_body s x)

-- its parts lie in the bundle and keep to the limits
pub record Bounded (s : List ℕ) (x : Site) : Type 0 where
  pub classes : x.classes ≤ 16
  pub class : x.class < 16
  pub method : x.method < 64
  pub stack : x.stack ≤ 32
  pub locals : x.locals ≤ 32
  pub from : x.start ≤ x.end
  pub to : x.end ≤ length s
  pub size : x.end - x.start ≤ 4096
  pub entries : x.entries ≤ 32
  pub table : x.table + 8 * x.entries ≤ 2 ^ 35
  pub frames_from : x.frames ≤ x.last
  pub frames_to : x.last ≤ length s

-- the program and the method that the scratch stands for
unfoldable pub program_at : List ℕ → List ℕ → Site → Program
program_at s t x = program_of (files_in s x.classes t)

abbrev pub method_at : List ℕ → List ℕ → Site → Method
method_at s t x = method (program_at s t x) (first_class + x.class) x.method

-- the site says whether its method is a constructor
abbrev pub KnowsInit : List ℕ → List ℕ → Site → Type 0
KnowsInit s t x = is_constructor (method_at s t x) ≡ x.constructor

-- all of it, of the scratch's front
pub record Here (s t : List ℕ) (x : Site) : Type 0 where
  pub sited : Sited s (front t) (program_at s (front t) x) (method_at s (front t) x) x
  pub bounded : Bounded s x
