-- A method's parts as the code finds them, and that they are the program's; what has to stand in the scratch for that. Assumes nothing.
use Rattle.std.specs.Prelude.{ℕ, ◌+◌, ◌-◌, ◌*◌, ◌^◌, ◌<◌, ◌≤◌, ◌≡◌, List, Bool, false, eqb}
use Rattle.std.proofs.Common.{subst, ◌∙◌, eqb-true, eq-eqb, ne_eqb, refl, sym, ap, true, not, arith, length}
use Rattle.std.proofs.lemmas.Bool.{not-false}
use Rattle.kit.specs.Bools.{not_so}
use Rattle.kit.specs.Lists.{length_part}
use Rattle.kit.specs.Words.{word}
use Rattle.classfiles.specs.Limits.{max_stack_limit, max_locals_limit, max_code, max_table_entries}
use Rattle.texts.specs.Reading.{u2_at, u4_at, part}
use Rattle.texts.specs.Names.{is_init}
use Rattle.classfiles.specs.Table.{IsText}
use Rattle.classfiles.specs.Members.{Found, Body}
use Rattle.classfiles.specs.Attributes.{found_of, handlers_from, table_from, body_of, member_of}
use Rattle.reader.specs.BuiltIns.{first_class}
use Rattle.reader.specs.Program.{Program, Method, class, method, method_of, program_of, is_constructor}
use Rattle.classfiles.specs.Blocks.{method_rows, row_in}
use Rattle.reader.specs.Linked.{files_in}
use Rattle.reader.specs.MemberRows.{block_at, rows_word, row_count, row_start, row_at, row_sig}
use Rattle.reader.specs.Lookup.{class-count}
use Rattle.reader.specs.MemberAt.{number_as, method-at}
use Rattle.reader.specs.FileLimits.{BodyFits, CodeLimits, row_limits}
use Rattle.reader.specs.Whole.{Tables}
use Rattle.classfiles.specs.declared.pool.Span.{Span}
use Rattle.rules.specs.Resolve.{resolve}
use Rattle.shaping.specs.Resolving.{ResolvedAll}
use Rattle.rules.specs.Sites.{site_body, Sited, Bounded, program_at, method_at, KnowsInit}
use Rattle.rules.specs.declared.site.Site.{Site}
use Rattle.shaping.specs.declared.locate.Parts.{Parts}

-- phases A and B have passed, and what code names is found
pub record Prepared (s : List ℕ) (n : ℕ) (t : List ℕ) : Type 0 where
  pub tables : Tables s n t
  pub resolved : ResolvedAll s n t

-- the site of method m of class c
pub record Located (s : List ℕ) (n c m : ℕ) (x : Site) (t : List ℕ) : Type 0 where
  pub sited : Sited s t (program_at s t x) (method_at s t x) x
  pub bounded : Bounded s x
  pub classes : x.classes ≡ n
  pub class : x.class ≡ c
  pub method : x.method ≡ m

abbrev pub parts_body : List ℕ → Parts → Body
parts_body s p = record {
  max_stack = p.stack;
  max_locals = p.locals;
  code = part s p.start (p.end - p.start);
  table = handlers_from s p.entries p.table;
  frames = found_of p.tables (part s p.frames (p.last - p.frames));
}

-- the Code of the method whose row is number m of block b
unfoldable pub body_in : List ℕ → List ℕ → ℕ → Body
body_in s b m =
    body_of s (word b (method_rows + 6 * m + 2)) (found_of (word b (method_rows + 6 * m + 3)) (part s (word b (method_rows + 6 * m + 4)) (word b (method_rows + 6 * m + 5))))

abbrev pub found_in : List ℕ → List ℕ → ℕ → Body → Found Body
found_in s b m x = found_of (word b (method_rows + 6 * m + 1)) x

-- phase A's limits
pub record Within (p : Parts) : Type 0 where
  pub stack : p.stack ≤ max_stack_limit
  pub locals : p.locals ≤ max_locals_limit
  pub size : p.end - p.start ≤ max_code
  pub entries : p.entries ≤ max_table_entries

pub record PartsOf (s b : List ℕ) (m : ℕ) (p : Parts) : Type 0 where
  pub body : found_in s b m (parts_body s p) ≡ found_in s b m (body_in s b m)
  pub within : BodyFits (row_at s b true m).body → Within p
  pub from : p.start ≤ p.end
  pub to : p.end ≤ length s
  pub frames_from : p.frames ≤ p.last
  pub frames_to : p.last ≤ length s
  pub table : p.table ≤ 2 ^ 34

-- ---- the parts
found_other : {A : Type 0} (k : ℕ) (v w : A) → (k ≡ 1 → ⊥) → found_of k v ≡ found_of k w
unfolding found_of
found_other k v w h = rw (ne_eqb k 1 h)

module _ (s b : List ℕ) (m k : ℕ) (e : k ≡ word b (method_rows + 6 * m + 1)) where
  pub parts_none : not (eqb k 1) ≡ true → PartsOf s b m (record { stack = 0; locals = 0; start = 0; end = 0; table = 0; entries = 0; tables = 0; frames = 0; last = 0 })
  unfolding handlers_from part
  parts_none h = record {
    body = found_other (word b (method_rows + 6 * m + 1)) _ _ (λ z. not_one h (e ∙ z));
    within = λ _. record { stack = omega arith; locals = omega arith; size = omega arith; entries = omega arith };
    from = omega arith;
    to = omega arith;
    frames_from = omega arith;
    frames_to = omega arith;
    table = omega arith;
  }
    where
      not_one : not (eqb k 1) ≡ true → k ≡ 1 → ⊥
      not_one x z = not_so (sym (ap not (eq-eqb k 1 z)) ∙ x)

  module _ (h : not (eqb k 1) ≡ false) (q size stack locals entries tables a n : ℕ) (code frames : Span) (eq : q ≡ word b (method_rows + 6 * m + 2)) (lq : q < 2 ^ 32) (es : size ≡ u4_at s (q + 4)) (ls : size < 4294967296)
      (hc : IsText s code (part s (q + 8) size)) (et : tables ≡ word b (method_rows + 6 * m + 3)) (ea : a ≡ word b (method_rows + 6 * m + 4)) (en : n ≡ word b (method_rows + 6 * m + 5)) (hf : IsText s frames (part s a n))
      (est : stack ≡ u2_at s q) (elo : locals ≡ u2_at s (q + 2)) (een : entries ≡ u2_at s (q + 8 + size)) where
    abbrev X : Parts
    X = record { stack = stack; locals = locals; start = code.start; end = code.end; table = q + 8 + size + 2; entries = entries; tables = tables; frames = frames.start; last = frames.end }

    one : k ≡ 1
    one = eqb-true k 1 (not-false (eqb k 1) h)

    same_body : parts_body s X ≡ body_in s b m
    unfolding body_in body_of table_from part
    same_body =
        rw (← eq, ← et, ← ea, ← en, ← es)
        (cc (est, elo, een, hc.is, hf.is))

    pub parts_some : PartsOf s b m X
    unfolding found_of table_from
    parts_some = record {
      body = ap (found_of (word b (method_rows + 6 * m + 1))) same_body;
      within = λ w. limits (subst (CodeLimits s) (sym eq) (row_limits s b m w (sym e ∙ one)));
      from = hc.order;
      to = hc.inside;
      frames_from = hf.order;
      frames_to = hf.inside;
      table = omega (arith, lq, ls);
    }
      where
        cut : code.end - code.start ≡ length (part s (q + 8) (u4_at s (q + 4)))
        cut = sym (length_part code.start (code.end - code.start) s (omega (arith, hc.order, hc.inside))) ∙ ap length hc.is ∙ ap (λ (j : ℕ). length (part s (q + 8) j)) es

        limits : CodeLimits s q → Within X
        limits h = record {
          stack = omega (arith, est, h.stack);
          locals = omega (arith, elo, h.locals);
          size = omega (arith, cut, h.code);
          entries = few h.entries;
        }
          where
            few : u2_at s (table_from s q) ≤ 32 → entries ≤ 32
            few l = omega (arith, een ∙ ap (λ (j : ℕ). u2_at s (q + 8 + j)) es, l)

-- ---- the site
row-body : (s b : List ℕ) (m : ℕ) → (row_at s b true m).body ≡ found_in s b m (body_in s b m)
unfolding row_at rows_word row_in member_of body_in
row-body s b m = refl

module _ (s t : List ℕ) (x : Site) (p : Parts) (h : Prepared s x.classes t) (l : x.class < x.classes) (g : x.method < row_count (block_at t x.class) true)
    (k : PartsOf s (block_at t x.class) x.method p) (eb : site_body s x ≡ parts_body s p) (ec : x.codes ≡ word (block_at t x.class) (method_rows + 6 * x.method + 1)) where
  abbrev P : Program
  P = program_of (files_in s x.classes t)

  abbrev b : List ℕ
  b = block_at t x.class

  is_row : method P (first_class + x.class) x.method ≡ method_of (number_as s x.classes t) (first_class + x.class) (row_at s b true x.method)
  is_row = method-at s x.classes t h.tables.most x.class l x.method g

  owned : (method P (first_class + x.class) x.method).owner ≡ first_class + x.class
  unfolding method_of
  owned = ap (λ (M : Method). M.owner) is_row

  pub site_sited : x.fixed ≡ (method P (first_class + x.class) x.method).static → Sited s t (program_at s t x) (method_at s t x) x
  unfolding program_at method_of
  site_sited ef = record {
    owner = owned;
    named = λ i. h.resolved.at x.class i l ∙ ap (λ (o : ℕ). resolve P (class P o).pool i) (sym owned);
    flags = λ i. h.resolved.flags x.class i l;
    params = sym (h.tables.types.params x.class x.method l g);
    results = sym (h.tables.types.results x.class x.method l g);
    parents = record { count = sym (class-count s x.classes t h.tables.most); parent = λ c z. h.tables.parents.at c z };
    static = sym ef;
    body = ap (λ (M : Method). M.body) is_row ∙ row-body s b x.method ∙ sym k.body ∙ ap (found_of (word b (method_rows + 6 * x.method + 1))) (sym eb) ∙ ap (λ (j : ℕ). found_of j (site_body s x)) (sym ec);
  }

  pub site_within : Within p
  site_within = k.within (h.tables.bodies x.class x.method l g)

  pub site_bounded : x.stack ≤ 32 → x.locals ≤ 32 → x.start ≤ x.end → x.end ≤ length s → x.end - x.start ≤ 4096 → x.entries ≤ 32 → x.table ≤ 2 ^ 34 → x.frames ≤ x.last → x.last ≤ length s → Bounded s x
  site_bounded stack locals from to size entries table ff ft = record {
    classes = h.tables.most;
    class = omega (arith, h.tables.most, l);
    method = omega (arith, h.tables.limited.methods x.class l, g);
    stack = stack;
    locals = locals;
    from = from;
    to = to;
    size = size;
    entries = entries;
    table = omega (arith, table, entries);
    frames_from = ff;
    frames_to = ft;
  }

-- the code's own site
module _ (s t : List ℕ) (n c m codes : ℕ) (p : Parts) (i f : Bool) where
  abbrev site_of : Site
  site_of = record {
    classes = n;
    class = c;
    method = m;
    codes = codes;
    stack = p.stack;
    locals = p.locals;
    start = p.start;
    end = p.end;
    table = p.table;
    entries = p.entries;
    tables = p.tables;
    frames = p.frames;
    last = p.last;
    constructor = i;
    fixed = f;
  }

  pub located : Prepared s n t → c < n → m < row_count (block_at t c) true → PartsOf s (block_at t c) m p → codes ≡ word (block_at t c) (method_rows + 6 * m + 1)
      → f ≡ (method (program_of (files_in s n t)) (first_class + c) m).static → Located s n c m site_of t
  unfolding site_body
  located h l g k ec ef =
      let w = k.within (h.tables.bodies c m l g) in
      record {
        sited = site_sited s t site_of p h l g k refl ec ef;
        bounded = site_bounded s t site_of p h l g k refl ec w.stack w.locals k.from k.to w.size w.entries k.table k.frames_from k.frames_to;
        classes = refl;
        class = refl;
        method = refl;
      }

pub knows_init : (s t : List ℕ) (n c m : ℕ) (x : Site) (q : List ℕ) → Prepared s n t → c < n → m < row_count (block_at t c) true → Located s n c m x t → q ≡ (row_sig s (block_at t c) true m).name
    → x.constructor ≡ is_init q → KnowsInit s t x
unfolding program_at method_of row_at row_sig row_start rows_word row_in member_of
knows_init s t n c m x q h l g z hq e =
    ap (λ (k : ℕ). is_constructor (method (program_of (files_in s k t)) (first_class + x.class) x.method)) z.classes
    ∙ ap (λ (k : ℕ). is_constructor (method (program_of (files_in s n t)) (first_class + k) x.method)) z.class
    ∙ ap (λ (k : ℕ). is_constructor (method (program_of (files_in s n t)) (first_class + c) k)) z.method
    ∙ ap is_constructor (method-at s n t h.tables.most c l m g) ∙ ap is_init (sym hq) ∙ sym e
