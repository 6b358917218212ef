-- An instruction of one window by its opcode: where it goes on, it does what the definitions say of the instruction that stands there. Assumes nothing.
use Rattle.std.specs.Prelude.{Ok, Err, IfOk, OnErr, ℕ, ◌+◌, ◌*◌, ◌%◌, ◌<◌, ◌≤◌, ◌≡◌, refl, List, length, get_or}
use Rattle.std.proofs.Common.{sym, ◌∙◌, arith, ap, subst}
use Rattle.classfiles.specs.Limits.{max_heap}
use Rattle.reader.specs.Program.{Program}
use Rattle.rules.specs.Instruction.{Instr, getfield, putfield}
use Rattle.rules.specs.Ancestry.{Parents}
use Rattle.rules.specs.Opcodes.{rows, row_in, row_of, length_of, size_at}
use Rattle.rules.specs.ResolvedWords.{resolved_as, resolved_in, word_of, field_in, Flagged}
use Rattle.rules.specs.InstructionWords.{field_of}
use Rattle.rules.specs.Decoding.{made}
use Rattle.rules.specs.declared.decode.Bytes.{Bytes}
use Rattle.rules.specs.declared.instruction.Field.{Field}
use Rattle.rules.specs.declared.types.Kin.{Kin}
use Rattle.plain.specs.Machine.{Here}
use Rattle.plain.specs.Step.{execute}
use Rattle.plain.specs.Windows.{Turn, ops_of, operands_of, turn_of, Sized, Stands}
use Rattle.plain.specs.WindowForms.{doing}
use Rattle.plain.specs.HeapTurns.{Steps}
use Rattle.plain.specs.declared.window.Place.{Place}
use Rattle.plain.specs.declared.window.Onward.{Onward}
use Rattle.plain.specs.declared.window.Halt.{Halt}
use Rattle.stepping.specs.Turning.{Stays, turn_low}
use Rattle.stretching.specs.declared.quick.Ground.{Ground}

abbrev pub kin_of : Ground → Kin
kin_of y = record { at = 25728; count = y.count }

abbrev pub place_at : Ground → ℕ → ℕ → ℕ → ℕ → Place
place_at y at n used z = record { operands = n; most = y.most; locals = y.locals; after = at + z; used = used }

abbrev pub bytes_at : List ℕ → ℕ → Bytes
bytes_at code at = record { op = get_or code at 0; first = get_or code (at + 1) 0; second = get_or code (at + 2) 0; at = at }

-- an instruction stands at the offset, and the window has its size
pub record Ready (code cells w g : List ℕ) (y : Ground) (at n : ℕ) : Type 0 where
  pub words : length w ≡ 64
  pub tags : length g ≡ 64
  pub operands : n ≤ 32
  pub most : y.most ≤ 32
  pub locals : y.locals ≤ 32
  pub size : length cells ≤ max_heap
  pub here : at < length code
  pub short : length code ≤ 4096

pub ready-sized : (code cells w g : List ℕ) (y : Ground) (at n used z : ℕ) (c : Place) → Ready code cells w g y at n → c ≡ place_at y at n used z → Sized c w g
ready-sized code cells w g y at n used z c h e =
    subst (λ (p : Place). Sized p w g) (sym e) (record { words = h.words; tags = h.tags; operands = h.operands; most = h.most; locals = h.locals })

-- what is known of a program whose tables are the scratch's
pub record Known (t : List ℕ) (y : Ground) (P : Program) : Type 0 where
  pub kin : Parents P t 25728 y.count
  pub flags : (i : ℕ) → Flagged P (word_of t y.class i)

-- the instruction at an offset of code of bundle class c
abbrev pub made_at : List ℕ → List ℕ → ℕ → List ℕ → ℕ → Program → Instr
made_at b t c code o P = made P (resolved_in b t c) (get_or code o 0) (get_or code (o + 1) 0) (get_or code (o + 2) 0) o

-- on, as in each context that stands there
pub record Moves (b t code : List ℕ) (y : Ground) (at n : ℕ) (w g w' g' cells' : List ℕ) (r : Onward) (P : Program) (x : Here) : Type 0 where
  pub is : turn_of P x y.locals w' g' cells' (Ok r) ≡ execute P x (ops_of w g n) (made_at b t y.class code at P)
  pub operands : r.operands ≤ y.most
  pub offset : r.at < 65536

pub record Quick (b t code : List ℕ) (y : Ground) (at n used : ℕ) (w g cells w' g' cells' : List ℕ) (r : Turn) : Type 0 where
  pub on : IfOk r (λ o. (P : Program) (x : Here) → Known t y P → Stands P x (place_at y at n used (size_at code at)) w g cells → at + 3 < 65536
      → Moves b t code y at n w g w' g' cells' o P x)
  pub kept : OnErr r ((w' ≡ w) × (g' ≡ g) × (cells' ≡ cells))
  pub room : operands_of r ≤ 32

module _ (b t code : List ℕ) (y : Ground) (at n used : ℕ) (w g cells : List ℕ) where
  pub quick_elsewhere : (h : Halt) → Quick b t code y at n used w g cells w g cells (Err h)
  quick_elsewhere h = record { on = tt; kept = (refl, refl, refl); room = omega arith }

  module _ (z : ℕ) (I : Instr) (k : Kin) (c : Place) (w' g' cells' : List ℕ) (r : Turn) where
    -- by a form of the instruction that it is
    pub quick_by : size_at code at ≡ z → z < 4 → Stays I → ((P : Program) → Known t y P → made_at b t y.class code at P ≡ I) → k ≡ kin_of y → c ≡ place_at y at n used z
        → Steps (λ P. Parents P t k.at k.count) c w g cells w' g' cells' r (doing w g c.operands I) → Quick b t code y at n used w g cells w' g' cells' r
    unfolding doing
    quick_by ez lz low m ek ec h = record { on = on r h'; kept = kept r h'; room = h.room }
      where
        K : Program → Type 0
        K P = Parents P t 25728 y.count

        p : Place
        p = place_at y at n used z

        h' : Steps (λ P. Parents P t 25728 y.count) (place_at y at n used z) w g cells w' g' cells' r (doing w g n I)
        h' =
            subst (λ (a : Place). Steps (λ P. Parents P t 25728 y.count) a w g cells w' g' cells' r (doing w g a.operands I)) ec
            (subst (λ (j : Kin). Steps (λ P. Parents P t j.at j.count) c w g cells w' g' cells' r (doing w g c.operands I)) ek h)

        on : (r : Turn) → Steps K p w g cells w' g' cells' r (doing w g n I)
            → IfOk r (λ o. (P : Program) (x : Here) → Known t y P → Stands P x (place_at y at n used (size_at code at)) w g cells → at + 3 < 65536 → Moves b t code y at n w g w' g' cells' o P x)
        on (Err i) k = tt
        on (Ok o) k = λ P x known stands short.
            let s : Stands P x (place_at y at n used z) w g cells = subst (λ (i : ℕ). Stands P x (place_at y at n used i) w g cells) ez stands in
            let u = turn_low P x I low (omega (arith, s.after, short, lz)) K p w g cells w' g' cells' o k known.kin s in
            record {
              is = k.is P x known.kin s ∙ ap (λ (J : Instr). execute P x (ops_of w g n) J) (sym (m P known));
              operands = u.0;
              offset = u.1;
            }

        kept : (r : Turn) → Steps K p w g cells w' g' cells' r (doing w g n I) → OnErr r ((w' ≡ w) × (g' ≡ g) × (cells' ≡ cells))
        kept (Ok o) k = tt
        kept (Err i) k = k.kept i refl

    -- by its opcode
    pub quick_arm : (v : ℕ) → get_or code at 0 ≡ v → length_of (row_of v) ≡ z → z < 4 → Stays I
        → ((P : Program) → made P (resolved_in b t y.class) v (get_or code (at + 1) 0) (get_or code (at + 2) 0) at ≡ I) → k ≡ kin_of y → c ≡ place_at y at n used z
        → Steps (λ P. Parents P t k.at k.count) c w g cells w' g' cells' r (doing w g c.operands I) → Quick b t code y at n used w g cells w' g' cells' r
    unfolding size_at
    quick_arm v e ez lz low m ek ec h =
        quick_by (ap (λ (i : ℕ). length_of (row_of i)) e ∙ ez) lz low
        (λ P known. ap (λ (i : ℕ). made P (resolved_in b t y.class) i (get_or code (at + 1) 0) (get_or code (at + 2) 0) at) e ∙ m P) ek ec h

-- a field by the word of what the operand bytes name
module _ (b t code : List ℕ) (y : Ground) (at r : ℕ) (f : Field) (e : r ≡ word_of t y.class (get_or code (at + 1) 0 * 256 + get_or code (at + 2) 0)) (q : r % 8 ≡ 3) (h : field_of f ≡ field_in r) (P : Program) where
  pub made_get : made P (resolved_in b t y.class) 0xb4 (get_or code (at + 1) 0) (get_or code (at + 2) 0) at ≡ getfield (field_of f)
  unfolding made row_of row_in rows resolved_as
  made_get = rw (← e, q, h)

  pub made_put : made P (resolved_in b t y.class) 0xb5 (get_or code (at + 1) 0) (get_or code (at + 2) 0) at ≡ putfield (field_of f)
  unfolding made row_of row_in rows resolved_as
  made_put = rw (← e, q, h)
