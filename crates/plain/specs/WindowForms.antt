-- The forms that touch the running call's window alone, by the code's tests. Assumes nothing.
use Rattle.std.specs.Prelude.{Ok, Err, ◌≡◌, ℕ, zero, suc, ◌+◌, ◌-◌, ◌<◌, ◌≤◌, Bool, true, false, cond, not, List, ◌∷◌, length, ◌==◌, nat_le, nat_lt, slice_index, slice_set}
use Rattle.std.proofs.Common.{sym, ◌∙◌, zero-add, length-set, refl, ap, subst, arith, le-leb, eqb-true, ltb-true, leb-true}
use borrow.Author.Tests.{lt-leb, not-false}
use Rattle.reader.specs.Program.{Program}
use Rattle.reader.specs.BuiltIns.{arithmetic}
use Rattle.rules.specs.Instruction.{Instr, swap, dupx1, Op, add, Division, Test, nop, aconstnull, pop, dup, ineg, iconst, iload, aload, istore, astore, goto, iinc, ibin, idiv, ifint, ificmp}
use Rattle.plain.specs.Integers.{compute, divided, holds, negated, wrap}
use Rattle.plain.specs.Heap.{Val, empty, num, ref, is_ref}
use Rattle.plain.specs.Machine.{stuck, Result, stopped, Here, only, pop_any, pop_int, with_int, local_at, go_on, push, branch, set_locals, fault}
use Rattle.plain.specs.Step.{execute}
use Rattle.plain.specs.ValueLaws.{value_of, ref_tag, value_ref}
use Rattle.plain.specs.Windows.{Turn, val_at, locs_of, ops_of, length_ops, Sized, Stands, Goes, ops_put, locs_put, going, pushing, storing, choosing, either, faulting, local-at}
use Rattle.plain.specs.Turns.{By, alike, halted, ops_two, push_low, push_as, store_as, go_low, go_next, store_low, pick_so, pick_not, zero_so, zero_not, faulted, num_as}
use Rattle.plain.specs.declared.window.Place.{Place}
use Rattle.plain.specs.declared.window.Halt.TheVariants.{Stuck}

-- what an instruction does with n operands in the window
unfoldable pub doing : List ℕ → List ℕ → ℕ → Instr → Program → Here → Result
doing w g n i P x = execute P x (ops_of w g n) i

-- ---- tests: of the kind on top, of two ints, of a local's kind
unfoldable pub on_top : List ℕ → ℕ → ℕ → Bool
on_top g n k = cond (nat_le 1 n) (slice_index g (31 + n) == k) false

unfoldable pub two_ints : List ℕ → ℕ → Bool
two_ints g n = cond (nat_le 2 n) (cond (slice_index g (31 + n) == 1) (slice_index g (30 + n) == 1) false) false

unfoldable pub in_local : List ℕ → ℕ → ℕ → ℕ → Bool
in_local g m j k = cond (nat_lt j m) (slice_index g j == k) false

-- ---- a value by its kind
pub int_by : (k v : ℕ) (f : ℕ → Result) → with_int (value_of k v) f ≡ only (k == 1) (f v)
unfolding value_of
int_by k v f = go (k == 1) (k == 2)
  where
    go : (a b : Bool) → with_int (cond a (num v) (cond b (ref v) empty)) f ≡ only a (f v)
    go true b = refl
    go false true = refl
    go false false = refl

-- a reference by its kind, where what follows sees the value
pub ref-by : (k v : ℕ) (f : Val → Result) → only (is_ref (value_of k v)) (f (value_of k v)) ≡ only (k == 2) (f (ref v))
ref-by k v f = go (k == 2) refl
  where
    go : (b : Bool) → (k == 2) ≡ b → only (is_ref (value_of k v)) (f (value_of k v)) ≡ only b (f (ref v))
    go true e = rw (value_ref k v (eqb-true k 2 e))
    go false e = rw (← ref_tag k v, e)

-- ---- operands by their number
module _ (w g : List ℕ) where
  pub any_by : (n : ℕ) (f : Val → List Val → Result) → pop_any (ops_of w g n) f ≡ only (nat_le 1 n) (f (val_at w g (31 + n)) (ops_of w g (n - 1)))
  unfolding ops_of
  any_by zero f = refl
  any_by (suc n) f =
      let e : 31 + suc n ≡ 32 + n = omega arith in
      let d : suc n - 1 ≡ n = omega arith in
      rw (le-leb 1 (suc n) (omega arith), e, d)

  pub int-top : (n : ℕ) (f : ℕ → List Val → Result) → pop_int (ops_of w g n) f ≡ only (on_top g n 1) (f (slice_index w (31 + n)) (ops_of w g (n - 1)))
  unfolding ops_of on_top
  int-top zero f = refl
  int-top (suc n) f =
      let e : 31 + suc n ≡ 32 + n = omega arith in
      let d : suc n - 1 ≡ n = omega arith in
      rw (le-leb 1 (suc n) (omega arith), e, d) (int_by (slice_index g (32 + n)) (slice_index w (32 + n)) (λ a. f a (ops_of w g n)))

  pub ints_top : (n : ℕ) (f : ℕ → ℕ → List Val → Result)
      → pop_int (ops_of w g n) (λ b r. pop_int r λ a q. f a b q) ≡ only (two_ints g n) (f (slice_index w (30 + n)) (slice_index w (31 + n)) (ops_of w g (n - 2)))
  unfolding two_ints on_top
  ints_top n f = int-top n (λ b r. pop_int r λ a q. f a b q) ∙ ap (only (on_top g n 1)) (int-top (n - 1) (λ a q. f a (slice_index w (31 + n)) q)) ∙ go n
    where
      both : (a b c : Bool) (z : Result) → only (cond a b false) (only c z) ≡ only (cond a (cond b c false) false) z
      both true true c z = refl
      both true false c z = refl
      both false b c z = refl

      go : (n : ℕ) → only (cond (nat_le 1 n) (slice_index g (31 + n) == 1) false)
          (only (cond (nat_le 1 (n - 1)) (slice_index g (31 + (n - 1)) == 1) false) (f (slice_index w (31 + (n - 1))) (slice_index w (31 + n)) (ops_of w g (n - 1 - 1))))
          ≡ only (cond (nat_le 2 n) (cond (slice_index g (31 + n) == 1) (slice_index g (30 + n) == 1) false) false) (f (slice_index w (30 + n)) (slice_index w (31 + n)) (ops_of w g (n - 2)))
      go zero = refl
      go (suc zero) = stop (slice_index g (31 + suc zero) == 1)
        where
          stop : (b : Bool) → only b (stopped stuck) ≡ stopped stuck
          stop true = refl
          stop false = refl
      go (suc (suc n)) =
          let d : suc (suc n) - 1 ≡ suc n = omega arith in
          let d2 : suc n - 1 ≡ n = omega arith in
          let d3 : suc (suc n) - 2 ≡ n = omega arith in
          let e : 31 + suc n ≡ 30 + suc (suc n) = omega arith in
          rw (d, d2, d3, e, le-leb 1 (suc (suc n)) (omega arith), le-leb 1 (suc n) (omega arith), le-leb 2 (suc (suc n)) (omega arith))
          (both true (slice_index g (31 + suc (suc n)) == 1) (slice_index g (30 + suc (suc n)) == 1) (f (slice_index w (30 + suc (suc n))) (slice_index w (31 + suc (suc n))) (ops_of w g n)))

  pub ref-top : (n : ℕ) (f : Val → List Val → Result) → pop_any (ops_of w g n) (λ v r. only (is_ref v) (f v r)) ≡ only (on_top g n 2) (f (ref (slice_index w (31 + n))) (ops_of w g (n - 1)))
  unfolding ops_of on_top
  ref-top zero f = refl
  ref-top (suc n) f =
      let e : 31 + suc n ≡ 32 + n = omega arith in
      let d : suc n - 1 ≡ n = omega arith in
      rw (le-leb 1 (suc n) (omega arith), e, d) (ref-by (slice_index g (32 + n)) (slice_index w (32 + n)) (λ v. f v (ops_of w g n)))

-- ---- forms
module _ (c : Place) (w g : List ℕ) where
  pub nop_on : (w' g' : List ℕ) (r : Turn) → Goes c w g w' g' r (going c.after w g c.operands) → Goes c w g w' g' r (doing w g c.operands nop)
  unfolding doing going execute
  nop_on w' g' r k = alike c w g w' g' r (going c.after w g c.operands) (doing w g c.operands nop) (λ P x cells s. rw s.after) k

  pub goto_on : (w' g' : List ℕ) (r : Turn) (t : ℕ) → Goes c w g w' g' r (going t w g c.operands) → Goes c w g w' g' r (doing w g c.operands (goto t))
  unfolding doing going execute
  goto_on w' g' r t k = k

  pub const_on : (w' g' : List ℕ) (r : Turn) (v : Val) (a : ℕ) → v ≡ num a → Goes c w g w' g' r (pushing v w g c.operands) → Goes c w g w' g' r (doing w g c.operands (iconst a))
  unfolding doing pushing execute
  const_on w' g' r v a e k = subst (λ (u : Val). Goes c w g w' g' r (pushing u w g c.operands)) e k

  pub null_on : (w' g' : List ℕ) (r : Turn) (v : Val) → v ≡ ref 0 → Goes c w g w' g' r (pushing v w g c.operands) → Goes c w g w' g' r (doing w g c.operands aconstnull)
  unfolding doing pushing execute
  null_on w' g' r v e k = subst (λ (u : Val). Goes c w g w' g' r (pushing u w g c.operands)) e k

  pub pop_by : By c w g (doing w g c.operands pop) (nat_le 1 c.operands) (going c.after w g (c.operands - 1))
  unfolding doing going execute
  pop_by = record { is = λ P x cells s. subst (λ (o : ℕ). doing w g c.operands pop P x ≡ only (nat_le 1 c.operands) (go_on P x x.heap o x.locals (ops_of w g (c.operands - 1)))) s.after (any_by w g c.operands (λ v r. push P x r)) }

  top_again : (n : ℕ) → val_at w g (32 + n) ∷ ops_of w g n ≡ ops_of w g (suc n)
  unfolding ops_of
  top_again n = refl

  pub dup_by : By c w g (doing w g c.operands dup) (nat_le 1 c.operands) (pushing (val_at w g (31 + c.operands)) w g c.operands)
  unfolding doing pushing execute
  dup_by = record { is = λ P x cells s. any_by w g c.operands (λ v r. push P x (v ∷ v ∷ r)) ∙ again P x c.operands }
    where
      again : (P : Program) (x : Here) (n : ℕ)
          → only (nat_le 1 n) (push P x (val_at w g (31 + n) ∷ val_at w g (31 + n) ∷ ops_of w g (n - 1))) ≡ only (nat_le 1 n) (push P x (val_at w g (31 + n) ∷ ops_of w g n))
      again P x zero = refl
      again P x (suc n) =
          let e : 31 + suc n ≡ 32 + n = omega arith in
          let d : suc n - 1 ≡ n = omega arith in
          rw (e, d) (ap (λ (l : List Val). only (nat_le 1 (suc n)) (push P x (val_at w g (32 + n) ∷ l))) (top_again n))

  pub neg_by : By c w g (doing w g c.operands ineg) (on_top g c.operands 1) (pushing (num (negated (slice_index w (31 + c.operands)))) w g (c.operands - 1))
  unfolding doing pushing execute
  neg_by = record { is = λ P x cells s. int-top w g c.operands (λ a r. push P x (num (negated a) ∷ r)) }

  pub bin_by : (f : Op) → By c w g (doing w g c.operands (ibin f)) (two_ints g c.operands) (pushing (num (compute f (slice_index w (30 + c.operands)) (slice_index w (31 + c.operands)))) w g (c.operands - 2))
  unfolding doing pushing execute
  bin_by f = record { is = λ P x cells s. ints_top w g c.operands (λ a b r. push P x (num (compute f a b) ∷ r)) }

  pub div_by : (f : Division)
      → By c w g (doing w g c.operands (idiv f)) (two_ints g c.operands)
      (either (slice_index w (31 + c.operands) == 0) (faulting arithmetic) (pushing (num (divided f (slice_index w (30 + c.operands)) (slice_index w (31 + c.operands)))) w g (c.operands - 2)))
  unfolding doing pushing either faulting execute
  div_by f = record { is = λ P x cells s. ints_top w g c.operands (λ a b r. cond (b == 0) (fault P x arithmetic) (push P x (num (divided f a b) ∷ r))) }

  pub if_by : (f : Test) (t : ℕ) → By c w g (doing w g c.operands (ifint f t)) (on_top g c.operands 1) (choosing (holds f (slice_index w (31 + c.operands)) 0) t w g (c.operands - 1))
  unfolding doing choosing execute
  if_by f t = record { is = λ P x cells s. int-top w g c.operands (λ a r. branch P x (holds f a 0) t r) }

  pub cmp_by : (f : Test) (t : ℕ)
      → By c w g (doing w g c.operands (ificmp f t)) (two_ints g c.operands) (choosing (holds f (slice_index w (30 + c.operands)) (slice_index w (31 + c.operands))) t w g (c.operands - 2))
  unfolding doing choosing execute
  cmp_by f t = record { is = λ P x cells s. ints_top w g c.operands (λ a b r. branch P x (holds f a b) t r) }

  -- ---- locals
  module _ (j : ℕ) where
    local_val : (P : Program) (x : Here) (cells : List ℕ) → Stands P x c w g cells → local_at x.locals j ≡ cond (nat_lt j c.locals) (val_at w g j) empty
    local_val P x cells s = rw s.locals (local-at w g 0 c.locals j ∙ rw (zero-add j))

    int-local : (l : Bool) (f : ℕ → Result) → with_int (cond l (val_at w g j) empty) f ≡ only (cond l (slice_index g j == 1) false) (f (slice_index w j))
    int-local true f = int_by (slice_index g j) (slice_index w j) f
    int-local false f = refl

    pub iload_by : By c w g (doing w g c.operands (iload j)) (in_local g c.locals j 1) (pushing (num (slice_index w j)) w g c.operands)
    unfolding doing pushing in_local execute
    iload_by = record { is = λ P x cells s. rw (local_val P x cells s) (int-local (nat_lt j c.locals) (λ a. push P x (num a ∷ ops_of w g c.operands))) }

    pub iinc_by : (k : ℕ) → By c w g (doing w g c.operands (iinc j k)) (in_local g c.locals j 1) (storing (num (compute add (slice_index w j) k)) j w g c.operands)
    unfolding doing storing in_local execute compute
    iinc_by k = record { is = λ P x cells s. rw (local_val P x cells s) (int-local (nat_lt j c.locals) (λ a. set_locals P x (slice_set x.locals j (num (wrap (a + k)))) (ops_of w g c.operands))) }

    pub istore_by : By c w g (doing w g c.operands (istore j)) (on_top g c.operands 1) (storing (num (slice_index w (31 + c.operands))) j w g (c.operands - 1))
    unfolding doing storing execute
    istore_by = record { is = λ P x cells s. int-top w g c.operands (λ a r. set_locals P x (slice_set x.locals j (num a)) r) }

    ref_local : (l : Bool) (f : Val → Result) → only (is_ref (cond l (val_at w g j) empty)) (f (cond l (val_at w g j) empty)) ≡ only (cond l (slice_index g j == 2) false) (f (ref (slice_index w j)))
    ref_local true f = ref-by (slice_index g j) (slice_index w j) f
    ref_local false f = refl

    pub aload_by : By c w g (doing w g c.operands (aload j)) (in_local g c.locals j 2) (pushing (ref (slice_index w j)) w g c.operands)
    unfolding doing pushing in_local execute
    aload_by = record { is = λ P x cells s. rw (local_val P x cells s) (ref_local (nat_lt j c.locals) (λ v. push P x (v ∷ ops_of w g c.operands))) }

    pub astore_by : By c w g (doing w g c.operands (astore j)) (on_top g c.operands 2) (storing (ref (slice_index w (31 + c.operands))) j w g (c.operands - 1))
    unfolding doing storing execute
    astore_by = record { is = λ P x cells s. ref-top w g c.operands (λ v r. set_locals P x (slice_set x.locals j v) r) }

-- ---- two operands changed places; a third put under them
module _ (c : Place) (w g : List ℕ) where
  abbrev top_cell : ℕ
  top_cell = slice_index w (31 + c.operands)

  abbrev top_tag : ℕ
  top_tag = slice_index g (31 + c.operands)

  abbrev next_cell : ℕ
  next_cell = slice_index w (30 + c.operands)

  abbrev next_tag : ℕ
  next_tag = slice_index g (30 + c.operands)

  abbrev pub turned_words : List ℕ
  turned_words = slice_set (slice_set w (30 + c.operands) top_cell) (31 + c.operands) next_cell

  abbrev pub turned_tags : List ℕ
  turned_tags = slice_set (slice_set g (30 + c.operands) top_tag) (31 + c.operands) next_tag

  two_by : (f : Val → Val → List Val → Result) (n : ℕ) → pop_any (ops_of w g n) (λ v r. pop_any r λ u q. f v u q) ≡ only (nat_le 2 n) (f (val_at w g (31 + n)) (val_at w g (30 + n)) (ops_of w g (n - 2)))
  unfolding ops_of
  two_by f zero = refl
  two_by f (suc zero) = refl
  two_by f (suc (suc n)) =
      let e : 31 + suc (suc n) ≡ 32 + suc n = omega arith in
      let e2 : 30 + suc (suc n) ≡ 32 + n = omega arith in
      let d : suc (suc n) - 2 ≡ n = omega arith in
      rw (le-leb 2 (suc (suc n)) (omega arith), e, e2, d)

  few_two : (i : Instr) (f : Program → Here → Val → Val → List Val → Result) → ((P : Program) (x : Here) → doing w g c.operands i P x ≡ pop_any (ops_of w g c.operands) (λ v r. pop_any r λ u q. f P x v u q))
      → c.operands < 2 → Goes c w g w g (Err Stuck) (doing w g c.operands i)
  few_two i f h l = halted c w g _ (λ P x cells s. h P x ∙ two_by (f P x) c.operands ∙ rw (lt-leb 2 c.operands l))

  turned_ops : (n : ℕ) → c.operands ≡ suc (suc n) → Sized c w g → ops_of turned_words turned_tags (suc (suc n)) ≡ val_at w g (30 + c.operands) ∷ val_at w g (31 + c.operands) ∷ ops_of w g n
  turned_ops n e z =
      let i : 30 + c.operands ≡ 32 + n = omega arith in
      let j : 31 + c.operands ≡ 33 + n = omega arith in
      let hw : 33 + n < length w = rw z.words (omega (arith, z.operands)) in
      let hg : 33 + n < length g = rw z.tags (omega (arith, z.operands)) in
      rw (i, j) (ops_two w g n (slice_index w (33 + n)) (slice_index g (33 + n)) (slice_index w (32 + n)) (slice_index g (32 + n)) hw hg)

  turned_locs : (n : ℕ) → c.operands ≡ suc (suc n) → c.locals ≤ 32 → locs_of turned_words turned_tags c.locals ≡ locs_of w g c.locals
  turned_locs n e z =
      let i : 30 + c.operands ≡ 32 + n = omega arith in
      let j : 31 + c.operands ≡ 32 + suc n = omega arith in
      rw (i, j) (locs_put (slice_set w (32 + n) (slice_index w (32 + suc n))) (slice_set g (32 + n) (slice_index g (32 + suc n))) (suc n) (slice_index w (32 + n)) (slice_index g (32 + n)) c.locals z
      ∙ locs_put w g n (slice_index w (32 + suc n)) (slice_index g (32 + suc n)) c.locals z)

  pub swap_few : c.operands < 2 → Goes c w g w g (Err Stuck) (doing w g c.operands swap)
  unfolding doing execute
  swap_few = few_two swap (λ P x v u q. push P x (u ∷ v ∷ q)) (λ P x. refl)

  pub dupx1_few : c.operands < 2 → Goes c w g w g (Err Stuck) (doing w g c.operands dupx1)
  unfolding doing execute
  dupx1_few = few_two dupx1 (λ P x v u q. push P x (v ∷ u ∷ v ∷ q)) (λ P x. refl)

  pub swap_high : 2 ≤ c.operands → c.most < c.operands → Goes c w g w g (Err Stuck) (doing w g c.operands swap)
  unfolding doing execute go_on
  swap_high h l =
      let d : suc (suc (c.operands - 2)) ≡ c.operands = omega arith in
      halted c w g _ (λ P x cells s. two_by (λ v u q. push P x (u ∷ v ∷ q)) c.operands ∙ rw (le-leb 2 c.operands h, length_ops w g (c.operands - 2), d, s.most, lt-leb c.operands c.most l))

  swap_on : 2 ≤ c.operands → c.operands ≤ c.most → Sized c w g → Goes c w g turned_words turned_tags (Ok (record { at = c.after; operands = c.operands; used = c.used })) (doing w g c.operands swap)
  unfolding doing execute go_on
  swap_on h l z =
      let d : suc (suc (c.operands - 2)) ≡ c.operands = omega arith in
      let o : ops_of turned_words turned_tags c.operands ≡ val_at w g (30 + c.operands) ∷ val_at w g (31 + c.operands) ∷ ops_of w g (c.operands - 2) =
      ap (ops_of turned_words turned_tags) (sym d) ∙ turned_ops (c.operands - 2) (sym d) z in
      record {
        is = λ P x cells s. rw (two_by (λ v u q. push P x (u ∷ v ∷ q)) c.operands, le-leb 2 c.operands h, length_ops w g (c.operands - 2), d, s.most, le-leb c.operands c.most l, s.heap, s.locals, s.after, o, turned_locs (c.operands - 2) (sym d) z.locals);
        kept = λ h e. absurd cc;
        room = z.operands;
      }

  pub dupx1_high : 2 ≤ c.operands → c.most ≤ c.operands → Goes c w g w g (Err Stuck) (doing w g c.operands dupx1)
  unfolding doing execute go_on
  dupx1_high h l =
      let d : suc (suc (suc (c.operands - 2))) ≡ suc c.operands = omega arith in
      halted c w g _ (λ P x cells s. two_by (λ v u q. push P x (v ∷ u ∷ v ∷ q)) c.operands ∙ rw (le-leb 2 c.operands h, length_ops w g (c.operands - 2), d, s.most, lt-leb (suc c.operands) c.most (omega arith)))

  dupx1_on : 2 ≤ c.operands → c.operands < c.most → Sized c w g
      → Goes c w g (slice_set turned_words (32 + c.operands) top_cell) (slice_set turned_tags (32 + c.operands) top_tag) (Ok (record { at = c.after; operands = c.operands + 1; used = c.used })) (doing w g c.operands dupx1)
  unfolding doing execute go_on
  dupx1_on h l z =
      let d : suc (suc (c.operands - 2)) ≡ c.operands = omega arith in
      let d3 : suc (suc (suc (c.operands - 2))) ≡ suc c.operands = omega arith in
      let n1 : c.operands + 1 ≡ suc c.operands = omega arith in
      let o : ops_of turned_words turned_tags c.operands ≡ val_at w g (30 + c.operands) ∷ val_at w g (31 + c.operands) ∷ ops_of w g (c.operands - 2) =
      ap (ops_of turned_words turned_tags) (sym d) ∙ turned_ops (c.operands - 2) (sym d) z in
      let hw : 32 + c.operands < length turned_words = simp (length-set) (rw z.words (omega (arith, z.most))) in
      let hg : 32 + c.operands < length turned_tags = simp (length-set) (rw z.tags (omega (arith, z.most))) in
      let p : ops_of (slice_set turned_words (32 + c.operands) top_cell) (slice_set turned_tags (32 + c.operands) top_tag) (suc c.operands) ≡ val_at w g (31 + c.operands) ∷ val_at w g (30 + c.operands) ∷ val_at w g (31 + c.operands) ∷ ops_of w g (c.operands - 2) =
      ops_put turned_words turned_tags c.operands top_cell top_tag hw hg ∙ ap (λ (t : List Val). val_at w g (31 + c.operands) ∷ t) o in
      record {
        is = λ P x cells s. rw (two_by (λ v u q. push P x (v ∷ u ∷ v ∷ q)) c.operands, le-leb 2 c.operands h, length_ops w g (c.operands - 2), d3, s.most, le-leb (suc c.operands) c.most (omega arith), s.heap, s.locals, s.after, n1, p, locs_put turned_words turned_tags c.operands top_cell top_tag c.locals z.locals, turned_locs (c.operands - 2) (sym d) z.locals);
        kept = λ h e. absurd cc;
        room = omega (arith, z.most);
      }

  -- as the code finds them
  pub swap_done : (w' g' : List ℕ) → 2 ≤ c.operands → c.operands ≤ c.most → Sized c w g → w' ≡ turned_words → g' ≡ turned_tags
      → Goes c w g w' g' (Ok (record { at = c.after; operands = c.operands; used = c.used })) (doing w g c.operands swap)
  swap_done w' g' h l z e f = rw (e, f) (swap_on h l z)

  pub dupx1_done : (w' g' : List ℕ) → 2 ≤ c.operands → c.operands < c.most → Sized c w g → w' ≡ turned_words → g' ≡ turned_tags
      → Goes c w g (slice_set w' (32 + c.operands) top_cell) (slice_set g' (32 + c.operands) top_tag) (Ok (record { at = c.after; operands = c.operands + 1; used = c.used })) (doing w g c.operands dupx1)
  dupx1_done w' g' h l z e f = rw (e, f) (dupx1_on h l z)

pub ruleset turnings = (swap_few, swap_high, swap_done, dupx1_few, dupx1_high, dupx1_done)

-- ---- what the tests tell
first_true : (a t : Bool) → cond a t false ≡ true → a ≡ true
first_true true t e = refl
first_true false t e = e

module _ (g : List ℕ) (b : Bool) where
  pub top_there : (n k : ℕ) → not b ≡ false → b ≡ on_top g n k → 1 ≤ n
  unfolding on_top
  top_there n k q e = leb-true 1 n (first_true (nat_le 1 n) _ (sym e ∙ not-false b q))

  pub ints_there : (n : ℕ) → not b ≡ false → b ≡ two_ints g n → 2 ≤ n
  unfolding two_ints
  ints_there n q e = leb-true 2 n (first_true (nat_le 2 n) _ (sym e ∙ not-false b q))

  pub local_there : (m j k : ℕ) → not b ≡ false → b ≡ in_local g m j k → j < m
  unfolding in_local
  local_there m j k q e = ltb-true j m (first_true (nat_lt j m) _ (sym e ∙ not-false b q))

pub local_inside : (c : Place) (w g : List ℕ) (b : Bool) (j k : ℕ) → Sized c w g → not b ≡ false → b ≡ in_local g c.locals j k → j < length w
local_inside c w g b j k z q e = rw z.words (omega (arith, z.locals, local_there g b c.locals j k q e))

pub ruleset steps = (push_low, push_as, store_as, go_low, go_next, store_low, pick_so, pick_not, zero_so, zero_not, faulted, num_as, nop_on, goto_on, const_on, null_on)

pub ruleset theres = (top_there, ints_there, local_there, local_inside)
