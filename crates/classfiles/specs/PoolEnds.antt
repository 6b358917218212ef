-- What the readings of a pool and of its indices give, and where they end. Assumes nothing.
use Rattle.std.specs.Prelude.{ℕ, ◌-◌, ◌≤◌, ◌≡◌, refl, List, [], ◌∷◌, Bool, true, false, cond, length, ltb, eqb}
use Rattle.std.proofs.Common.{sym}
use Rattle.kit.specs.Scan.{first_not}
use Rattle.classfiles.specs.Limits.{max_pool_count}
use Rattle.texts.specs.Reading.{Res, ok, bad, pre, many, u2}
use Rattle.texts.specs.Ends.{Holds, holds_of, then-holds, cond-holds, Ends, ends_of, kept_ends, cond_ends, pre_ends, many_ends, IsU2, u2-holds}
use Rattle.classfiles.specs.Pool.{Constant, entry, is_utf8, is_class, entry_at, entry_fault, judged_at, checked_at, constants, tags_at, pool_at, utf8_index_at, is_array_name, class_text, class_index_at}
use Rattle.classfiles.specs.Table.{entry-holds, IsEntry}

entry_ends : (s : List ℕ) (q : ℕ) → Ends (length s) (entry_at s q)
entry_ends s q = by (entry_at s q) (entry-holds s q)
  where
    by : (x : Res ℕ) → Holds (IsEntry s q) x → Ends (length s) x
    by (ok v e) h = h.1
    by (bad n p) h = tt

u2_ends : (s : List ℕ) (q : ℕ) → Ends (length s) (u2 s q)
u2_ends s q = by (u2 s q) (u2-holds s q)
  where
    by : (x : Res ℕ) → Holds (IsU2 s (length s) q) x → Ends (length s) x
    by (ok v e) h = h.2
    by (bad n p) h = tt

pub pool_ends : (s : List ℕ) (q : ℕ) → Ends (length s) (pool_at s q)
unfolding pool_at tags_at checked_at judged_at
pool_ends s q =
    kept_ends (length s) (u2 s q) _ (u2_ends s q)
    (λ n a h. cond_ends (length s) (eqb n 0) _ _ tt
    (cond_ends (length s) (ltb max_pool_count n) _ _ tt
    (kept_ends (length s) (pre (0 ∷ []) (many (entry_at s) (n - 1) a)) _
    (pre_ends (length s) (0 ∷ []) (many (entry_at s) (n - 1) a) (many_ends (length s) (entry_at s) (entry_ends s) (n - 1) a h))
    (λ tags e g. cond_ends (length s) (ltb (first_not (λ i. eqb (entry_fault (constants s tags) i) 0) (length (constants s tags)) 0) (length (constants s tags))) _ _ tt g))))

-- the code's answers
pub pool_end : (s : List ℕ) (q a : ℕ) (p : List Constant) → ok p a ≡ pool_at s q → a ≤ length s
pool_end s q a p h = ends_of (length s) (pool_at s q) p a (pool_ends s q) (sym h)

-- an index of a Utf8: the number, where it ends, and the kind of its entry
abbrev pub IsUtf8Index : List ℕ → List Constant → ℕ → ℕ → ℕ → Type 0
IsUtf8Index s pool q v e = IsU2 s (length s) q v e × (is_utf8 (entry pool v) ≡ true)

utf8-index-holds : (s : List ℕ) (pool : List Constant) (q : ℕ) → Holds (IsUtf8Index s pool q) (utf8_index_at s pool q)
unfolding utf8_index_at
utf8-index-holds s pool q =
    then-holds (IsU2 s (length s) q) (IsUtf8Index s pool q) (u2 s q) _ (u2-holds s q) (λ i e h. by i e h (is_utf8 (entry pool i)) refl)
  where
    by : (i e : ℕ) → IsU2 s (length s) q i e → (t : Bool) → is_utf8 (entry pool i) ≡ t → Holds (IsUtf8Index s pool q) (cond t (ok i e) (bad 5 q))
    by i e h true k = (h, k)
    by i e h false k = tt

pub utf8-index_val : (s : List ℕ) (pool : List Constant) (q : ℕ) (v a : ℕ) → ok v a ≡ utf8_index_at s pool q → IsUtf8Index s pool q v a
utf8-index_val s pool q v a h = holds_of (IsUtf8Index s pool q) (utf8_index_at s pool q) v a (utf8-index-holds s pool q) (sym h)

-- an index of a Class
abbrev pub IsClassIndex : List Constant → ℕ → ℕ → ℕ → ℕ → Type 0
IsClassIndex pool i e v f = (v ≡ i) × (f ≡ e) × (is_class (entry pool i) ≡ true)

class-index-holds : (s : List ℕ) (pool : List Constant) (q i e : ℕ) → Holds (IsClassIndex pool i e) (class_index_at s pool q i e)
unfolding class_index_at
class-index-holds s pool q i e = by (is_class (entry pool i)) refl
  where
    by : (t : Bool) → is_class (entry pool i) ≡ t → Holds (IsClassIndex pool i e) (cond t (cond (is_array_name (class_text pool i)) (bad 7 q) (ok i e)) (bad 5 q))
    by true k = cond-holds (IsClassIndex pool i e) (is_array_name (class_text pool i)) (bad 7 q) (ok i e) tt (refl, refl, k)
    by false k = tt

pub class-index_val : (s : List ℕ) (pool : List Constant) (q i e v a : ℕ) → ok v a ≡ class_index_at s pool q i e → IsClassIndex pool i e v a
class-index_val s pool q i e v a h =
    holds_of (IsClassIndex pool i e) (class_index_at s pool q i e) v a (class-index-holds s pool q i e) (sym h)
