-- A frame table that was read: each frame stands at an instruction and is no deeper than max_stack.
use Prim.Native.Nat.{ℕ, zero, suc, ◌+◌, ◌≤◌}
use Rattle.std.proofs.Math.Path.{◌≡◌, refl}
use Rattle.std.specs.Prelude.{Bool, cond, get_or, T, eqb, leb, ltb}
use Rattle.std.proofs.Math.Bool.{true, false}
use mathlib.Core.List.{List, [], ◌∷◌}
use Rattle.std.proofs.Math.Option.{none, some}
use Rattle.std.proofs.Common.{arith, eqb→eq}
use Rattle.std.proofs.Math.ListN.{length}
use Rattle.std.proofs.lemmas.List.{length-reverse}
use Rattle.std.proofs.Math.Dec.{leb→le}
use Rattle.classfiles.specs.Limits.{max_frames}
use Rattle.texts.specs.Reading.{Res, ok, bad, and_then, pre, num2_at}
use Rattle.classfiles.specs.Members.{Found, none, once, twice}
use Rattle.reader.specs.Program.{Program, Method}
use Rattle.rules.specs.Opcodes.{body}
use Rattle.rules.specs.Lines.{lines, is_start}
use Rattle.rules.specs.Types.{Ty}
use Rattle.rules.specs.States.{State, stack, parameter_tys}
use Rattle.rules.specs.Frames.{Frame, frame, Written, form_at, good, judged, frame_at, state_of, frames_from, table_at, frames_in, frames}
use Rattle.rules.specs.Walk.{frame_at as state_at}
use Rattle.facts.specs.Parsing.{not_ok}
use Rattle.facts.specs.Base.{first_of, second_of}

pub record Stands (P : Program) (M : Method) (o : ℕ) (F : State) : Type 0 where
  pub start : T (is_start (lines P M) o)
  pub deep : length (stack F) ≤ (body M).max_stack

pub data Table (P : Program) (M : Method) : List Frame → Type 0 where
  tnil : Table P M []
  tcons : {o : ℕ} {F : State} {fs : List Frame} → Stands P M o F → Table P M fs → Table P M (frame o F ∷ fs)

module _ (P : Program) (M : Method) (t : List ℕ) where
  stands : (k o : ℕ) (w : Written) → T (good P M (lines P M) t k o w) → Stands P M o (state_of M w)
  unfolding good state_of
  stands k o w h =
      let a = second_of (is_start (lines P M) o) _ h in
      let b = second_of (leb (length w.locals) (body M).max_locals) _ a in
      let c : length w.stack ≤ (body M).max_stack = leb→le (length w.stack) (body M).max_stack (first_of (leb (length w.stack) (body M).max_stack) _ b) in
      record { start = first_of (is_start (lines P M) o) _ h; deep = rw (length-reverse w.stack) c }

  -- one frame
  framed : (k from : ℕ) (l : List Ty) (q : ℕ) (w : Written) (e : ℕ) → frame_at P M (lines P M) t k from l q ≡ ok w e → Stands P M (from + w.delta) (state_of M w)
  unfolding frame_at judged and_then
  framed k from l q w e h = go (ltb q (length t)) h
    where
      last : (v : Written) (z : ℕ) (b : Bool) → good P M (lines P M) t k (from + v.delta) v ≡ b → ◌≡◌ {A = Res Written} (cond b (ok v z) (bad 14 k)) (ok w e) → Stands P M (from + w.delta) (state_of M w)
      last v z true p h = let y : v ≡ w = cc in rw (← y) (stands k (from + v.delta) v (rw p tt))
      last v z false p h = not_ok 14 k e w h

      on : (r : Res Written) → ◌≡◌ {A = Res Written} (and_then r λ v z. judged P M (lines P M) t k (from + v.delta) v z) (ok w e) → Stands P M (from + w.delta) (state_of M w)
      on (ok v z) h = last v z (good P M (lines P M) t k (from + v.delta) v) refl h
      on (bad n p) h = not_ok n p e w h

      go : (b : Bool) → ◌≡◌ {A = Res Written} (cond b (and_then (form_at P M (lines P M) t k (get_or t q 0) l (q + 1)) λ v z. judged P M (lines P M) t k (from + v.delta) v z) (bad 14 k)) (ok w e)
          → Stands P M (from + w.delta) (state_of M w)
      go true h = on (form_at P M (lines P M) t k (get_or t q 0) l (q + 1)) h
      go false h = not_ok 14 k e w h

  tabled : (n k from : ℕ) (l : List Ty) (q : ℕ) (fs : List Frame) (e : ℕ) → frames_from P M (lines P M) t n k from l q ≡ ok fs e → Table P M fs
  unfolding frames_from and_then pre
  tabled zero k from l q fs e h = go (eqb q (length t)) h
    where
      go : (b : Bool) → ◌≡◌ {A = Res (List Frame)} (cond b (ok [] q) (bad 14 k)) (ok fs e) → Table P M fs
      go true h = let y : [] ≡ fs = cc in rw (← y) tnil
      go false h = not_ok 14 k e fs h
  tabled (suc n) k from l q fs e h = go (λ w z gs y. tabled n (suc k) (suc (from + w.delta)) w.locals z gs y) (frame_at P M (lines P M) t k from l q) refl h
    where
      go : ((w : Written) (z : ℕ) (gs : List Frame) (y : ℕ) → frames_from P M (lines P M) t n (suc k) (suc (from + w.delta)) w.locals z ≡ ok gs y → Table P M gs)
          → (r : Res Written) → frame_at P M (lines P M) t k from l q ≡ r
          → ◌≡◌ {A = Res (List Frame)} (and_then r λ w z. pre (frame (from + w.delta) (state_of M w) ∷ []) (frames_from P M (lines P M) t n (suc k) (suc (from + w.delta)) w.locals z)) (ok fs e) → Table P M fs
      go ih (bad a p) q h = not_ok a p e fs h
      go ih (ok w z) p h = on (frames_from P M (lines P M) t n (suc k) (suc (from + w.delta)) w.locals z) refl h
        where
          on : (r : Res (List Frame)) → frames_from P M (lines P M) t n (suc k) (suc (from + w.delta)) w.locals z ≡ r → ◌≡◌ {A = Res (List Frame)} (pre (frame (from + w.delta) (state_of M w) ∷ []) r) (ok fs e) → Table P M fs
          on (ok gs y) r h = let x : frame (from + w.delta) (state_of M w) ∷ gs ≡ fs = cc in rw (← x) (tcons (framed k from l q w z p) (ih w z gs y r))
          on (bad a b) r h = not_ok a b e fs h

-- what `frames` gives
pub table_ok : (P : Program) (M : Method) (fs : List Frame) (e : ℕ) → frames P M ≡ ok fs e → Table P M fs
unfolding frames table_at and_then
table_ok P M fs e h = go (body M).frames h
  where
    empty : (e : ℕ) (q : ℕ) → ◌≡◌ {A = Res (List Frame)} (ok [] q) (ok fs e) → Table P M fs
    empty e q h = let y : [] ≡ fs = cc in rw (← y) tnil

    few : (t : List ℕ) (n a : ℕ) (b : Bool) → ◌≡◌ {A = Res (List Frame)} (cond b (bad 14 0) (frames_from P M (lines P M) t n 0 0 (parameter_tys M) a)) (ok fs e) → Table P M fs
    few t n a true h = not_ok 14 0 e fs h
    few t n a false h = tabled P M t n 0 0 (parameter_tys M) a fs e h

    on : (t : List ℕ) (r : Res ℕ) → ◌≡◌ {A = Res (List Frame)} (and_then r λ n a. cond (ltb max_frames n) (bad 14 0) (frames_from P M (lines P M) t n 0 0 (parameter_tys M) a)) (ok fs e) → Table P M fs
    on t (ok n a) h = few t n a (ltb max_frames n) h
    on t (bad n p) h = not_ok n p e fs h

    go : (f : Found (List ℕ)) → frames_in P M (lines P M) f ≡ ok fs e → Table P M fs
    go none h = empty e 0 h
    go (once t) h = on t (num2_at t (length t) 14 0 0) h
    go twice h = empty e 0 h

-- a frame that is found
pub found_stands : {P : Program} {M : Method} {fs : List Frame} → Table P M fs → (t : ℕ) (F : State) → state_at fs t ≡ some F → Stands P M t F
unfolding state_at
found_stands tnil t F e = let z : ◌≡◌ {A = ℕ} 0 1 = cc in absurd (omega arith)
found_stands {P} {M} (tcons {o} {F = G} {fs} x xs) t F e = go (found_stands xs t F) (eqb o t) refl e
  where
    go : (state_at fs t ≡ some F → Stands P M t F) → (b : Bool) → eqb o t ≡ b → cond b (some G) (state_at fs t) ≡ some F → Stands P M t F
    go ih true p e = let y : G ≡ F = cc in let z : o ≡ t = eqb→eq o t (rw p tt) in rw (← y, ← z) x
    go ih false p e = ih e
