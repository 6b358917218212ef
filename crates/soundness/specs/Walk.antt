-- From the walk to the claims at each offset that control reaches.
use Rattle.std.specs.Prelude.{ℕ, zero, suc, ◌+◌, ◌≡◌, Bool, cond, length, leb, ltb}
use Rattle.std.proofs.Math.Path.{refl}
use Rattle.std.proofs.Math.Bool.{true, false}
use mathlib.Core.List.{List, [], ◌∷◌, ◌++◌}
use Rattle.std.proofs.Math.Option.{Option, none, some}
use Rattle.std.proofs.Common.{arith}
use Rattle.std.proofs.Math.Dec.{T, eqb, eqb→eq}
use Rattle.kit.specs.Claims.{Claim, AllT, label, label-all}
use Rattle.reader.specs.Verdicts.{Fault, fault_at}
use Rattle.reader.specs.Program.{Program, Method}
use Rattle.rules.specs.Instruction.{Instr, targets}
use Rattle.rules.specs.Opcodes.{body, code_of, instruction, size_at}
use Rattle.rules.specs.Lines.{Line, line, lines_from, lines, is_start}
use Rattle.rules.specs.States.{State, flag, stack, state_fits, start_state}
use Rattle.rules.specs.Frames.{Frame}
use Rattle.rules.specs.Rule.{rule}
use Rattle.rules.specs.Walk.{frame_at, into_frame, meets, merged, operands_fit, operand_claims, handlers_claims, branch_claims, instruction_claims, onward, walk, walk_claims}
use Rattle.facts.specs.Base.{AllT-left, AllT-right}

-- what the scan lists is what the machine fetches
pub data Lined (P : Program) (M : Method) : ℕ → List Line → Type 0 where
  lnil : {o : ℕ} → Lined P M o []
  lcons : {o : ℕ} {ls : List Line} → T (ltb o (length (code_of M))) → Lined P M (o + size_at (code_of M) o) ls
      → Lined P M o (line o (instruction P M o) (o + size_at (code_of M) o) ∷ ls)

pub lined : (P : Program) (M : Method) (n o : ℕ) → Lined P M o (lines_from P M n o)
unfolding lines_from
lined P M zero o = lnil
lined P M (suc n) o = go (lined P M n (o + size_at (code_of M) o)) (ltb o (length (code_of M))) refl
  where
    on : Lined P M (o + size_at (code_of M) o) (lines_from P M n (o + size_at (code_of M) o)) → (z : Bool)
        → Lined P M (o + size_at (code_of M) o) (cond z [] (lines_from P M n (o + size_at (code_of M) o)))
    on ih true = lnil
    on ih false = ih

    go : Lined P M (o + size_at (code_of M) o) (lines_from P M n (o + size_at (code_of M) o)) → (b : Bool) → ltb o (length (code_of M)) ≡ b
        → Lined P M o (cond b (line o (instruction P M o) (o + size_at (code_of M) o) ∷ cond (eqb (size_at (code_of M) o) 0) [] (lines_from P M n (o + size_at (code_of M) o))) [])
    go ih true e = lcons {o = o} (rw e tt) (on ih (eqb (size_at (code_of M) o) 0))
    go ih false e = lnil

-- all that the verifier has seen of the instruction i at o, in the state S
pub record Seen (P : Program) (M : Method) (fs : List Frame) (o : ℕ) (S : State) (i : Instr) : Type 0 where
  pub count : T (leb (length (rule P M o i S).takes) (length (stack S)))
  pub need : AllT (operands_fit P 0 (rule P M o i S).takes (stack S))
  pub ask : AllT (rule P M o i S).asks
  pub room : T (leb (length (stack (rule P M o i S).after)) (body M).max_stack)
  pub catch : AllT (handlers_claims P M fs o (flag S) (rule P M o i S).caught (body M).table)
  pub leaps : AllT (branch_claims P fs (rule P M o i S).after (targets i))
  pub rest : List Line
  pub linkage : Lined P M (o + size_at (code_of M) o) rest
  pub onward : AllT (walk P M fs rest (onward i (rule P M o i S).after))

pub record Here (P : Program) (M : Method) (fs : List Frame) (o : ℕ) (S : State) : Type 0 where
  pub inside : T (ltb o (length (code_of M)))
  pub seen : Seen P M fs o S (instruction P M o)

-- the state S is S', or fits it
pub data Into (P : Program) (S : State) : State → Type 0 where
  same : Into P S S
  fitted : {F : State} → AllT (state_fits P S F) → Into P S F

module _ (P : Program) (M : Method) (fs : List Frame) where
  here : (o : ℕ) (ls : List Line) (S : State) → T (ltb o (length (code_of M))) → Lined P M (o + size_at (code_of M) o) ls
      → AllT (instruction_claims P M fs o (instruction P M o) S) → AllT (walk P M fs ls (onward (instruction P M o) (rule P M o (instruction P M o) S).after))
      → Here P M fs o S
  unfolding instruction_claims
  here o ls S b k h w =
      let i = instruction P M o in
      let R = rule P M o i S in
      let x = AllT-left (operand_claims P (body M).max_stack (stack S) R) _ h in
      let y = AllT-right (operand_claims P (body M).max_stack (stack S) R) _ h in
      let z = AllT-right (operands_fit P 0 R.takes (stack S)) _ x.1 in
      record {
        inside = b;
        seen = record {
          count = x.0;
          need = AllT-left (operands_fit P 0 R.takes (stack S)) _ x.1;
          ask = AllT-left R.asks _ z;
          room = (AllT-right R.asks _ z).0;
          catch = AllT-left (handlers_claims P M fs o (flag S) R.caught (body M).table) _ y;
          leaps = AllT-right (handlers_claims P M fs o (flag S) R.caught (body M).table) _ y;
          rest = ls;
          linkage = k;
          onward = w;
        };
      }

  -- the claims of one line
  line-claims : (o : ℕ) (c : Option State) (F : Option State) (i : Instr) (w : List (Claim Fault)) → AllT (label (fault_at o) (meets P c F ++ instruction_claims P M fs o i (merged c F)) ++ w)
      → AllT (meets P c F) × AllT (instruction_claims P M fs o i (merged c F)) × AllT w
  line-claims o c F i w h =
      let a = label-all (fault_at o) (meets P c F ++ instruction_claims P M fs o i (merged c F)) (AllT-left (label (fault_at o) (meets P c F ++ instruction_claims P M fs o i (merged c F))) w h) in
      (AllT-left (meets P c F) _ a, AllT-right (meets P c F) _ a, AllT-right (label (fault_at o) (meets P c F ++ instruction_claims P M fs o i (merged c F))) w h)

  -- control falls from a state that was walked on
  pub fallen : (S : State) (n : ℕ) (ls : List Line) → Lined P M n ls → AllT (walk P M fs ls (some S)) → (S' : State) × Into P S S' × Here P M fs n S'
  unfolding walk
  fallen S n [] k h = absurd h.0
  fallen S n (line o i n' ∷ ls) (lcons b k) h = go (frame_at fs n) h
    where
      go : (F : Option State)
          → AllT (label (fault_at n) (meets P (some S) F ++ instruction_claims P M fs n (instruction P M n) (merged (some S) F))
          ++ walk P M fs ls (onward (instruction P M n) (rule P M n (instruction P M n) (merged (some S) F)).after))
          → (S' : State) × Into P S S' × Here P M fs n S'
      go none h = let a = line-claims n (some S) none (instruction P M n) _ h in (S, same, here n ls S b k a.1 a.2)
      go (some F) h = let a = line-claims n (some S) (some F) (instruction P M n) _ h in (F, fitted a.0, here n ls F b k a.1 a.2)

  -- a frame takes the state's place
  at_frame : (F : State) (f c : Option State) → f ≡ some F → (o : ℕ) (ls : List Line) → T (ltb o (length (code_of M))) → Lined P M (o + size_at (code_of M) o) ls
      → AllT (label (fault_at o) (meets P c f ++ instruction_claims P M fs o (instruction P M o) (merged c f)) ++ walk P M fs ls (onward (instruction P M o) (rule P M o (instruction P M o) (merged c f)).after))
      → Here P M fs o F
  at_frame F none c e o ls b k h = let z : ◌≡◌ {A = ℕ} 0 1 = cc in absurd (omega arith)
  at_frame F (some G) c e o ls b k h =
      let g : F ≡ G = cc in
      let a = line-claims o c (some G) (instruction P M o) _ h in
      rw g (go c a.1 a.2)
    where
      go : (c : Option State) → AllT (instruction_claims P M fs o (instruction P M o) (merged c (some G))) → AllT (walk P M fs ls (onward (instruction P M o) (rule P M o (instruction P M o) (merged c (some G))).after)) → Here P M fs o G
      go none x y = here o ls G b k x y
      go (some S) x y = here o ls G b k x y

  -- control comes to an offset that has a frame
  pub leapt : (t : ℕ) (F : State) → frame_at fs t ≡ some F → (o : ℕ) (ls : List Line) (c : Option State) → Lined P M o ls → AllT (walk P M fs ls c) → T (is_start ls t) → Here P M fs t F
  unfolding walk is_start
  leapt t F q o [] c k h s = absurd s
  leapt t F q o (line o' i n ∷ ls) c (lcons b k) h s =
      go (leapt t F q (o + size_at (code_of M) o) ls _ k (line-claims o c (frame_at fs o) (instruction P M o) _ h).2) (eqb o t) refl s
    where
      go : (T (is_start ls t) → Here P M fs t F) → (e : Bool) → eqb o t ≡ e → T (cond e true (is_start ls t)) → Here P M fs t F
      go ih true p s = let z : o ≡ t = eqb→eq o t (rw p tt) in rw (← z) (at_frame F (frame_at fs o) c (rw (← z) at q) o ls b k h)
      go ih false p s = ih s

  -- the first instruction
  pub entered : AllT (walk_claims P M fs) → (S' : State) × Into P (start_state M) S' × Here P M fs 0 S'
  unfolding walk_claims lines
  entered h = fallen (start_state M) 0 (lines P M) (lined P M (length (code_of M)) 0) h

  -- a branch, or a handler, whose frame stands at an instruction
  pub leap : AllT (walk_claims P M fs) → (S : State) (t : ℕ) → ((F : State) → frame_at fs t ≡ some F → T (is_start (lines P M) t)) → AllT (into_frame P S (frame_at fs t))
      → (F : State) × AllT (state_fits P S F) × (frame_at fs t ≡ some F) × Here P M fs t F
  unfolding walk_claims lines
  leap h S t b j = go (frame_at fs t) refl j
    where
      go : (f : Option State) → frame_at fs t ≡ f → AllT (into_frame P S f) → (F : State) × AllT (state_fits P S F) × (frame_at fs t ≡ some F) × Here P M fs t F
      go none q x = absurd x.0
      go (some F) q x = (F, x, q, leapt t F q 0 (lines P M) (some (start_state M)) (lined P M (length (code_of M)) 0) h (b F q))
