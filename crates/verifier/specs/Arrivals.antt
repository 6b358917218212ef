-- What the instruction at an offset finds: the state that came, or the frame's that it met. Assumes nothing.
use Rattle.std.specs.Prelude.{ℕ, ◌+◌, ◌≡◌, refl, Bool, true, false, T, length, take}
use Rattle.std.proofs.Common.{sym, ap, subst, ◌∙◌, arith, List, [], ◌∷◌, ◌++◌, append-nil}
use Rattle.std.specs.Bool.{beq}
use Rattle.std.proofs.Math.Option.{Option, none, some}
use Rattle.std.proofs.Math.Dec.{eqb_refl}
use Rattle.kit.specs.Bools.{true-T}
use Rattle.kit.specs.Claims.{Claim, pass, verdict, all_pass, AllT}
use Rattle.reader.specs.BuiltIns.{first_class}
use Rattle.reader.specs.Program.{Program, Method}
use Rattle.rules.specs.Types.{Ty}
use Rattle.rules.specs.States.{State, state, slots_fit, state_fits}
use Rattle.rules.specs.Frames.{Frame}
use Rattle.rules.specs.Opcodes.{instruction}
use Rattle.rules.specs.Walk.{frame_at, meets, merged, instruction_claims}
use Rattle.rules.specs.Ancestry.{lineage, fits_self}
use Rattle.rules.specs.Slots.{held, Outside}
use Rattle.rules.specs.FrameRows.{frames_of}
use Rattle.rules.specs.Sites.{Sited}
use Rattle.rules.specs.StepClaims.{frames_outside, Going}
use Rattle.rules.specs.Loads.{current}
use Rattle.verifier.specs.Lineup.{line_claims, line_after, claims_left, after_left, line_on, front-word, outside_front, walking_on, met_at, Walking, Entered}
use Rattle.rules.specs.declared.site.Site.{Site}
use Rattle.rules.specs.declared.slots.Held.{Held}
use Rattle.rules.specs.declared.frames.Rows.{Rows}
use Rattle.rules.specs.declared.types.Kin.{Kin}

-- ---- every state fits itself
module _ (P : Program) where
  slots_self : (ts : List Ty) (cs : List (Claim ℕ)) → AllT cs → AllT (slots_fit P ts ts ++ cs)
  unfolding slots_fit
  slots_self [] cs a = a
  slots_self (t ∷ ts) cs a = (true-T _ (fits_self P t), slots_self ts cs a)

  flag_self : (g : Bool) → T (beq g g)
  flag_self true = tt
  flag_self false = tt

  state_self : (S : State) → AllT (state_fits P S S)
  unfolding state_fits
  state_self (state g l s) = (flag_self g, (eqb_refl (length s), slots_self l (slots_fit P s s) (subst (λ (cs : List (Claim ℕ)). AllT cs) (append-nil (slots_fit P s s)) (slots_self s [] tt))))

-- ---- the state that came has met what stands there
module _ (live : Bool) (S T' : State) (F : Option State) (e : T' ≡ merged (current live S) F) where
  met_self : (P : Program) → verdict (meets P (some T') F) ≡ pass
  met_self P = go live F e
    where
      go : (b : Bool) (G : Option State) → T' ≡ merged (current b S) G → verdict (meets P (some T') G) ≡ pass
      go b none q = all_pass _ tt
      go true (some G) q = rw q (all_pass _ (state_self P G))
      go false (some G) q = rw q (all_pass _ (state_self P G))

  same_self : merged (some T') F ≡ T'
  same_self = go live F e
    where
      go : (b : Bool) (G : Option State) → T' ≡ merged (current b S) G → merged (some T') G ≡ T'
      go b none q = refl
      go true (some G) q = sym q
      go false (some G) q = sym q

pub entered_met : (t : List ℕ) (f : Rows) (h : Held) (o : ℕ) → Entered t f h o → (P : Program) → pass ≡ verdict (meets P (current true (held t h)) (frame_at (frames_of t f) o))
entered_met t f h o e P = sym (e.met P)

-- ---- a line from where it arrived is the line from what came
module _ (s t u : List ℕ) (x : Site) (kin : Kin) (f : Rows) (live : Bool) (h : Held) (o : ℕ) (w : Walking s t x kin f h) (g : Held)
    (m : pass ≡ verdict (meets (lineage t kin.at kin.count) (current live (held t h)) (frame_at (frames_of t f) o)))
    (l : held u g ≡ merged (current live (held t h)) (frame_at (frames_of t f) o)) (go : Going h g) (out : Outside h.at t u) where
  front : take 260736 u ≡ take 260736 t
  front = outside_front t u h.at w.at out

  frames : frames_of u f ≡ frames_of t f
  frames = let r = w.rows in frames_outside 65184 t u (front-word t u front) f w.laid.locals (omega arith)

  pub arrived : Entered u f g o
  arrived = record {
    met = λ P. ap (λ (fs : List Frame). verdict (meets P (some (held u g)) (frame_at fs o))) frames ∙ met_self live (held t h) (held u g) (frame_at (frames_of t f) o) l P;
    same = ap (λ (fs : List Frame). merged (some (held u g)) (frame_at fs o)) frames ∙ same_self live (held t h) (held u g) (frame_at (frames_of t f) o) l;
  }

  pub arrived_walking : length u ≡ length t → Walking s u x kin f g
  arrived_walking e = walking_on s t x kin f h w u g go front e

  -- it asks and leaves what the state that came does
  pub arrived_same : (P : Program) (M : Method) → Sited s t P M x
      → (verdict (line_claims P M t f o (some (held u g))) ≡ verdict (line_claims P M t f o (current live (held t h)))) × (line_after P M t f o (some (held u g)) ≡ line_after P M t f o (current live (held t h)))
  arrived_same P M d =
      let F = frame_at (frames_of t f) o in
      let S = same_self live (held t h) (held u g) F l in (
        sym (claims_left P M t f o (some (held u g)) (held u g) S (met_self live (held t h) (held u g) F l P))
            ∙ ap (λ (T : State). verdict (instruction_claims P M (frames_of t f) o (instruction P M o) T)) l
            ∙ line_on P M t f o (current live (held t h)) (first_class + x.classes) d.parents (met_at s t u x kin f live h o w out pass m),
        sym (after_left P M t f o (some (held u g)) (held u g) S) ∙ after_left P M t f o (current live (held t h)) (held u g) (sym l),
      )
