use Rattle.texts.specs.Reading.{part}
use Rattle.std.proofs.Common.{sym, ◌∙◌}
use Rattle.std.specs.Prelude.{true}
use Rattle.rules.specs.StepClaims.{going_same}
use Rattle.rules.specs.SlotLaws.{outside_none}
use Rattle.verifier.specs.Lineup.{line_off, line_done, step-ready, walking_known}
use Rattle.verifier.specs.Ahead.{handled_beside}
use Rattle.verifier.specs.Arrivals.{entered_met}
use Rattle.verifier.proofs.walk.one_line.Goals as goal

pub one_step-requires : goal.one_step-requires
one_step-requires c = (let q = step-ready _ _ _ _ _ _ (walking_known _ _ _ _ _ _ c.requires.0 _ _ _ (going_same _ c.requires.0.depth) (outside_none _ _) c.known-k.ensures.beside c.known-k.auto.t) c.known-k.result c.known-k.ensures.at c.known-k.ensures.count c.well_formed.0.1 in (q.0, q.1, q.2, q.3, q.4, q.5, q.6, q.7, q.8, q.9, handled_beside _ _ _ _ _ _ _ _ _ c.requires.0 c.known-k.ensures.beside c.requires.2))

pub shape_of-t-in_err-held : goal.shape_of-t-in_err-held
shape_of-t-in_err-held c = c.one_step.auto.t ∙ c.known-k.auto.t

pub returns-in_err-held : goal.returns-in_err-held
unfolding part
returns-in_err-held c = line_off c.args.s.now c.args.t.now c.args.t.now c.args.x c.args.kin c.args.f true c.args.h c.args.o c.requires.0 (outside_none _ _) c.args.h (entered_met _ _ _ _ c.requires.1 _) (sym c.requires.1.same) (going_same _ c.requires.0.depth) c.known-k.new.t c.one_step.new.t c.instruction-i.result c.known-k.result c.instruction-i.ensures c.known-k.ensures c.in_err-held.ensures.keeps.1 _ c.in_err-held.ensures.says _ c.from_residual.ensures.1

pub shape_of-t : goal.shape_of-t
shape_of-t c = c.one_step.auto.t ∙ c.known-k.auto.t

pub returns : goal.returns
unfolding part
returns c = line_done c.args.s.now c.args.t.now c.args.t.now c.args.x c.args.kin c.args.f true c.args.h c.args.o c.requires.0 (outside_none _ _) c.args.h (entered_met _ _ _ _ c.requires.1 _) (sym c.requires.1.same) (going_same _ c.requires.0.depth) c.known-k.new.t c.one_step.new.t c.instruction-i.result c.known-k.result c.instruction-i.ensures c.known-k.ensures c.in_ok-held.ensures.keeps.1 _ c.in_ok-held.ensures.says c.in_ok-held.ensures.leaves c.in_ok-held.ensures.keeps.0 _ c.falls_on.ensures
