use Rattle.std.proofs.Common.{◌∙◌, ap, ℕ, replicate}
use Rattle.machine.specs.Outcomes.{lent, sizes_are, sized_kept, run-refused, run-entered}
use Rattle.machine.proofs.run.judged.Goals as goal

pub read_shaped-requires : goal.read_shaped-requires
read_shaped-requires c = (sizes_are c.args.t.now c.args.cells.now c.args.s.now c.args.g.now c.args.budget c.requires).scratch

pub shape_of-t-in-Err : goal.shape_of-t-in-Err
shape_of-t-in-Err c = c.clear.auto.s ∙ c.read_shaped.auto.t

pub returns-in-Err : goal.returns-in-Err
returns-in-Err c = run-refused c.args.b.now (lent c.args.t.now c.args.cells.now c.args.s.now c.args.g.now) c.args.i c.args.j c.args.args.now c.args.budget c.requires c.read_shaped.new.t c.in-Err.answer c.in-Err.ensures _ (c.clear.ensures ∙ ap (λ (k : ℕ). replicate k 0) c.read_shaped.auto.t)

pub entered-a-requires : goal.entered-a-requires
entered-a-requires c = (c.in-Ok.ensures.ready, c.in-Ok.ensures.passes, sized_kept c.args.t.now _ c.args.cells.now c.args.s.now c.args.g.now c.read_shaped.auto.t (sizes_are c.args.t.now c.args.cells.now c.args.s.now c.args.g.now c.args.budget c.requires))

pub shape_of-t : goal.shape_of-t
shape_of-t c = c.clear-2.auto.s ∙ c.entered-a.auto.t ∙ c.read_shaped.auto.t

pub returns : goal.returns
returns c = run-entered c.args.b.now (lent c.args.t.now c.args.cells.now c.args.s.now c.args.g.now) c.args.i c.args.j c.args.args.now c.args.budget c.requires c.read_shaped.new.t c.in-Ok.n c.in-Ok.ensures _ _ _ c.entered-a.result c.entered-a.ensures _ (c.clear-2.ensures ∙ ap (λ (k : ℕ). replicate k 0) (c.entered-a.auto.t ∙ c.read_shaped.auto.t))
