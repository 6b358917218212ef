use Rattle.machine.specs.Outcomes.{start_asked, loop_asked, made_by_lem}
use Rattle.std.proofs.Common.{ap, ◌∙◌, ℕ, replicate}
use Rattle.machine.proofs.run.made.Goals as goal

pub fill-requires : goal.fill-requires
fill-requires c = c.requires.ready

pub start-k-requires : goal.start-k-requires
start-k-requires c = start_asked c.args.b.now c.args.n c.args.t.now c.fill.new.t c.args.cells.now c.args.s.now c.args.g.now c.args.i c.args.j c.args.args.now c.requires c.fill.ensures

pub run_on-r-requires : goal.run_on-r-requires
run_on-r-requires c = loop_asked c.args.b.now c.args.n c.args.t.now c.fill.new.t c.args.cells.now c.args.s.now c.args.g.now c.args.i c.args.j c.args.args.now c.requires c.fill.ensures _ _ c.start-k.result c.start-k.ensures

pub returns : goal.returns
returns c = made_by_lem c.args.b.now c.args.n c.args.t.now c.fill.new.t c.args.cells.now c.args.s.now c.args.g.now c.args.i c.args.j c.args.args.now c.requires c.fill.ensures _ _ _ _ _ c.start-k.result c.run_on-r.result c.args.budget c.start-k.ensures c.run_on-r.ensures (c.fill-2.ensures.after (λ y e. e) ∙ ap (λ (k : ℕ). replicate k 0) (c.run_on-r.auto.s ∙ c.start-k.auto.s)) (c.fill-3.ensures.after (λ y e. e) ∙ ap (λ (k : ℕ). replicate k 0) (c.run_on-r.auto.g ∙ c.start-k.auto.g))
