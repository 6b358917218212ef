use Rattle.machine.specs.Outcomes.{lent, run_sizes}
use Rattle.std.proofs.Common.{sym, ◌∙◌}
use Rattle.machine.proofs.run.run.Goals as goal

pub returns-then-not-sizes_ok : goal.returns-then-not-sizes_ok
returns-then-not-sizes_ok c = run_sizes c.args.b.now (lent c.args.t.now c.args.cells.now c.args.s.now c.args.g.now) c.args.i c.args.j c.args.args.now c.args.budget (sym c.sizes_ok.ensures ∙ c.if-not-sizes_ok.true)

pub judged-requires : goal.judged-requires
judged-requires c = sym c.sizes_ok.ensures ∙ c.if-not-sizes_ok.false
