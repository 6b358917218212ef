use Rattle.machine.specs.Outcomes.{lent, entry_small, entry-count, begins_by, entered_none, entered-count, entered-ran}
use Rattle.machine.specs.Filling.{front_long}
use Rattle.shaping.specs.Phases.{program_now}
use Rattle.std.proofs.Common.{sym, ◌∙◌, arith}
use Rattle.machine.proofs.run.entered.Goals as goal

pub is_entry-requires : goal.is_entry-requires
is_entry-requires c = (c.requires.0.prepared.tables, front_long c.args.t.now c.requires.0.long)

pub returns-then-not-is_entry : goal.returns-then-not-is_entry
returns-then-not-is_entry c = entered_none (program_now c.args.b.now c.args.n c.args.t.now) (lent c.args.t.now c.args.cells.now c.args.s.now c.args.g.now) c.args.i c.args.j c.args.args.now c.args.budget (sym c.is_entry.ensures ∙ c.if-not-is_entry.true)

pub overflow_mul-i : goal.overflow_mul-i
overflow_mul-i c = let y = entry_small c.args.b.now c.args.n c.args.t.now c.requires.0 c.requires.1 c.args.i c.args.j (sym c.is_entry.ensures ∙ c.if-not-is_entry.false) in omega (arith, y.0, y.1)

pub overflow_add-i : goal.overflow_add-i
overflow_add-i c = let y = entry_small c.args.b.now c.args.n c.args.t.now c.requires.0 c.requires.1 c.args.i c.args.j (sym c.is_entry.ensures ∙ c.if-not-is_entry.false) in omega (arith, y.0, y.1)

pub param_count-requires : goal.param_count-requires
param_count-requires c = let y = entry_small c.args.b.now c.args.n c.args.t.now c.requires.0 c.requires.1 c.args.i c.args.j (sym c.is_entry.ensures ∙ c.if-not-is_entry.false) in omega (arith, y.0, y.1)

pub returns-then-args-param_count : goal.returns-then-args-param_count
returns-then-args-param_count c = entered-count (program_now c.args.b.now c.args.n c.args.t.now) (lent c.args.t.now c.args.cells.now c.args.s.now c.args.g.now) c.args.i c.args.j c.args.args.now c.args.budget (sym c.is_entry.ensures ∙ c.if-not-is_entry.false) (λ z. c.if-args-param_count.true (z ∙ sym (entry-count c.args.b.now c.args.n c.args.t.now c.requires.0 c.requires.1 c.args.i c.args.j (sym c.is_entry.ensures ∙ c.if-not-is_entry.false) _ c.param_count.ensures.0)))

pub made-requires : goal.made-requires
made-requires c = begins_by c.args.b.now c.args.n c.args.t.now c.requires.0 c.requires.1 c.args.i c.args.j (sym c.is_entry.ensures ∙ c.if-not-is_entry.false) _ _ _ _ c.requires.2 (c.if-args-param_count.false ∙ entry-count c.args.b.now c.args.n c.args.t.now c.requires.0 c.requires.1 c.args.i c.args.j (sym c.is_entry.ensures ∙ c.if-not-is_entry.false) _ c.param_count.ensures.0)

pub returns : goal.returns
returns c = entered-ran (program_now c.args.b.now c.args.n c.args.t.now) (lent c.args.t.now c.args.cells.now c.args.s.now c.args.g.now) c.args.i c.args.j c.args.args.now c.args.budget (sym c.is_entry.ensures ∙ c.if-not-is_entry.false) (c.if-args-param_count.false ∙ entry-count c.args.b.now c.args.n c.args.t.now c.requires.0 c.requires.1 c.args.i c.args.j (sym c.is_entry.ensures ∙ c.if-not-is_entry.false) _ c.param_count.ensures.0) _ _ _ c.made.result c.made.ensures
