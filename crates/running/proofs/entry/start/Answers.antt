use Rattle.running.specs.Entry.{entry_now, few_arguments, entry-locals, starts}
use Rattle.std.proofs.Common.{◌∙◌, arith}
use Rattle.running.proofs.entry.start.Goals as goal

pub method_word-q-requires : goal.method_word-q-requires
method_word-q-requires c = (omega (arith, (entry_now c.args.b.now c.args.n c.args.t.now c.requires.0 c.requires.1 c.args.i c.args.j c.requires.4).class, c.requires.0.prepared.tables.most), omega (arith, (entry_now c.args.b.now c.args.n c.args.t.now c.requires.0 c.requires.1 c.args.i c.args.j c.requires.4).class, c.requires.0.prepared.tables.most, (entry_now c.args.b.now c.args.n c.args.t.now c.requires.0 c.requires.1 c.args.i c.args.j c.requires.4).row, c.requires.0.prepared.tables.limited.methods _ (entry_now c.args.b.now c.args.n c.args.t.now c.requires.0 c.requires.1 c.args.i c.args.j c.requires.4).class), omega arith)

pub lay-requires : goal.lay-requires
lay-requires c = (omega (arith, few_arguments c.args.b.now c.args.n c.args.t.now c.requires.0 c.requires.1 c.args.i c.args.j c.requires.4 c.args.args.now c.requires.5, c.requires.2), omega (arith, few_arguments c.args.b.now c.args.n c.args.t.now c.requires.0 c.requires.1 c.args.i c.args.j c.requires.4 c.args.args.now c.requires.5, c.requires.3))

pub empty_from-requires : goal.empty_from-requires
empty_from-requires c = (few_arguments c.args.b.now c.args.n c.args.t.now c.requires.0 c.requires.1 c.args.i c.args.j c.requires.4 c.args.args.now c.requires.5, omega (arith, c.lay.auto.g, c.requires.3))

pub overflow_add-result : goal.overflow_add-result
overflow_add-result c = omega (arith, (entry_now c.args.b.now c.args.n c.args.t.now c.requires.0 c.requires.1 c.args.i c.args.j c.requires.4).class, c.requires.0.prepared.tables.most, (entry_now c.args.b.now c.args.n c.args.t.now c.requires.0 c.requires.1 c.args.i c.args.j c.requires.4).row, c.requires.0.prepared.tables.limited.methods _ (entry_now c.args.b.now c.args.n c.args.t.now c.requires.0 c.requires.1 c.args.i c.args.j c.requires.4).class, c.u2_at-locals.ensures.1)

pub overflow_cast-result : goal.overflow_cast-result
overflow_cast-result c = omega (arith, (entry_now c.args.b.now c.args.n c.args.t.now c.requires.0 c.requires.1 c.args.i c.args.j c.requires.4).class, c.requires.0.prepared.tables.most, (entry_now c.args.b.now c.args.n c.args.t.now c.requires.0 c.requires.1 c.args.i c.args.j c.requires.4).row, c.requires.0.prepared.tables.limited.methods _ (entry_now c.args.b.now c.args.n c.args.t.now c.requires.0 c.requires.1 c.args.i c.args.j c.requires.4).class, c.u2_at-locals.ensures.1)

pub overflow_cast-result-2 : goal.overflow_cast-result-2
overflow_cast-result-2 c = omega (arith, (entry_now c.args.b.now c.args.n c.args.t.now c.requires.0 c.requires.1 c.args.i c.args.j c.requires.4).class, c.requires.0.prepared.tables.most, (entry_now c.args.b.now c.args.n c.args.t.now c.requires.0 c.requires.1 c.args.i c.args.j c.requires.4).row, c.requires.0.prepared.tables.limited.methods _ (entry_now c.args.b.now c.args.n c.args.t.now c.requires.0 c.requires.1 c.args.i c.args.j c.requires.4).class, c.u2_at-locals.ensures.1)

pub overflow_cast-result-3 : goal.overflow_cast-result-3
overflow_cast-result-3 c = omega (arith, (entry_now c.args.b.now c.args.n c.args.t.now c.requires.0 c.requires.1 c.args.i c.args.j c.requires.4).class, c.requires.0.prepared.tables.most, (entry_now c.args.b.now c.args.n c.args.t.now c.requires.0 c.requires.1 c.args.i c.args.j c.requires.4).row, c.requires.0.prepared.tables.limited.methods _ (entry_now c.args.b.now c.args.n c.args.t.now c.requires.0 c.requires.1 c.args.i c.args.j c.requires.4).class, c.u2_at-locals.ensures.1)

pub returns : goal.returns
returns c = starts c.args.b.now c.args.n c.args.t.now c.requires.0 c.requires.1 c.args.i c.args.j c.requires.4 c.args.args.now _ _ _ _ (c.lay.auto.s ∙ c.requires.2) (c.empty_from.auto.g ∙ c.lay.auto.g ∙ c.requires.3) c.requires.5 c.lay.ensures c.empty_from.ensures (entry-locals c.args.b.now c.args.n c.args.t.now c.requires.0 c.requires.1 c.args.i c.args.j c.requires.4 _ _ c.method_word-q.ensures.0 c.u2_at-locals.ensures.0)
