use Rattle.shaping.specs.Kept.{bundle_size, prepared_after}
use Rattle.shaping.specs.Resolving.{around_both, tables_same, limited_same, filled_blank, filled_next, filled_all}
use Rattle.std.proofs.Common.{arith}
use Rattle.shaping.proofs.resolve.prepare.Goals as goal

pub entries-requires : goal.entries-requires
entries-requires c = let h = c.requires.1 in let a = c.clear_words.ensures.0 in let x = tables_same c.args.s.now c.args.n c.args.t.now _ h.most a h.parents h.limited c.requires.2 in (bundle_size c.args.s.now c.args.n c.args.t.now h, h.most, omega (arith, a.long, c.requires.0), x.0, x.1, x.2, filled_blank _ _ _ h.most c.clear_words.ensures.1)

pub entries-requires-2 : goal.entries-requires-2
entries-requires-2 c = let h = c.requires.1 in let a = (around_both _ _ _ c.clear_words.ensures.0 c.entries.ensures.0) in let x = tables_same c.args.s.now c.args.n c.args.t.now _ h.most a h.parents h.limited c.requires.2 in (bundle_size c.args.s.now c.args.n c.args.t.now h, h.most, omega (arith, a.long, c.requires.0), x.0, x.1, x.2, filled_next _ _ _ h.most c.entries.ensures.1)

pub returns : goal.returns
returns c = let h = c.requires.1 in let a = (around_both _ _ _ (around_both _ _ _ c.clear_words.ensures.0 c.entries.ensures.0) c.entries-2.ensures.0) in prepared_after _ _ c.args.t.now _ h a (filled_all c.args.s.now c.args.n _ h.most (limited_same c.args.s.now _ c.args.t.now _ h.most a.front h.limited) c.entries-2.ensures.1)
