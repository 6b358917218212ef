use Rattle.shaping.specs.Resolving.{own_fits, seek-fits, method_own, method-seek}
use Rattle.std.proofs.Common.{sym, ◌∙◌, true, false}
use Rattle.shaping.proofs.resolve.method_word.Goals as goal

pub hit_word-requires : goal.hit_word-requires
hit_word-requires c = (c.requires.0, c.requires.1, c.requires.2, own_fits c.args.s.now c.args.n c.args.t.now c.requires.0 c.requires.4 _ c.own-r.result _ true c.own-r.ensures (sym c.is_init.ensures ∙ c.if-is_init.true))

pub returns-then-is_init : goal.returns-then-is_init
returns-then-is_init c = method_own _ _ _ _ _ c.own-r.result c.hit_word.ensures (sym c.is_init.ensures ∙ c.if-is_init.true) c.own-r.ensures

pub hit_word-requires-2 : goal.hit_word-requires-2
hit_word-requires-2 c = (c.requires.0, c.requires.1, c.requires.2, seek-fits c.args.s.now c.args.n c.args.t.now c.requires.0 c.requires.4 _ c.seek-r.result _ false c.seek-r.ensures (sym c.is_init.ensures ∙ c.if-is_init.false))

pub returns : goal.returns
returns c = method-seek _ _ _ _ _ c.seek-r.result c.hit_word-2.ensures (sym c.is_init.ensures ∙ c.if-is_init.false) c.seek-r.ensures
