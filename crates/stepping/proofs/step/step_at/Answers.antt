use Rattle.std.proofs.Common.{arith}
use Rattle.texts.specs.Reading.{part}
use Rattle.stepping.specs.Fetching.{past_stepped, one_asked, one_stepped}
use Rattle.stepping.proofs.step.step_at.Goals as goal

pub slice_bounds-code-end : goal.slice_bounds-code-end
unfolding part
slice_bounds-code-end c = omega (arith, c.requires.4.bounded.from, c.requires.4.bounded.to)

pub returns-then-code-o : goal.returns-then-code-o
unfolding part
returns-then-code-o c = let a = c.args in past_stepped a.b.now a.n a.t.now a.s.now a.g.now a.cells.now a.d a.k a.x c.requires.0 c.requires.4 a.used c.requires.1 c.if-code-o.true

pub one-requires : goal.one-requires
unfolding part
one-requires c = let a = c.args in one_asked a.b.now a.n a.t.now a.s.now a.g.now a.cells.now a.d a.k a.x c.requires.0 c.requires.4 _ _ c.if-code-o.false c.size_at-z.ensures.0 c.size_at-z.ensures.1 c.fetch-i.ensures c.requires.1 c.requires.2 c.requires.3

pub returns : goal.returns
unfolding part
returns c = let a = c.args in one_stepped a.b.now a.n a.t.now a.s.now a.g.now a.cells.now a.d a.k a.x c.requires.0 c.requires.4 _ _ c.if-code-o.false c.size_at-z.ensures.0 c.size_at-z.ensures.1 c.fetch-i.ensures a.used _ _ _ _ _ c.requires.1 c.one.ensures
