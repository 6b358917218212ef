use Rattle.std.specs.Prelude.{◌≡◌, ◌-◌}
use Rattle.texts.specs.Reading.{sum_at}
use Rattle.classfiles.specs.Table.{pool_in}
use Rattle.classfiles.specs.Members.{none, another, inner_at}
use Rattle.classfiles.specs.Contents.{content_in}
use Rattle.classfiles.proofs.members.inner_loop.Given as goal

abbrev pub invariant-loop-i : goal.invariant-loop-i
invariant-loop-i l = sum_at (inner_at l.s (pool_in l.s l.tags) l.e l.p) another (l.n - l._i) (content_in l.s l.sum) l.q ≡ sum_at (inner_at l.s (pool_in l.s l.tags) l.e l.p) another l.n none l.from
