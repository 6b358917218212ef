use Rattle.std.specs.Prelude.{◌≡◌, ◌-◌}
use Rattle.texts.specs.Reading.{sum_at}
use Rattle.classfiles.specs.Table.{pool_in}
use Rattle.classfiles.specs.Members.{none, another, attribute_at}
use Rattle.classfiles.specs.Contents.{code_in}
use Rattle.classfiles.proofs.members.attribute_loop.Given as goal

abbrev pub invariant-loop-i : goal.invariant-loop-i
invariant-loop-i l = sum_at (attribute_at l.s (pool_in l.s l.tags) l.method) another (l.n - l._i) (code_in l.s l.sum) l.q ≡ sum_at (attribute_at l.s (pool_in l.s l.tags) l.method) another l.n none l.from
