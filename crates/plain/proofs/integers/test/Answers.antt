use Rattle.plain.specs.Integers.{holds}
use Rattle.plain.proofs.integers.test.Goals as goal

pub returns-in-Eq : goal.returns-in-Eq
unfolding holds
returns-in-Eq g c = rw (← c.test.ensures, c.in-Eq.is)

pub returns-in-Ne : goal.returns-in-Ne
unfolding holds
returns-in-Ne g c = rw (← c.test.ensures, c.in-Ne.is)

pub returns-in-Lt : goal.returns-in-Lt
unfolding holds
returns-in-Lt g c = rw (← c.test.ensures, c.in-Lt.is) c.less.ensures

pub returns-in-Ge : goal.returns-in-Ge
unfolding holds
returns-in-Ge g c = rw (← c.test.ensures, c.in-Ge.is) c.not_less.ensures

pub returns-in-Gt : goal.returns-in-Gt
unfolding holds
returns-in-Gt g c = rw (← c.test.ensures, c.in-Gt.is) c.less-in-Gt.ensures

pub returns-in-Le : goal.returns-in-Le
unfolding holds
returns-in-Le g c = rw (← c.test.ensures, c.in-Le.is) c.not_less-in-Le.ensures
