use Rattle.plain.proofs.integers.divide.Goals as goal

pub returns-in-Quotient : goal.returns-in-Quotient
returns-in-Quotient g c = rw (← c.division.ensures, c.in-Quotient.is) c.idiv.ensures

pub returns-in-Remainder : goal.returns-in-Remainder
returns-in-Remainder g c = rw (← c.division.ensures, c.in-Remainder.is) c.irem.ensures
