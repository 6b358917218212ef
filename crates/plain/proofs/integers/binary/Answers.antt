use Rattle.plain.proofs.integers.binary.Goals as goal

pub returns-in-Add : goal.returns-in-Add
returns-in-Add g c = rw (← c.op.ensures, c.in-Add.is) c.iadd.ensures

pub returns-in-Sub : goal.returns-in-Sub
returns-in-Sub g c = rw (← c.op.ensures, c.in-Sub.is) c.isub.ensures

pub returns-in-Mul : goal.returns-in-Mul
returns-in-Mul g c = rw (← c.op.ensures, c.in-Mul.is) c.imul.ensures

pub returns-in-Shl : goal.returns-in-Shl
returns-in-Shl g c = rw (← c.op.ensures, c.in-Shl.is) c.ishl.ensures

pub returns-in-Shr : goal.returns-in-Shr
returns-in-Shr g c = rw (← c.op.ensures, c.in-Shr.is) c.ishr.ensures

pub returns-in-Ushr : goal.returns-in-Ushr
returns-in-Ushr g c = rw (← c.op.ensures, c.in-Ushr.is) c.iushr.ensures

pub returns-in-And : goal.returns-in-And
returns-in-And g c = rw (← c.op.ensures, c.in-And.is) c.iand.ensures

pub returns-in-Or : goal.returns-in-Or
returns-in-Or g c = rw (← c.op.ensures, c.in-Or.is) c.ior.ensures

pub returns-in-Xor : goal.returns-in-Xor
returns-in-Xor g c = rw (← c.op.ensures, c.in-Xor.is) c.ixor.ensures
