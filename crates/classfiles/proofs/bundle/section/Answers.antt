use Rattle.classfiles.specs.Attributes.{short_val}
use Rattle.classfiles.specs.Sections.{section_bad, section_is, short_end}
use Rattle.std.proofs.Common.{arith}
use Rattle.classfiles.proofs.bundle.section.Goals as goal

pub returns-in_err-n : goal.returns-in_err-n
returns-in_err-n c = section_bad _ _ _ _ _ _ _ _ _ _ _ c.from_residual.ensures.1 c.in_err-n.ensures

pub overflow_cast-n : goal.overflow_cast-n
overflow_cast-n c = omega (arith, short_val _ _ _ _ _ _ _ _ c.in_ok-n.ensures)

pub rows-requires : goal.rows-requires
rows-requires c =
    let h = short_val _ _ _ _ _ _ _ _ c.in_ok-n.ensures in (c.requires.0, short_end _ _ _ _ _ _ _ c.in_ok-n.ensures, omega arith, omega arith, omega (arith, c.put_word.auto.s))

pub returns : goal.returns
returns c =
    section_is _ _ _ _ _ _ _ _ _ _ _ _ _ c.in_ok-n.ensures c.put_word.ensures (omega (arith, short_val _ _ _ _ _ _ _ _ c.in_ok-n.ensures)) c.requires.1 c.requires.2 (omega arith) c.rows.ensures.0 c.rows.ensures.1
