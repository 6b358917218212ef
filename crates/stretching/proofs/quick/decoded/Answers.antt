use Rattle.std.proofs.Common.{sym, ap, ◌∙◌}
use Rattle.rules.specs.InstructionWords.{instr_of}
use Rattle.stepping.specs.Turning.{plain_stays}
use Rattle.stretching.specs.Quick.{ready-sized, quick_elsewhere, quick_by}
use Rattle.stretching.proofs.quick.decoded.Goals as goal

pub returns-in_default : goal.returns-in_default
returns-in_default c = quick_elsewhere _ _ _ _ _ _ _ _ _ _ _

pub plain-requires : goal.plain-requires
plain-requires c = (ready-sized _ _ _ _ _ _ _ _ _ _ c.requires c.place-c.ensures, c.requires.size)

pub returns : goal.returns
returns c = quick_by _ _ _ _ _ _ _ _ _ _ _ _ _ _ _ _ _ _ (sym c.size_at-z.ensures.0) c.size_at-z.ensures.1 (plain_stays c.in-Simple.j) (λ P known. sym (c.instruction-i.ensures.is P known.flags) ∙ ap instr_of c.in-Simple.is) c.kin.ensures c.place-c.ensures c.plain.ensures
