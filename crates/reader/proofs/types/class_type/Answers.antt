use Rattle.std.proofs.Common.{◌∙◌, arith}
use Rattle.reader.specs.CodeLaws.{array_bad, array_ok, array_short, class-ref, fault_as, no_value}
use Rattle.texts.specs.Answers.{reads}
use Rattle.kit.specs.Pick.{picks}
use Rattle.classfiles.specs.Descriptors.{class_type_at}
use Rattle.reader.proofs.types.class_type.Goals as goal

pub returns-in_err-d : goal.returns-in_err-d
returns-in_err-d c =
    (fault_as _ _ _ c.from_residual.ensures.1 ∙ array_bad _ _ _ _ c.in_err-d.ensures.0 _ c.is_at.ensures.0 c.if-is_at.true, no_value _ _ _ c.from_residual.ensures.1)

pub returns-then-d-x : goal.returns-then-d-x
returns-then-d-x c = (array_ok _ _ _ _ c.in_ok-d.ensures.0 _ c.is_at.ensures.0 c.if-is_at.true c.if-d-x.true, c.in_ok-d.ensures.1)

pub returns-then-is_at : goal.returns-then-is_at
returns-then-is_at c = (array_short _ _ _ _ c.in_ok-d.ensures.0 _ c.is_at.ensures.0 c.if-is_at.true c.if-d-x.false, tt)

pub returns-then-class_name : goal.returns-then-class_name
unfolding class_type_at
returns-then-class_name c = (search (reads, picks, class-ref) depth 12, omega (arith, c.number.ensures.1, c.requires.0))

pub returns : goal.returns
unfolding class_type_at
returns c = (search (reads, picks) depth 12, tt)
