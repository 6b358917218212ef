use Rattle.classfiles.specs.Signatures.{field_by}
use Rattle.texts.specs.Answers.{reads}
use Rattle.classfiles.proofs.members.field_descriptor.Goals as goal

pub returns-in_err-field_type : goal.returns-in_err-field_type
unfolding field_by
returns-in_err-field_type c = rw (← c.text_of.ensures) (search (reads, c.in_err-field_type.ensures) depth 12)

pub returns : goal.returns
unfolding field_by
returns c = rw (← c.text_of.ensures) (search (reads, c.in_ok-field_type.ensures) depth 12)
