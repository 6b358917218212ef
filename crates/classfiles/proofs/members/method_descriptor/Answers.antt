use Rattle.classfiles.specs.Signatures.{method_by}
use Rattle.texts.specs.Answers.{reads}
use Rattle.classfiles.proofs.members.method_descriptor.Goals as goal

pub returns-in_err-m : goal.returns-in_err-m
unfolding method_by
returns-in_err-m c = rw (← c.text_of.ensures) (search (reads, c.in_err-m.ensures) depth 12)

pub returns-then-too_many : goal.returns-then-too_many
unfolding method_by
returns-then-too_many c = rw (← c.text_of.ensures) (search (reads, c.in_ok-m.ensures) depth 12)

pub returns-then-result_ok : goal.returns-then-result_ok
unfolding method_by
returns-then-result_ok c = rw (← c.text_of.ensures) (search (reads, c.in_ok-m.ensures) depth 12)

pub returns : goal.returns
unfolding method_by
returns c = rw (← c.text_of.ensures) (search (reads, c.in_ok-m.ensures) depth 12)
