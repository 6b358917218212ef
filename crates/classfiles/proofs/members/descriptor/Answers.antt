use Rattle.classfiles.specs.Signatures.{descriptor_by, descriptor_via}
use Rattle.texts.specs.Answers.{reads}
use Rattle.classfiles.proofs.members.descriptor.Goals as goal

pub returns-in_err-i : goal.returns-in_err-i
unfolding descriptor_by
returns-in_err-i c = search (descriptor_via, reads, c.in_err-i.ensures) depth 12

pub returns-then-method : goal.returns-then-method
unfolding descriptor_by
returns-then-method c = search (descriptor_via, reads, c.in_ok-i.ensures) depth 12

pub returns : goal.returns
unfolding descriptor_by
returns c = search (descriptor_via, reads, c.in_ok-i.ensures) depth 12
