use Rattle.classfiles.specs.Bundle.{bundle_at}
use Rattle.kit.specs.Pick.{if_ge, if_ne}
use Rattle.texts.specs.Answers.{reads}
use Rattle.classfiles.proofs.bundle.read_bundle.Goals as goal

pub returns-then-s-eq0 : goal.returns-then-s-eq0
unfolding bundle_at
returns-then-s-eq0 c = (search reads depth 12, tt)

pub returns-then-s-gt65536 : goal.returns-then-s-gt65536
unfolding bundle_at
returns-then-s-gt65536 c = (search reads depth 12, tt)

pub returns : goal.returns
unfolding bundle_at
returns c = (if_ne _ _ _ _ _ c.if-s-eq0.false (if_ge _ _ _ _ _ c.if-s-gt65536.false c.class_files.ensures.0), c.class_files.ensures.1)
