use Rattle.classfiles.specs.Contents.{kept_first, kept_twice, kept_other, kept_both}
use Rattle.classfiles.proofs.members.another.Goals as goal

pub returns-in-None : goal.returns-in-None
returns-in-None g c = kept_first _ _ c.in-None.is

pub returns-in-None-x : goal.returns-in-None-x
returns-in-None-x g c = kept_other _ _ _ c.in-Once.is c.in-None-x.is

pub returns-in_default : goal.returns-in_default
returns-in_default g c = kept_both _ _ _ c.in-Once.is c.in_default.not-None

pub returns-in-Twice : goal.returns-in-Twice
returns-in-Twice g c = kept_twice _ _ c.in-Twice.is
