use Rattle.classfiles.specs.Sections.{content_none, content_once, content_twice}
use Rattle.std.proofs.Common.{arith}
use Rattle.classfiles.proofs.bundle.put_content.Goals as goal

pub returns-in-None : goal.returns-in-None
returns-in-None c = content_none _ _ _ _ c.requires c.in-None.is c.put3.ensures

pub returns-in-Once : goal.returns-in-Once
returns-in-Once c = content_once _ _ _ _ c.requires c.in-Once.p c.in-Once.is (omega (arith, c.well_formed)) (omega (arith, c.well_formed)) c.put3-in-Once.ensures

pub returns-in-Twice : goal.returns-in-Twice
returns-in-Twice c = content_twice _ _ _ _ c.requires c.in-Twice.is c.put3-in-Twice.ensures
