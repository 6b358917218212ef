use Rattle.classfiles.specs.Sections.{row_none, row_once, row_twice}
use Rattle.std.proofs.Common.{arith}
use Rattle.classfiles.proofs.bundle.put_row.Goals as goal

pub returns-in-None : goal.returns-in-None
returns-in-None c = row_none _ _ _ _ _ _ c.requires (omega (arith, c.well_formed)) c.in-None.is c.put3.ensures c.put_content.ensures

pub returns-in-Once : goal.returns-in-Once
returns-in-Once c = row_once _ _ _ _ _ _ c.requires (omega (arith, c.well_formed)) c.in-Once.code c.in-Once.is (omega (arith, c.well_formed)) c.put3-in-Once.ensures c.put_content-in-Once.ensures

pub returns-in-Twice : goal.returns-in-Twice
returns-in-Twice c = row_twice _ _ _ _ _ _ c.requires (omega (arith, c.well_formed)) c.in-Twice.is c.put3-in-Twice.ensures c.put_content-in-Twice.ensures
