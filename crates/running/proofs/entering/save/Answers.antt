use Rattle.std.proofs.Common.{arith}
use Rattle.running.specs.Entering.{besides_six}
use Rattle.plain.specs.Calls.{record_put}
use Rattle.running.proofs.entering.save.Goals as goal

pub returns : goal.returns
returns c = (record_put _ _ _ _ _ _ _ _ _ _ (omega (arith, c.requires.0, c.requires.1)) (omega (arith, c.well_formed)) (omega (arith, c.well_formed)) (omega (arith, c.well_formed)) (omega (arith, c.well_formed)) (omega (arith, c.well_formed)) (omega (arith, c.well_formed)) c.put_word.ensures c.put_word-2.ensures c.put_word-3.ensures c.put_word-4.ensures c.put_word-5.ensures c.put_word-6.ensures, besides_six _ _ _ _ _ _ _ _ _ _ _ _ _ _ c.requires.0 c.put_word.ensures c.put_word-2.ensures c.put_word-3.ensures c.put_word-4.ensures c.put_word-5.ensures c.put_word-6.ensures)
