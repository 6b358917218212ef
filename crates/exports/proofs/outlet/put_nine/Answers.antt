use Rattle.exports.specs.Exports.{put-told}
use Rattle.exports.proofs.outlet.put_nine.Goals as goal

pub returns : goal.returns
returns c = put-told _ _ _ _ _ _ _ _ _ _ _ _ _ _ _ _ _ _ _ c.put_result.ensures c.put_word.ensures c.low.ensures c.put_word-2.ensures c.low-2.ensures c.put_word-3.ensures c.low-3.ensures c.put_word-4.ensures c.low-4.ensures c.put_word-5.ensures
