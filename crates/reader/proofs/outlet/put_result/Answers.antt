use Rattle.reader.specs.Outlet.{put-result}
use Rattle.reader.proofs.outlet.put_result.Goals as goal

pub returns : goal.returns
returns c = put-result c.args.res.now c.requires _ _ _ _ _ _ _ _ _ _ _ _ _ c.clear.ensures c.low.ensures c.put_word.ensures c.low-2.ensures c.put_word-2.ensures c.low-3.ensures c.put_word-3.ensures c.low-4.ensures c.put_word-4.ensures
