use Rattle.classfiles.specs.Tags.{pair_test}
use Rattle.classfiles.proofs.pool.is_name_and_type.Goals as goal

pub returns : goal.returns
returns c =
    pair_test c.args.s.now c.place.result _ c.byte.result (c.place.ensures c.args.s.now c.well_formed.0.0) c.byte.ensures.0
