use Rattle.classfiles.specs.Tags.{class_test}
use Rattle.classfiles.proofs.pool.is_class.Goals as goal

pub returns : goal.returns
returns c =
    class_test c.args.s.now c.place.result _ c.byte.result (c.place.ensures c.args.s.now c.well_formed.0.0) c.byte.ensures.0
