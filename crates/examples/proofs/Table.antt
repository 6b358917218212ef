-- The table of examples holds: it is computed.
use Rattle.std.specs.Prelude.{refl}
use Rattle.reader.specs.Computing.{reading}
use Rattle.verifier.specs.Computing.{verifying}
use Rattle.plain.specs.Computing.{running}
use Rattle.examples.specs.Table.{Holds, examples, Computes, holds}

computed : Computes examples
unfolding reading verifying running
computed =
    (refl, (refl, (refl, tt)), (refl, tt, (refl, tt, (refl, tt, (refl, (refl, tt), (refl, (refl, (refl, tt)), (refl, tt, (refl, tt, (refl, tt, (refl, tt, tt))))))))))

pub examples_hold : Holds examples
examples_hold = holds examples computed
