use Rattle.reader.specs.Lookup.{built_in_spot}
use Rattle.kit.specs.Pick.{calls}
use Rattle.reader.proofs.lookup.built_in_own.Goals.{else-method-via-then-method+then-same_text+else-same_text-2, else-method-via-then-method+else-same_text, else-method-via-else-method}
use Rattle.reader.proofs.lookup.built_in_own.Goals as goal

pub returns-then-same_text-2 : goal.returns-then-same_text-2
unfolding built_in_spot
returns-then-same_text-2 c = search calls depth 12

pub returns : goal.returns
unfolding built_in_spot
returns c =
    elim c.else-method.branch [ else-method-via-then-method+then-same_text+else-same_text-2 w ↦ search calls depth 12 | else-method-via-then-method+else-same_text w ↦ search calls depth 12 | else-method-via-else-method w ↦ search calls depth 12 ]
