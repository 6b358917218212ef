use Rattle.kit.specs.Pick.{calls}
use Rattle.plain.proofs.values.header_base.Goals as goal

pub returns-then-b-eq-INT_BASE : goal.returns-then-b-eq-INT_BASE
returns-then-b-eq-INT_BASE c = search calls

pub returns : goal.returns
returns c = search calls
