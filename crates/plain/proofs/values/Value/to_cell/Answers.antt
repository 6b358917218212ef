use Rattle.plain.specs.ValueLaws.{tags}
use Rattle.plain.proofs.values.Value.to_cell.Goals as goal

pub returns-then-self-eq-NUM : goal.returns-then-self-eq-NUM
returns-then-self-eq-NUM c = search tags

pub returns-then-self-eq-REF : goal.returns-then-self-eq-REF
returns-then-self-eq-REF c = search tags

pub returns : goal.returns
returns c = search tags
