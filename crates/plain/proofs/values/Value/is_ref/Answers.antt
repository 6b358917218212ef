use Rattle.plain.specs.ValueLaws.{tags}
use Rattle.plain.proofs.values.Value.is_ref.Goals as goal

pub returns : goal.returns
returns c = search tags
