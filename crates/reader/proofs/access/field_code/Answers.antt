use Rattle.reader.specs.Access.{field-type_as}
use Rattle.reader.proofs.access.field_code.Goals as goal

pub returns : goal.returns
returns c = (field-type_as _ _ _ c.requires.0 _ c.requires.1 _ _ _ c.requires.3 c.member_descriptor-x.ensures c.field_type.ensures.0, c.field_type.ensures.1)
