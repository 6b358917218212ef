use Rattle.std.proofs.Common.{false}
use Rattle.reader.specs.MemberPass.{ready-row, field_known_as}
use Rattle.reader.proofs.linking.field_known.Goals as goal

pub member_descriptor-x-requires : goal.member_descriptor-x-requires
member_descriptor-x-requires c = ready-row c.args.s.now c.args.n c.args.t.now c.requires.0 c.args.c c.requires.1 false c.args.j c.requires.2

pub returns : goal.returns
returns c = field_known_as c.args.s.now c.args.n c.args.t.now c.args.c c.args.j _ _ _ c.requires.0 c.requires.1 c.requires.2 c.member_descriptor-x.ensures c.field_type.ensures.0 c.is_known.ensures
