use Rattle.reader.specs.Prints.{print_texts, first_under}
use Rattle.reader.specs.MemberRows.{sig_by}
use Rattle.std.proofs.Common.{arith}
use Rattle.reader.proofs.signature.is_first_text.Goals as goal

pub first_of-requires : goal.first_of-requires
first_of-requires c = (c.requires.0, c.requires.1, omega (arith, c.requires.2), print_texts c.args.s.now c.args.t.now c.args.c c.args.method c.args.j _ _ _ c.requires.1 c.requires.2 c.requires.3 c.member_name-x.ensures c.member_descriptor-y.ensures)

pub returns : goal.returns
returns c = first_under c.args.s.now _ c.args.method c.args.j _ _ (sig_by c.args.s.now _ c.args.method c.args.j _ _ c.member_name-x.ensures c.member_descriptor-y.ensures) c.requires.2 c.first_of.ensures
