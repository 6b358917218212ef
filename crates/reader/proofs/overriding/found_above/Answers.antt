use Rattle.std.proofs.Common.{true}
use Rattle.reader.specs.Prints.{print_texts}
use Rattle.reader.specs.MemberAt.{above_by}
use Rattle.reader.proofs.overriding.found_above.Goals as goal

pub seek_by-requires : goal.seek_by-requires
seek_by-requires c = (c.requires.0, c.requires.2, c.requires.5, c.requires.6, print_texts c.args.s.now c.args.t.now c.args.c true c.args.j _ _ _ (c.requires.6.at c.args.c c.requires.1 true) c.requires.3 c.print_at-q.ensures c.member_name-x.ensures c.member_descriptor-y.ensures)

pub returns : goal.returns
returns c = above_by c.args.s.now c.args.n c.args.t.now c.requires.0 c.args.c c.requires.1 c.args.j _ _ _ c.seek_by.result c.requires.3 c.member_name-x.ensures c.member_descriptor-y.ensures c.above-up.ensures c.seek_by.ensures
