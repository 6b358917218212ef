use Rattle.classfiles.specs.Signatures.{member_by, member_last, member_via}
use Rattle.texts.specs.Answers.{reads, t_ok}
use Rattle.classfiles.specs.Contents.{code_in}
use Rattle.classfiles.proofs.members.member.Goals as goal

pub returns-in_err-a : goal.returns-in_err-a
unfolding member_by
returns-in_err-a c = search (member_via, reads, c.in_err-a.ensures) depth 12

pub returns-in_err-k : goal.returns-in_err-k
unfolding member_by
returns-in_err-k c = search (member_via, reads, c.in_ok-a.ensures, c.in_err-k.ensures) depth 12

pub returns-in_err-d : goal.returns-in_err-d
unfolding member_by
returns-in_err-d c = search (member_via, reads, c.in_ok-a.ensures, c.in_ok-k.ensures, c.in_err-d.ensures) depth 12

pub returns : goal.returns
unfolding member_by
returns c =
    member_via _ _ _ _ _ (t_ok _ _ _ _ _ c.in_ok-a.ensures (t_ok _ _ _ _ _ c.in_ok-k.ensures (t_ok _ _ _ _ _ c.in_ok-d.ensures (member_last _ _ _ _ (code_in c.args.s.now) _ c.attributes.ensures))))
