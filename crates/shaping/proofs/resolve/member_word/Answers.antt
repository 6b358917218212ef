use Rattle.shaping.specs.Resolving.{member_in, no_signature, signature_of, member-method, member-field}
use Rattle.reader.specs.Program.{program_of}
use Rattle.reader.specs.Linked.{files_in}
use Rattle.shaping.proofs.resolve.member_word.Goals as goal

pub returns-in_default : goal.returns-in_default
returns-in_default c = no_signature c.args.s.now _ _ c.entry_in.result _ c.entry_in.ensures _ c.in_default.not-NameAndType

pub returns-then-method : goal.returns-then-method
returns-then-method c = signature_of c.args.s.now _ _ c.entry_in.result _ c.entry_in.ensures (member_in (program_of (files_in c.args.s.now c.args.n c.args.t.now)) c.args.method c.args.named) _ _ _ _ _ c.in-NameAndType.is c.text_in-x.ensures c.text_in-y.ensures (member-method _ _ _ _ _ _ c.if-method.true c.method_word.ensures)

pub returns : goal.returns
returns c = signature_of c.args.s.now _ _ c.entry_in.result _ c.entry_in.ensures (member_in (program_of (files_in c.args.s.now c.args.n c.args.t.now)) c.args.method c.args.named) _ _ _ _ _ c.in-NameAndType.is c.text_in-x.ensures c.text_in-y.ensures (member-field _ _ _ _ _ _ c.if-method.false c.field_word.ensures)
