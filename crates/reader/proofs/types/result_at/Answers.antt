use Rattle.reader.specs.CodeLaws.{result_no, result_yes}
use Rattle.reader.proofs.types.result_at.Goals as goal

pub returns-then-byte-lt32 : goal.returns-then-byte-lt32
returns-then-byte-lt32 c = result_no _ _ _ c.byte.ensures.0 c.if-byte-lt32.true

pub returns : goal.returns
returns c = result_yes _ _ _ _ c.byte.ensures.0 c.if-byte-lt32.false c.byte-2.ensures.0 c.byte-2.ensures.1
