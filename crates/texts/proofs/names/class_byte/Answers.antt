use Rattle.kit.specs.Pick.{calls}
use native.Mathlib.Omega.{arith}
use Rattle.texts.specs.Names.{class_byte, plain_via}
use Rattle.texts.proofs.names.class_byte.Goals as goal

pub returns-then-i-eq0 : goal.returns-then-i-eq0
unfolding class_byte
returns-then-i-eq0 c = search (plain_via, calls, arith) depth 16

pub returns-then-byte-eq47 : goal.returns-then-byte-eq47
unfolding class_byte
returns-then-byte-eq47 c = search (plain_via, calls, arith) depth 16

pub returns-then-b-eq47 : goal.returns-then-b-eq47
unfolding class_byte
returns-then-b-eq47 c = search (plain_via, calls, arith) depth 16

pub returns : goal.returns
unfolding class_byte
returns c = search (plain_via, calls, arith) depth 16
