use Rattle.rules.specs.TypeWords.{nest, base_of}
use Rattle.rules.specs.Opcodes.{rows, row_in, row_of}
use Rattle.rules.specs.Decoding.{made}
use Rattle.std.proofs.Common.{ne_eqb}
use Rattle.rules.proofs.decode.int_array.Goals as goal

pub returns-then-x-eq10 : goal.returns-then-x-eq10
unfolding made row_of row_in rows nest base_of
returns-then-x-eq10 c = record { is = λ P pool. rw (c.requires, c.if-x-eq10.true) }

pub returns : goal.returns
unfolding made row_of row_in rows nest base_of
returns c = record { is = λ P pool. rw (c.requires, ne_eqb c.args.x.first 10 c.if-x-eq10.false) }
