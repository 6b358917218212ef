use Rattle.shaping.specs.Resolving.{named-word, field_none, field_there, field_some}
use Rattle.std.proofs.Common.{arith}
use Rattle.shaping.proofs.resolve.field_word.Goals as goal

pub returns-in_default : goal.returns-in_default
returns-in_default c = field_none c.args.s.now c.args.n c.args.t.now c.requires.0 c.requires.4 _ _ c.in_default.ensures

pub overflow_sub-r : goal.overflow_sub-r
overflow_sub-r c = (field_there c.args.s.now c.args.n c.args.t.now c.requires.0 c.requires.4 _ c.in-Some.r _ c.in-Some.ensures).low

pub field_code-code-requires : goal.field_code-code-requires
field_code-code-requires c = let x = field_there c.args.s.now c.args.n c.args.t.now c.requires.0 c.requires.4 _ c.in-Some.r _ c.in-Some.ensures in (c.requires.0, omega (arith, x.low, x.high), c.requires.2, x.row, omega (arith, x.small))

pub overflow_add-size : goal.overflow_add-size
overflow_add-size c = let x = field_there c.args.s.now c.args.n c.args.t.now c.requires.0 c.requires.4 _ c.in-Some.r _ c.in-Some.ensures in omega (arith, c.layout_size-size.ensures.1, x.small)

pub field_bits-requires : goal.field_bits-requires
field_bits-requires c = let x = field_there c.args.s.now c.args.n c.args.t.now c.requires.0 c.requires.4 _ c.in-Some.r _ c.in-Some.ensures in (c.field_code-code.ensures.1, c.requires.1, omega (arith, x.high, c.requires.0), omega (arith, c.layout_size-size.ensures.1, x.small))

pub returns : goal.returns
returns c = named-word _ _ _ _ _ c.field_bits.ensures (field_some c.args.s.now c.args.n c.args.t.now c.requires.0 c.requires.4 _ c.in-Some.r _ c.in-Some.ensures c.requires.1 _ _ _ c.field_code-code.ensures.0 c.field_code-code.ensures.1 c.above-up.ensures c.layout_size-size.ensures.0 c.layout_size-size.ensures.1)
