use Rattle.shaping.specs.Resolving.{named-word, hit_none, hit_some}
use Rattle.shaping.proofs.resolve.hit_word.Goals as goal

pub returns-in_default : goal.returns-in_default
returns-in_default c = rw c.in_default.is (hit_none c.args.s.now _ c.args.named)

pub method_bits-requires : goal.method_bits-requires
method_bits-requires c =
    let x = rw c.in-Some.is at c.requires.3 in
    (c.requires.1, x.0, x.1)

pub returns : goal.returns
returns c =
    let x = rw c.in-Some.is at c.requires.3 in
    named-word _ _ _ _ _ c.method_bits.ensures (rw c.in-Some.is (hit_some _ _ c.args.named c.in-Some.h c.requires.1 _ x _ c.is_static-fixed.ensures))
