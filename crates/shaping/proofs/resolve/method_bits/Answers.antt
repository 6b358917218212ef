use Rattle.std.proofs.Common.{◌≡◌, arith}
use Rattle.std.proofs.lemmas.Grind.{common_steps}
use Rattle.shaping.specs.Resolving.{flag_of}
use Rattle.shaping.proofs.resolve.method_bits.Goals as goal

pub returns : goal.returns
unfolding flag_of
returns c =
    let a : c.from.result ≡ flag_of c.args.fixed = grind (arith, common_steps) in
    let b : c.from-2.result ≡ flag_of c.args.init = grind (arith, common_steps) in
    omega arith
