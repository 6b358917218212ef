use Rattle.std.proofs.Common.{◌∙◌, arith, rules}
use Rattle.reader.specs.Numbers.{other_name, number_first}
use Rattle.kit.specs.Scan.{first_le}
use Rattle.reader.proofs.link.find.Goals as goal

pub returns : goal.returns
returns c =
    let z = c.first_not.ensures (other_name c.args.s.now c.args.t.now c.args.x.now) (λ i b h p. search rules) in
    (z ∙ number_first _ _ _ _, omega (arith, first_le (other_name c.args.s.now c.args.t.now c.args.x.now) c.args.n 0))
