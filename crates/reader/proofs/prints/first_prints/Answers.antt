use Rattle.std.proofs.Common.{◌≡◌, ◌+◌, ◌-◌, ◌*◌, arith}
use Rattle.reader.specs.Prints.{word_of}
use Rattle.reader.proofs.prints.first_prints.Goals as goal

pub slice_bounds-result-end : goal.slice_bounds-result-end
slice_bounds-result-end c = omega (arith, c.first_word-f.ensures.0, (word_of c.args.c c.args.method c.requires.0).1, c.requires.1, c.requires.2)

pub returns : goal.returns
returns c =
    let z : 4 * c.first_word-f.result + 4 * c.args.n - 4 * c.first_word-f.result ≡ 4 * c.args.n = omega arith in
    rw (z, c.first_word-f.ensures.0)
