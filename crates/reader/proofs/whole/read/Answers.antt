use Rattle.reader.specs.Whole.{read_bad, read_limited, read_ok, read_refused}
use Rattle.std.proofs.Common.{◌≤◌, length, arith}
use Rattle.reader.specs.Prints.{prints_end}
use Rattle.reader.proofs.whole.read.Goals as goal

pub linked-requires : goal.linked-requires
linked-requires c =
    let l : prints_end ≤ length c.read_bundle.new.t = omega (arith, c.requires, c.read_bundle.auto.t) in
    (c.in_ok-g.ensures.1, l, read_limited c.args.s.now c.read_bundle.new.t c.in_ok-g.g c.in_ok-g.ensures.0 c.in_ok-g.ensures.1 l)

pub returns-in_err-linked : goal.returns-in_err-linked
returns-in_err-linked c =
    let l : prints_end ≤ length c.read_bundle.new.t = omega (arith, c.requires, c.read_bundle.auto.t) in
    read_refused c.args.s.now c.read_bundle.new.t c.in_ok-g.g c.in_ok-g.ensures.0 c.in_ok-g.ensures.1 l c.linked.new.t _ c.in_err-linked.ensures _ c.from_residual-in_err-linked.ensures.1

pub returns : goal.returns
returns c =
    let l : prints_end ≤ length c.read_bundle.new.t = omega (arith, c.requires, c.read_bundle.auto.t) in
    read_ok c.args.s.now c.read_bundle.new.t c.in_ok-g.g c.in_ok-g.ensures.0 c.in_ok-g.ensures.1 l c.linked.new.t _ c.in_ok-linked.ensures

pub returns-in_err-g : goal.returns-in_err-g
returns-in_err-g c = read_bad c.args.s.now c.read_bundle.new.t c.in_err-g.field-0.0 c.in_err-g.ensures.0 _ c.from_residual.ensures.1
