use Rattle.reader.specs.Linked.{under, linked_double, linked_unknown, linked-cut, linked_pass}
use Rattle.std.proofs.Common.{arith, ◌≡◌, ◌+◌, ◌*◌, ◌≤◌, length}
use Rattle.reader.proofs.link.classes.Goals as goal

pub returns-then-i-n : goal.returns-then-i-n
returns-then-i-n c =
    linked_double c.args.s.now c.args.n c.args.t.now c.requires.0 _ c.first_double-i.ensures c.if-i-n.true c.refuse.result c.refuse.ensures

pub refuse-requires-then-j-n : goal.refuse-requires-then-j-n
refuse-requires-then-j-n c = under _ _ c.if-j-n.true c.requires.0

pub returns-then-j-n : goal.returns-then-j-n
returns-then-j-n c =
    linked_unknown c.args.s.now c.args.n c.args.t.now c.requires.0 _ c.first_double-i.ensures c.if-i-n.false _ c.first_unknown-j.ensures c.if-j-n.true c.refuse-then-j-n.result c.refuse-then-j-n.ensures

pub slice_bounds-first_cut-end : goal.slice_bounds-first_cut-end
slice_bounds-first_cut-end c =
    let l : length c.parents.new.t ≡ length c.args.t.now = c.parents.auto.t in let z : 102912 + 4 * (11 + c.args.n) ≤ length c.parents.new.t = omega (arith, c.requires.0, c.requires.1) in z

pub refuse-requires-then-k-n : goal.refuse-requires-then-k-n
refuse-requires-then-k-n c =
    under _ _ c.if-k-n.true c.requires.0

pub returns-then-k-n : goal.returns-then-k-n
returns-then-k-n c =
    let l : length c.parents.new.t ≡ length c.args.t.now = c.parents.auto.t in linked-cut c.args.s.now c.args.n c.args.t.now c.requires.0 _ c.first_double-i.ensures c.if-i-n.false _ c.first_unknown-j.ensures c.if-j-n.false c.parents.new.t c.parents.ensures.0 c.parents.ensures.1 (omega (arith, c.requires.1)) _ c.first_cut-k.ensures c.if-k-n.true c.refuse-then-k-n.result c.refuse-then-k-n.ensures

pub returns : goal.returns
returns c =
    let l : length c.parents.new.t ≡ length c.args.t.now = c.parents.auto.t in linked_pass c.args.s.now c.args.n c.args.t.now c.requires.0 _ c.first_double-i.ensures c.if-i-n.false _ c.first_unknown-j.ensures c.if-j-n.false c.parents.new.t c.parents.ensures.0 c.parents.ensures.1 (omega (arith, c.requires.1)) _ c.first_cut-k.ensures c.if-k-n.false _
