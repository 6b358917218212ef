use Rattle.std.proofs.Common.{◌-◌, ◌+◌, ◌≡◌, arith}
use Rattle.reader.specs.Lookup.{seek_start, seek_out, seek_hit, seek_none, seek_up}
use Rattle.reader.proofs.lookup.seek_by.Goals as goal

pub loop-i-init : goal.loop-i-init
loop-i-init c =
    let e : 11 + c.args.n - 0 ≡ 11 + c.args.n = omega arith in
    rw e (seek_start c.args.s.now c.args.n c.args.t.now c.requires.0 _ _ c.args.from)

pub own_by-requires : goal.own_by-requires
own_by-requires c = let h = c.requires in (h.0, h.1, h.3, h.4)

pub returns-in-Some : goal.returns-in-Some
returns-in-Some c = seek_hit _ _ _ _ _ _ c.loop-i.invariant (omega arith) _ _ c.in-Some.ensures

pub returns-then-c-eq0 : goal.returns-then-c-eq0
returns-then-c-eq0 c = seek_none _ _ _ _ _ _ c.loop-i.invariant (omega arith) c.in_default.ensures c.if-c-eq0.true

pub loop-i-preserved : goal.loop-i-preserved
loop-i-preserved c =
    let e : 11 + c.args.n - c.loop-i._i - 1 ≡ 11 + c.args.n - (c.loop-i._i + 1) = omega arith in
    rw (← e) (seek_up _ _ _ _ _ _ c.loop-i.invariant (omega arith) c.in_default.ensures c.if-c-eq0.false _ c.above-c.ensures)

pub returns : goal.returns
returns c = seek_out _ _ _ _ _ _ c.loop-i.invariant (omega arith)
