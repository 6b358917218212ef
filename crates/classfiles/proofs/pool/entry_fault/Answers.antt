use Rattle.classfiles.specs.Faults.{fault-class, fault-field, fault-method, fault_other, fault_pair}
use Rattle.classfiles.proofs.pool.entry_fault.Goals.{then-kind-eq9-via-then-kind-eq9, then-kind-eq9-via-else-kind-eq9+then-kind-eq10}
use Rattle.classfiles.proofs.pool.entry_fault.Goals as goal

pub returns-then-kind-eq7 : goal.returns-then-kind-eq7
returns-then-kind-eq7 c =
    fault-class c.args.s.now _ _ c.place-q.result c.byte-kind.result (c.place-q.ensures c.args.s.now c.well_formed.0.0) c.byte-kind.ensures.0 _ c.u2_at.result c.if-kind-eq7.true c.u2_at.ensures.0 c.name_fault.ensures

pub returns-then-kind-eq9 : goal.returns-then-kind-eq9
returns-then-kind-eq9 c =
    let x = c.u2_at-then-kind-eq9.ensures.0 in
    let y = c.u2_at-then-kind-eq9-2.ensures.0 in
    elim c.then-kind-eq9.branch [
      | then-kind-eq9-via-then-kind-eq9 w ↦ fault-field c.args.s.now _ _ c.place-q.result c.byte-kind.result (c.place-q.ensures c.args.s.now c.well_formed.0.0) c.byte-kind.ensures.0 _ _ _ x y w.if-kind-eq9.true cc
      | then-kind-eq9-via-else-kind-eq9+then-kind-eq10 w ↦ fault-method c.args.s.now _ _ c.place-q.result c.byte-kind.result (c.place-q.ensures c.args.s.now c.well_formed.0.0) c.byte-kind.ensures.0 _ _ _ x y w.if-kind-eq10.true cc
    ]

pub returns-then-kind-eq12 : goal.returns-then-kind-eq12
returns-then-kind-eq12 c =
    fault_pair c.args.s.now _ _ c.place-q.result c.byte-kind.result (c.place-q.ensures c.args.s.now c.well_formed.0.0) c.byte-kind.ensures.0 _ _ _ c.u2_at-then-kind-eq12.ensures.0 c.u2_at-then-kind-eq12-2.ensures.0 c.if-kind-eq12.true cc

pub returns : goal.returns
returns c =
    fault_other c.args.s.now _ _ c.place-q.result c.byte-kind.result (c.place-q.ensures c.args.s.now c.well_formed.0.0) c.byte-kind.ensures.0 c.if-kind-eq7.false c.if-kind-eq9.false c.if-kind-eq10.false c.if-kind-eq12.false
