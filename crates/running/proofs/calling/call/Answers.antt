use Rattle.std.specs.Prelude.{None}
use Rattle.std.proofs.Common.{refl, ℕ, ◌<◌, ◌≤◌, sym, subst, length}
use Rattle.reader.specs.TypeCodes.{params_in}
use Rattle.rules.specs.Sites.{front}
use Rattle.rules.specs.declared.instruction.Callee.{Callee}
use Rattle.plain.specs.Calls.{window_at}
use Rattle.running.specs.Popping.{taken_of, taking_of, Pops, kin_of}
use Rattle.running.specs.Calling.{called_handed, entry_at, pop-asked}
use Rattle.running.specs.Receiving.{InitCall}
use Rattle.running.specs.Sending.{ready_at_lem, ready-entry, ready_built, built_called, call_unfit}
use Rattle.running.proofs.calling.call.Goals as goal

pub make_ready-requires : goal.make_ready-requires
make_ready-requires c = subst (λ (m : Callee). InitCall c.args.b.now c.args.t.now c.args.s.now c.args.g.now c.args.x c.args.d c.args.k m × (m.owner < 11)) (sym c.callee-m.ensures) (ready_built c.args.b.now c.args.t.now c.args.s.now c.args.g.now c.args.x c.args.d c.args.k c.args.i c.requires (subst (λ (m : Callee). m.owner < 11) c.callee-m.ensures c.if-m-lt11.true), subst (λ (m : Callee). m.owner < 11) c.callee-m.ensures c.if-m-lt11.true)

pub returns-then-m-lt11 : goal.returns-then-m-lt11
returns-then-m-lt11 c = built_called c.args.b.now c.args.t.now c.args.s.now c.args.g.now c.args.x c.args.d c.args.k c.args.cells.now c.args.t.now c.args.s.now c.args.g.now _ c.make_ready.result c.args.i _ c.callee-m.ensures c.requires c.if-m-lt11.true c.make_ready.ensures

pub entry-requires : goal.entry-requires
entry-requires c = c.if-m-lt11.false

pub pop_at-requires : goal.pop_at-requires
pop_at-requires c = pop-asked _ _ _ _ _ _ _ (ready_at_lem c.args.b.now c.args.t.now c.args.s.now c.args.g.now c.args.x c.args.d c.args.k c.args.i c.requires) _ (rw (c.entry.ensures, c.callee-m.ensures) (ready-entry c.args.b.now c.args.t.now c.args.s.now c.args.g.now c.args.x c.args.d c.args.k c.args.i c.requires (subst (λ (m : Callee). 11 ≤ m.owner) c.callee-m.ensures c.if-m-lt11.false)))

pub way_of-requires : goal.way_of-requires
way_of-requires c = (c.requires, subst (λ (m : Callee). 11 ≤ m.owner) c.callee-m.ensures c.if-m-lt11.false, record { pops = subst (λ (m : Callee). Pops (front c.args.t.now) (kin_of c.args.x.classes) c.args.cells.now (window_at c.args.s.now c.args.d) (window_at c.args.g.now c.args.d) (entry_at m.owner m.index) c.args.k.operands (taken_of c.in-Some.p)) c.callee-m.ensures (subst (λ (e : ℕ). Pops (front c.args.t.now) (kin_of c.args.x.classes) c.args.cells.now (window_at c.args.s.now c.args.d) (window_at c.args.g.now c.args.d) e c.args.k.operands (taken_of c.in-Some.p)) c.entry.ensures c.in-Some.ensures) })

pub returns-in_default : goal.returns-in_default
returns-in_default c = call_unfit c.args.b.now c.args.t.now c.args.s.now c.args.g.now c.args.x c.args.d c.args.k c.args.i c.requires (subst (λ (m : Callee). 11 ≤ m.owner) c.callee-m.ensures c.if-m-lt11.false) _ _ (subst (λ (m : Callee). Pops (front c.args.t.now) (kin_of c.args.x.classes) c.args.cells.now (window_at c.args.s.now c.args.d) (window_at c.args.g.now c.args.d) (entry_at m.owner m.index) c.args.k.operands (taking_of (length (params_in (front c.args.t.now) (entry_at m.owner m.index))) None)) c.callee-m.ensures (subst (λ (e : ℕ). Pops (front c.args.t.now) (kin_of c.args.x.classes) c.args.cells.now (window_at c.args.s.now c.args.d) (window_at c.args.g.now c.args.d) e c.args.k.operands (taking_of (length (params_in (front c.args.t.now) e)) None)) c.entry.ensures c.in_default.ensures)) refl

pub returns-in_err-way : goal.returns-in_err-way
returns-in_err-way c = called_handed _ _ _ _ _ _ _ _ _ _ _ c.from_residual.ensures.1 c.in_err-way.ensures.is

pub go_into-requires : goal.go_into-requires
go_into-requires c = c.in_ok-way.ensures.is.0

pub returns : goal.returns
returns c = c.in_ok-way.ensures.is.1 _ _ _ _ c.go_into.ensures
