use Rattle.classfiles.specs.Blocks.{block_size}
use Rattle.classfiles.specs.Bundle.{class_files_at}
use Rattle.classfiles.specs.Classes.{block-length, class_end, files_done, files_start, files_stop, files_turn, last_bad, last_ok, turn-length}
use Rattle.classfiles.specs.Past.{no_value, res_err}
use Rattle.std.proofs.Common.{arith, refl, ◌∙◌}
use Rattle.std.specs.Prelude.{length, ◌*◌, ◌≡◌, ◌≤◌}
use Rattle.classfiles.proofs.bundle.class_files.Goals as goal

pub loop-k-init : goal.loop-k-init
loop-k-init c = (refl, omega arith, files_start _ _)

pub returns-then-q-s : goal.returns-then-q-s
returns-then-q-s c = (files_done _ _ _ c.loop-k-test.true _ _ c.loop-k.invariant.2 c.if-q-s.true, omega arith)

pub returns-in_err-q : goal.returns-in_err-q
returns-in_err-q c = (res_err _ _ _ c.from_residual.ensures.1 ∙ files_stop _ _ _ c.loop-k-test.true _ _ c.loop-k.invariant.2 c.if-q-s.false _ _ c.in_err-q.ensures, no_value _ _ _ c.from_residual.ensures.1)

pub loop-k-preserved : goal.loop-k-preserved
loop-k-preserved c =
    let l = c.loop-k in
    let g = c.class_file in
    let lt : 16 * block_size ≤ length l.t = omega (arith, l.invariant.0) in
    let lp : length g.new.b ≡ block_size = g.auto.b ∙ block-length l.t l.k c.loop-k-test.true lt in
    (turn-length c.args.s.now l.t g.new.b l.k l.q 0 (class_files_at c.args.s.now 16 0) c.loop-k-test.true lt lp ∙ l.invariant.0, class_end _ _ _ _ c.in_ok-q.ensures, files_turn c.args.s.now l.t g.new.b l.k l.q _ _ c.loop-k-test.true lt lp l.invariant.2 c.if-q-s.false c.in_ok-q.ensures)

pub returns-in_err-at : goal.returns-in_err-at
returns-in_err-at c = (res_err _ _ _ c.from_residual-in_err-at.ensures.1 ∙ last_bad _ _ _ _ _ c.loop-k.invariant.2 c.loop-k-test.false (omega arith) _ _ c.in_err-at.ensures, no_value _ _ _ c.from_residual-in_err-at.ensures.1)

pub returns : goal.returns
returns c = (last_ok _ _ _ _ _ c.loop-k.invariant.2 c.loop-k-test.false (omega arith) _ c.in_ok-at.ensures, omega arith)
