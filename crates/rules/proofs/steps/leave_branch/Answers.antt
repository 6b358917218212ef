use Rattle.std.proofs.Common.{[], ap, refl, ◌∙◌, length}
use Rattle.rules.specs.Forms.{branch_takes}
use Rattle.rules.specs.GroupLaws.{turned_to}
use Rattle.rules.specs.Slots.{held}
use Rattle.rules.proofs.steps.leave_branch.Goals as goal

pub returns : goal.returns
returns c = (c.leave_form.ensures.0, turned_to _ (held c.args.t.now c.args.h) c.count.result (branch_takes c.args.i) [] [] c.leave_form.ensures.1 (c.count.ensures ∙ ap length c.branch_takes.ensures) refl, c.leave_form.ensures.2)
