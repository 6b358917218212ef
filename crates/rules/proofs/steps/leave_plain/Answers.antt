use Rattle.rules.specs.Forms.{plain_takes}
use Rattle.rules.specs.GroupLaws.{turned_to}
use Rattle.rules.specs.Slots.{held}
use Rattle.std.proofs.Common.{ap, ◌∙◌, length}
use Rattle.rules.proofs.steps.leave_plain.Goals as goal

pub returns : goal.returns
returns c = (c.leave_form.ensures.0, turned_to _ (held c.args.t.now c.args.h) c.count.result (plain_takes c.args.i) _ _ c.leave_form.ensures.1 (c.count.ensures ∙ ap length c.plain_takes.ensures) c.plain_gives.ensures, c.leave_form.ensures.2)
