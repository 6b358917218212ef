use Rattle.plain.specs.WindowForms.{turnings}
use Rattle.plain.proofs.forms.dup_under.Goals as goal

pub returns-then-c-lt2 : goal.returns-then-c-lt2
returns-then-c-lt2 c = search turnings

pub returns-then-c : goal.returns-then-c
returns-then-c c = search turnings

pub returns : goal.returns
returns c = search turnings
