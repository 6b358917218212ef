use Rattle.classfiles.specs.Bundle.{version_at}
use Rattle.texts.specs.Answers.{reads}
use Rattle.classfiles.proofs.bundle.version.Goals as goal

pub returns-in_err-minor : goal.returns-in_err-minor
unfolding version_at
returns-in_err-minor c = search (reads, c.in_err-minor.ensures) depth 12

pub returns-then-minor-ne0 : goal.returns-then-minor-ne0
unfolding version_at
returns-then-minor-ne0 c = search (reads, c.in_ok-minor.ensures) depth 12

pub returns-in_err-v : goal.returns-in_err-v
unfolding version_at
returns-in_err-v c = search (reads, c.in_ok-minor.ensures, c.in_err-v.ensures) depth 12

pub returns-then-v-eq51 : goal.returns-then-v-eq51
unfolding version_at
returns-then-v-eq51 c = search (reads, c.in_ok-minor.ensures, c.in_ok-v.ensures) depth 12

pub returns-then-v-eq52 : goal.returns-then-v-eq52
unfolding version_at
returns-then-v-eq52 c = search (reads, c.in_ok-minor.ensures, c.in_ok-v.ensures) depth 12

pub returns : goal.returns
unfolding version_at
returns c = search (reads, c.in_ok-minor.ensures, c.in_ok-v.ensures) depth 12
