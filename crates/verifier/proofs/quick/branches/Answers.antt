use Rattle.std.proofs.Common.{refl}
use Rattle.rules.specs.Opcodes.{rows, row_in, row_of}
use Rattle.rules.specs.Decoding.{made}
use Rattle.rules.specs.Known.{hides}
use Rattle.rules.specs.declared.instruction.Test.TheVariants.{Eq, Ne, Lt, Ge, Gt, Le}
use Rattle.rules.specs.declared.instruction.Branch.TheVariants.{Goto, Ifint, Ificmp}
use Rattle.rules.specs.declared.instruction.Instr.TheVariants.{Jump}
use Rattle.verifier.specs.Quick.{tried_arm, steady}
use Rattle.verifier.proofs.quick.branches.Goals as goal

pub returns-in-153 : goal.returns-in-153
unfolding made row_of row_in rows steady hides
returns-in-153 c = tried_arm _ _ _ _ _ _ _ _ _ _ c.requires.0 c.requires.1 _ 153 c.requires.2 c.in-153.is (Jump (Ifint Eq _)) refl refl refl (λ P pool. rw c.target.ensures) (c.test.ensures _ Eq)

pub returns-in-154 : goal.returns-in-154
unfolding made row_of row_in rows steady hides
returns-in-154 c = tried_arm _ _ _ _ _ _ _ _ _ _ c.requires.0 c.requires.1 _ 154 c.requires.2 c.in-154.is (Jump (Ifint Ne _)) refl refl refl (λ P pool. rw c.target-in-154.ensures) (c.test-in-154.ensures _ Ne)

pub returns-in-155 : goal.returns-in-155
unfolding made row_of row_in rows steady hides
returns-in-155 c = tried_arm _ _ _ _ _ _ _ _ _ _ c.requires.0 c.requires.1 _ 155 c.requires.2 c.in-155.is (Jump (Ifint Lt _)) refl refl refl (λ P pool. rw c.target-in-155.ensures) (c.test-in-155.ensures _ Lt)

pub returns-in-156 : goal.returns-in-156
unfolding made row_of row_in rows steady hides
returns-in-156 c = tried_arm _ _ _ _ _ _ _ _ _ _ c.requires.0 c.requires.1 _ 156 c.requires.2 c.in-156.is (Jump (Ifint Ge _)) refl refl refl (λ P pool. rw c.target-in-156.ensures) (c.test-in-156.ensures _ Ge)

pub returns-in-157 : goal.returns-in-157
unfolding made row_of row_in rows steady hides
returns-in-157 c = tried_arm _ _ _ _ _ _ _ _ _ _ c.requires.0 c.requires.1 _ 157 c.requires.2 c.in-157.is (Jump (Ifint Gt _)) refl refl refl (λ P pool. rw c.target-in-157.ensures) (c.test-in-157.ensures _ Gt)

pub returns-in-158 : goal.returns-in-158
unfolding made row_of row_in rows steady hides
returns-in-158 c = tried_arm _ _ _ _ _ _ _ _ _ _ c.requires.0 c.requires.1 _ 158 c.requires.2 c.in-158.is (Jump (Ifint Le _)) refl refl refl (λ P pool. rw c.target-in-158.ensures) (c.test-in-158.ensures _ Le)

pub returns-in-159 : goal.returns-in-159
unfolding made row_of row_in rows steady hides
returns-in-159 c = tried_arm _ _ _ _ _ _ _ _ _ _ c.requires.0 c.requires.1 _ 159 c.requires.2 c.in-159.is (Jump (Ificmp Eq _)) refl refl refl (λ P pool. rw c.target-in-159.ensures) (c.compare.ensures _ Eq)

pub returns-in-160 : goal.returns-in-160
unfolding made row_of row_in rows steady hides
returns-in-160 c = tried_arm _ _ _ _ _ _ _ _ _ _ c.requires.0 c.requires.1 _ 160 c.requires.2 c.in-160.is (Jump (Ificmp Ne _)) refl refl refl (λ P pool. rw c.target-in-160.ensures) (c.compare-in-160.ensures _ Ne)

pub returns-in-161 : goal.returns-in-161
unfolding made row_of row_in rows steady hides
returns-in-161 c = tried_arm _ _ _ _ _ _ _ _ _ _ c.requires.0 c.requires.1 _ 161 c.requires.2 c.in-161.is (Jump (Ificmp Lt _)) refl refl refl (λ P pool. rw c.target-in-161.ensures) (c.compare-in-161.ensures _ Lt)

pub returns-in-162 : goal.returns-in-162
unfolding made row_of row_in rows steady hides
returns-in-162 c = tried_arm _ _ _ _ _ _ _ _ _ _ c.requires.0 c.requires.1 _ 162 c.requires.2 c.in-162.is (Jump (Ificmp Ge _)) refl refl refl (λ P pool. rw c.target-in-162.ensures) (c.compare-in-162.ensures _ Ge)

pub returns-in-163 : goal.returns-in-163
unfolding made row_of row_in rows steady hides
returns-in-163 c = tried_arm _ _ _ _ _ _ _ _ _ _ c.requires.0 c.requires.1 _ 163 c.requires.2 c.in-163.is (Jump (Ificmp Gt _)) refl refl refl (λ P pool. rw c.target-in-163.ensures) (c.compare-in-163.ensures _ Gt)

pub returns-in-164 : goal.returns-in-164
unfolding made row_of row_in rows steady hides
returns-in-164 c = tried_arm _ _ _ _ _ _ _ _ _ _ c.requires.0 c.requires.1 _ 164 c.requires.2 c.in-164.is (Jump (Ificmp Le _)) refl refl refl (λ P pool. rw c.target-in-164.ensures) (c.compare-in-164.ensures _ Le)

pub returns-in-167 : goal.returns-in-167
unfolding made row_of row_in rows steady hides
returns-in-167 c = tried_arm _ _ _ _ _ _ _ _ _ _ c.requires.0 c.requires.1 _ 167 c.requires.2 c.in-167.is (Jump (Goto _)) refl refl refl (λ P pool. rw c.target-in-167.ensures) (c.goto.ensures _)
