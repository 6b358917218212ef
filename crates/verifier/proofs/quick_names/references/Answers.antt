use Rattle.std.proofs.Common.{refl, true, false}
use Rattle.rules.specs.Opcodes.{rows, row_in, row_of}
use Rattle.rules.specs.Decoding.{made}
use Rattle.rules.specs.Known.{hides}
use Rattle.rules.specs.declared.instruction.Plain.TheVariants.{Iaload, Iastore}
use Rattle.rules.specs.declared.instruction.Branch.TheVariants.{Ifnull}
use Rattle.rules.specs.declared.instruction.Stack.TheVariants.{Arraylength}
use Rattle.rules.specs.declared.instruction.Instr.TheVariants.{Simple, Jump, OnStack}
use Rattle.verifier.specs.Quick.{tried_arm, steady}
use Rattle.verifier.proofs.quick_names.references.Goals as goal

pub returns-in-46 : goal.returns-in-46
unfolding made row_of row_in rows steady hides
returns-in-46 c = tried_arm _ _ _ _ _ _ _ _ _ _ c.requires.0 c.requires.1 _ 46 c.requires.2 c.in-46.is (Simple Iaload) refl refl refl (λ P pool. refl) (c.load_element.ensures _ _)

pub returns-in-79 : goal.returns-in-79
unfolding made row_of row_in rows steady hides
returns-in-79 c = tried_arm _ _ _ _ _ _ _ _ _ _ c.requires.0 c.requires.1 _ 79 c.requires.2 c.in-79.is (Simple Iastore) refl refl refl (λ P pool. refl) (c.store_element.ensures _ _)

pub returns-in-190 : goal.returns-in-190
unfolding made row_of row_in rows steady hides
returns-in-190 c = tried_arm _ _ _ _ _ _ _ _ _ _ c.requires.0 c.requires.1 _ 190 c.requires.2 c.in-190.is (OnStack Arraylength) refl refl refl (λ P pool. refl) (c.measure.ensures _ _ _)

pub returns-in-198 : goal.returns-in-198
unfolding made row_of row_in rows steady hides
returns-in-198 c = tried_arm _ _ _ _ _ _ _ _ _ _ c.requires.0 c.requires.1 _ 198 c.requires.2 c.in-198.is (Jump (Ifnull true _)) refl refl refl (λ P pool. rw c.target.ensures) (c.test_null.ensures _ true)

pub returns-in-199 : goal.returns-in-199
unfolding made row_of row_in rows steady hides
returns-in-199 c = tried_arm _ _ _ _ _ _ _ _ _ _ c.requires.0 c.requires.1 _ 199 c.requires.2 c.in-199.is (Jump (Ifnull false _)) refl refl refl (λ P pool. rw c.target-in-199.ensures) (c.test_null-in-199.ensures _ false)
