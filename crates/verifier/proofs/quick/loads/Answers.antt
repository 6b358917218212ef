use Rattle.std.proofs.Common.{refl}
use Rattle.rules.specs.Opcodes.{rows, row_in, row_of}
use Rattle.rules.specs.Decoding.{made}
use Rattle.rules.specs.Known.{hides}
use Rattle.rules.specs.declared.instruction.Local.TheVariants.{Iload, Aload}
use Rattle.rules.specs.declared.instruction.Instr.TheVariants.{OnLocal}
use Rattle.verifier.specs.Quick.{tried_arm, steady}
use Rattle.verifier.proofs.quick.loads.Goals as goal

pub returns-in-21 : goal.returns-in-21
unfolding made row_of row_in rows steady hides
returns-in-21 c = tried_arm _ _ _ _ _ _ _ _ _ _ c.requires.0 c.requires.1 _ 21 c.requires.2 c.in-21.is (OnLocal (Iload _)) refl refl refl (λ P pool. rw c.first.ensures) (c.load_int.ensures _ _ _)

pub returns-in-25 : goal.returns-in-25
unfolding made row_of row_in rows steady hides
returns-in-25 c = tried_arm _ _ _ _ _ _ _ _ _ _ c.requires.0 c.requires.1 _ 25 c.requires.2 c.in-25.is (OnLocal (Aload _)) refl refl refl (λ P pool. rw c.first-in-25.ensures) (c.load_reference.ensures _ _ _)

pub returns-in-26 : goal.returns-in-26
unfolding made row_of row_in rows steady hides
returns-in-26 c = tried_arm _ _ _ _ _ _ _ _ _ _ c.requires.0 c.requires.1 _ 26 c.requires.2 c.in-26.is (OnLocal (Iload 0)) refl refl refl (λ P pool. refl) (c.load_int-in-26.ensures _ _ _)

pub returns-in-27 : goal.returns-in-27
unfolding made row_of row_in rows steady hides
returns-in-27 c = tried_arm _ _ _ _ _ _ _ _ _ _ c.requires.0 c.requires.1 _ 27 c.requires.2 c.in-27.is (OnLocal (Iload 1)) refl refl refl (λ P pool. refl) (c.load_int-in-27.ensures _ _ _)

pub returns-in-28 : goal.returns-in-28
unfolding made row_of row_in rows steady hides
returns-in-28 c = tried_arm _ _ _ _ _ _ _ _ _ _ c.requires.0 c.requires.1 _ 28 c.requires.2 c.in-28.is (OnLocal (Iload 2)) refl refl refl (λ P pool. refl) (c.load_int-in-28.ensures _ _ _)

pub returns-in-29 : goal.returns-in-29
unfolding made row_of row_in rows steady hides
returns-in-29 c = tried_arm _ _ _ _ _ _ _ _ _ _ c.requires.0 c.requires.1 _ 29 c.requires.2 c.in-29.is (OnLocal (Iload 3)) refl refl refl (λ P pool. refl) (c.load_int-in-29.ensures _ _ _)

pub returns-in-42 : goal.returns-in-42
unfolding made row_of row_in rows steady hides
returns-in-42 c = tried_arm _ _ _ _ _ _ _ _ _ _ c.requires.0 c.requires.1 _ 42 c.requires.2 c.in-42.is (OnLocal (Aload 0)) refl refl refl (λ P pool. refl) (c.load_reference-in-42.ensures _ _ _)

pub returns-in-43 : goal.returns-in-43
unfolding made row_of row_in rows steady hides
returns-in-43 c = tried_arm _ _ _ _ _ _ _ _ _ _ c.requires.0 c.requires.1 _ 43 c.requires.2 c.in-43.is (OnLocal (Aload 1)) refl refl refl (λ P pool. refl) (c.load_reference-in-43.ensures _ _ _)

pub returns-in-44 : goal.returns-in-44
unfolding made row_of row_in rows steady hides
returns-in-44 c = tried_arm _ _ _ _ _ _ _ _ _ _ c.requires.0 c.requires.1 _ 44 c.requires.2 c.in-44.is (OnLocal (Aload 2)) refl refl refl (λ P pool. refl) (c.load_reference-in-44.ensures _ _ _)

pub returns-in-45 : goal.returns-in-45
unfolding made row_of row_in rows steady hides
returns-in-45 c = tried_arm _ _ _ _ _ _ _ _ _ _ c.requires.0 c.requires.1 _ 45 c.requires.2 c.in-45.is (OnLocal (Aload 3)) refl refl refl (λ P pool. refl) (c.load_reference-in-45.ensures _ _ _)
