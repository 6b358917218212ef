use Rattle.std.proofs.Common.{refl}
use Rattle.rules.specs.Opcodes.{rows, row_in, row_of}
use Rattle.rules.specs.Decoding.{made}
use Rattle.rules.specs.Known.{hides}
use Rattle.rules.specs.declared.instruction.Local.TheVariants.{Istore, Astore}
use Rattle.rules.specs.declared.instruction.Instr.TheVariants.{OnLocal}
use Rattle.verifier.specs.Quick.{tried_arm, steady}
use Rattle.verifier.proofs.quick.stores.Goals as goal

pub returns-in-54 : goal.returns-in-54
unfolding made row_of row_in rows steady hides
returns-in-54 c = tried_arm _ _ _ _ _ _ _ _ _ _ c.requires.0 c.requires.1 _ 54 c.requires.2 c.in-54.is (OnLocal (Istore _)) refl refl refl (λ P pool. rw c.first.ensures) (c.store_int.ensures _ _ _)

pub returns-in-58 : goal.returns-in-58
unfolding made row_of row_in rows steady hides
returns-in-58 c = tried_arm _ _ _ _ _ _ _ _ _ _ c.requires.0 c.requires.1 _ 58 c.requires.2 c.in-58.is (OnLocal (Astore _)) refl refl refl (λ P pool. rw c.first-in-58.ensures) (c.store_reference.ensures _ _ _)

pub returns-in-59 : goal.returns-in-59
unfolding made row_of row_in rows steady hides
returns-in-59 c = tried_arm _ _ _ _ _ _ _ _ _ _ c.requires.0 c.requires.1 _ 59 c.requires.2 c.in-59.is (OnLocal (Istore 0)) refl refl refl (λ P pool. refl) (c.store_int-in-59.ensures _ _ _)

pub returns-in-60 : goal.returns-in-60
unfolding made row_of row_in rows steady hides
returns-in-60 c = tried_arm _ _ _ _ _ _ _ _ _ _ c.requires.0 c.requires.1 _ 60 c.requires.2 c.in-60.is (OnLocal (Istore 1)) refl refl refl (λ P pool. refl) (c.store_int-in-60.ensures _ _ _)

pub returns-in-61 : goal.returns-in-61
unfolding made row_of row_in rows steady hides
returns-in-61 c = tried_arm _ _ _ _ _ _ _ _ _ _ c.requires.0 c.requires.1 _ 61 c.requires.2 c.in-61.is (OnLocal (Istore 2)) refl refl refl (λ P pool. refl) (c.store_int-in-61.ensures _ _ _)

pub returns-in-62 : goal.returns-in-62
unfolding made row_of row_in rows steady hides
returns-in-62 c = tried_arm _ _ _ _ _ _ _ _ _ _ c.requires.0 c.requires.1 _ 62 c.requires.2 c.in-62.is (OnLocal (Istore 3)) refl refl refl (λ P pool. refl) (c.store_int-in-62.ensures _ _ _)

pub returns-in-75 : goal.returns-in-75
unfolding made row_of row_in rows steady hides
returns-in-75 c = tried_arm _ _ _ _ _ _ _ _ _ _ c.requires.0 c.requires.1 _ 75 c.requires.2 c.in-75.is (OnLocal (Astore 0)) refl refl refl (λ P pool. refl) (c.store_reference-in-75.ensures _ _ _)

pub returns-in-76 : goal.returns-in-76
unfolding made row_of row_in rows steady hides
returns-in-76 c = tried_arm _ _ _ _ _ _ _ _ _ _ c.requires.0 c.requires.1 _ 76 c.requires.2 c.in-76.is (OnLocal (Astore 1)) refl refl refl (λ P pool. refl) (c.store_reference-in-76.ensures _ _ _)

pub returns-in-77 : goal.returns-in-77
unfolding made row_of row_in rows steady hides
returns-in-77 c = tried_arm _ _ _ _ _ _ _ _ _ _ c.requires.0 c.requires.1 _ 77 c.requires.2 c.in-77.is (OnLocal (Astore 2)) refl refl refl (λ P pool. refl) (c.store_reference-in-77.ensures _ _ _)

pub returns-in-78 : goal.returns-in-78
unfolding made row_of row_in rows steady hides
returns-in-78 c = tried_arm _ _ _ _ _ _ _ _ _ _ c.requires.0 c.requires.1 _ 78 c.requires.2 c.in-78.is (OnLocal (Astore 3)) refl refl refl (λ P pool. refl) (c.store_reference-in-78.ensures _ _ _)
