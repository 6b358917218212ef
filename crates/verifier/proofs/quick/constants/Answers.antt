use Rattle.std.proofs.Common.{refl, ◌+◌, ◌*◌, get_or}
use Rattle.rules.specs.Opcodes.{rows, row_in, row_of, extend}
use Rattle.rules.specs.Decoding.{made}
use Rattle.rules.specs.Known.{hides}
use Rattle.rules.specs.declared.instruction.Plain.TheVariants.{Aconstnull, Iconst}
use Rattle.rules.specs.declared.instruction.Instr.TheVariants.{Simple}
use Rattle.verifier.specs.Quick.{tried_arm, pushes_int, pushes_null, steady}
use Rattle.verifier.proofs.quick.constants.Goals as goal

pub returns-in-1 : goal.returns-in-1
unfolding made row_of row_in rows steady hides
returns-in-1 c = tried_arm _ _ _ _ _ _ _ _ _ _ c.requires.0 c.requires.1 _ 1 c.requires.2 c.in-1.is (Simple Aconstnull) refl refl refl (λ P pool. refl) (pushes_null _ _ _ _ _ _ _ _ _ c.null.ensures c.push.ensures)

pub returns-in-2 : goal.returns-in-2
unfolding made row_of row_in rows steady hides
returns-in-2 c = tried_arm _ _ _ _ _ _ _ _ _ _ c.requires.0 c.requires.1 _ 2 c.requires.2 c.in-2.is (Simple (Iconst 4294967295)) refl refl refl (λ P pool. refl) (pushes_int _ _ _ _ _ _ _ _ 4294967295 _ c.int.ensures c.push-in-2.ensures)

pub returns-in-3 : goal.returns-in-3
unfolding made row_of row_in rows steady hides
returns-in-3 c = tried_arm _ _ _ _ _ _ _ _ _ _ c.requires.0 c.requires.1 _ 3 c.requires.2 c.in-3.is (Simple (Iconst 0)) refl refl refl (λ P pool. refl) (pushes_int _ _ _ _ _ _ _ _ 0 _ c.int-in-3.ensures c.push-in-3.ensures)

pub returns-in-4 : goal.returns-in-4
unfolding made row_of row_in rows steady hides
returns-in-4 c = tried_arm _ _ _ _ _ _ _ _ _ _ c.requires.0 c.requires.1 _ 4 c.requires.2 c.in-4.is (Simple (Iconst 1)) refl refl refl (λ P pool. refl) (pushes_int _ _ _ _ _ _ _ _ 1 _ c.int-in-4.ensures c.push-in-4.ensures)

pub returns-in-5 : goal.returns-in-5
unfolding made row_of row_in rows steady hides
returns-in-5 c = tried_arm _ _ _ _ _ _ _ _ _ _ c.requires.0 c.requires.1 _ 5 c.requires.2 c.in-5.is (Simple (Iconst 2)) refl refl refl (λ P pool. refl) (pushes_int _ _ _ _ _ _ _ _ 2 _ c.int-in-5.ensures c.push-in-5.ensures)

pub returns-in-6 : goal.returns-in-6
unfolding made row_of row_in rows steady hides
returns-in-6 c = tried_arm _ _ _ _ _ _ _ _ _ _ c.requires.0 c.requires.1 _ 6 c.requires.2 c.in-6.is (Simple (Iconst 3)) refl refl refl (λ P pool. refl) (pushes_int _ _ _ _ _ _ _ _ 3 _ c.int-in-6.ensures c.push-in-6.ensures)

pub returns-in-7 : goal.returns-in-7
unfolding made row_of row_in rows steady hides
returns-in-7 c = tried_arm _ _ _ _ _ _ _ _ _ _ c.requires.0 c.requires.1 _ 7 c.requires.2 c.in-7.is (Simple (Iconst 4)) refl refl refl (λ P pool. refl) (pushes_int _ _ _ _ _ _ _ _ 4 _ c.int-in-7.ensures c.push-in-7.ensures)

pub returns-in-8 : goal.returns-in-8
unfolding made row_of row_in rows steady hides
returns-in-8 c = tried_arm _ _ _ _ _ _ _ _ _ _ c.requires.0 c.requires.1 _ 8 c.requires.2 c.in-8.is (Simple (Iconst 5)) refl refl refl (λ P pool. refl) (pushes_int _ _ _ _ _ _ _ _ 5 _ c.int-in-8.ensures c.push-in-8.ensures)

pub returns-in-16 : goal.returns-in-16
unfolding made row_of row_in rows steady hides
returns-in-16 c = tried_arm _ _ _ _ _ _ _ _ _ _ c.requires.0 c.requires.1 _ 16 c.requires.2 c.in-16.is (Simple (Iconst (extend 8 (get_or c.args.code.now (c.args.o + 1) 0)))) refl refl refl (λ P pool. refl) (pushes_int _ _ _ _ _ _ _ _ (extend 8 (get_or c.args.code.now (c.args.o + 1) 0)) _ c.int-in-16.ensures c.push-in-16.ensures)

pub returns-in-17 : goal.returns-in-17
unfolding made row_of row_in rows steady hides
returns-in-17 c = tried_arm _ _ _ _ _ _ _ _ _ _ c.requires.0 c.requires.1 _ 17 c.requires.2 c.in-17.is (Simple (Iconst (extend 16 ((get_or c.args.code.now (c.args.o + 1) 0) * 256 + (get_or c.args.code.now (c.args.o + 2) 0))))) refl refl refl (λ P pool. refl) (pushes_int _ _ _ _ _ _ _ _ (extend 16 ((get_or c.args.code.now (c.args.o + 1) 0) * 256 + (get_or c.args.code.now (c.args.o + 2) 0))) _ c.int-in-17.ensures c.push-in-17.ensures)
