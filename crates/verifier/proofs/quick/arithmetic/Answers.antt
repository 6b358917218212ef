use Rattle.std.proofs.Common.{refl, ◌+◌, get_or}
use Rattle.rules.specs.Opcodes.{rows, row_in, row_of, extend}
use Rattle.rules.specs.Decoding.{made}
use Rattle.rules.specs.Known.{hides}
use Rattle.rules.specs.declared.instruction.Op.TheVariants.{Add, Sub, Mul, Shl, Shr, Ushr, And, Or, Xor}
use Rattle.rules.specs.declared.instruction.Division.TheVariants.{Quotient, Remainder}
use Rattle.rules.specs.declared.instruction.Plain.TheVariants.{Nop, Pop, Ibin, Idiv}
use Rattle.rules.specs.declared.instruction.Local.TheVariants.{Iinc}
use Rattle.rules.specs.declared.instruction.Stack.TheVariants.{Dup}
use Rattle.rules.specs.declared.instruction.Instr.TheVariants.{Simple, OnLocal, OnStack}
use Rattle.verifier.specs.Quick.{tried_arm, steady}
use Rattle.verifier.proofs.quick.arithmetic.Goals as goal

pub returns-in-0 : goal.returns-in-0
unfolding made row_of row_in rows steady hides
returns-in-0 c = tried_arm _ _ _ _ _ _ _ _ _ _ c.requires.0 c.requires.1 _ 0 c.requires.2 c.in-0.is (Simple Nop) refl refl refl (λ P pool. refl) (c.nothing.ensures _ _ _)

pub returns-in-87 : goal.returns-in-87
unfolding made row_of row_in rows steady hides
returns-in-87 c = tried_arm _ _ _ _ _ _ _ _ _ _ c.requires.0 c.requires.1 _ 87 c.requires.2 c.in-87.is (Simple Pop) refl refl refl (λ P pool. refl) (c.pop.ensures _ _ _)

pub returns-in-89 : goal.returns-in-89
unfolding made row_of row_in rows steady hides
returns-in-89 c = tried_arm _ _ _ _ _ _ _ _ _ _ c.requires.0 c.requires.1 _ 89 c.requires.2 c.in-89.is (OnStack Dup) refl refl refl (λ P pool. refl) (c.dup.ensures _ _ _)

pub returns-in-96 : goal.returns-in-96
unfolding made row_of row_in rows steady hides
returns-in-96 c = tried_arm _ _ _ _ _ _ _ _ _ _ c.requires.0 c.requires.1 _ 96 c.requires.2 c.in-96.is (Simple (Ibin Add)) refl refl refl (λ P pool. refl) (c.numbers.ensures.by _ _ _ Add)

pub returns-in-100 : goal.returns-in-100
unfolding made row_of row_in rows steady hides
returns-in-100 c = tried_arm _ _ _ _ _ _ _ _ _ _ c.requires.0 c.requires.1 _ 100 c.requires.2 c.in-100.is (Simple (Ibin Sub)) refl refl refl (λ P pool. refl) (c.numbers-in-100.ensures.by _ _ _ Sub)

pub returns-in-104 : goal.returns-in-104
unfolding made row_of row_in rows steady hides
returns-in-104 c = tried_arm _ _ _ _ _ _ _ _ _ _ c.requires.0 c.requires.1 _ 104 c.requires.2 c.in-104.is (Simple (Ibin Mul)) refl refl refl (λ P pool. refl) (c.numbers-in-104.ensures.by _ _ _ Mul)

pub returns-in-108 : goal.returns-in-108
unfolding made row_of row_in rows steady hides
returns-in-108 c = tried_arm _ _ _ _ _ _ _ _ _ _ c.requires.0 c.requires.1 _ 108 c.requires.2 c.in-108.is (Simple (Idiv Quotient)) refl refl refl (λ P pool. refl) (c.numbers-in-108.ensures.divided _ _ _ Quotient)

pub returns-in-112 : goal.returns-in-112
unfolding made row_of row_in rows steady hides
returns-in-112 c = tried_arm _ _ _ _ _ _ _ _ _ _ c.requires.0 c.requires.1 _ 112 c.requires.2 c.in-112.is (Simple (Idiv Remainder)) refl refl refl (λ P pool. refl) (c.numbers-in-112.ensures.divided _ _ _ Remainder)

pub returns-in-120 : goal.returns-in-120
unfolding made row_of row_in rows steady hides
returns-in-120 c = tried_arm _ _ _ _ _ _ _ _ _ _ c.requires.0 c.requires.1 _ 120 c.requires.2 c.in-120.is (Simple (Ibin Shl)) refl refl refl (λ P pool. refl) (c.numbers-in-120.ensures.by _ _ _ Shl)

pub returns-in-122 : goal.returns-in-122
unfolding made row_of row_in rows steady hides
returns-in-122 c = tried_arm _ _ _ _ _ _ _ _ _ _ c.requires.0 c.requires.1 _ 122 c.requires.2 c.in-122.is (Simple (Ibin Shr)) refl refl refl (λ P pool. refl) (c.numbers-in-122.ensures.by _ _ _ Shr)

pub returns-in-124 : goal.returns-in-124
unfolding made row_of row_in rows steady hides
returns-in-124 c = tried_arm _ _ _ _ _ _ _ _ _ _ c.requires.0 c.requires.1 _ 124 c.requires.2 c.in-124.is (Simple (Ibin Ushr)) refl refl refl (λ P pool. refl) (c.numbers-in-124.ensures.by _ _ _ Ushr)

pub returns-in-126 : goal.returns-in-126
unfolding made row_of row_in rows steady hides
returns-in-126 c = tried_arm _ _ _ _ _ _ _ _ _ _ c.requires.0 c.requires.1 _ 126 c.requires.2 c.in-126.is (Simple (Ibin And)) refl refl refl (λ P pool. refl) (c.numbers-in-126.ensures.by _ _ _ And)

pub returns-in-128 : goal.returns-in-128
unfolding made row_of row_in rows steady hides
returns-in-128 c = tried_arm _ _ _ _ _ _ _ _ _ _ c.requires.0 c.requires.1 _ 128 c.requires.2 c.in-128.is (Simple (Ibin Or)) refl refl refl (λ P pool. refl) (c.numbers-in-128.ensures.by _ _ _ Or)

pub returns-in-130 : goal.returns-in-130
unfolding made row_of row_in rows steady hides
returns-in-130 c = tried_arm _ _ _ _ _ _ _ _ _ _ c.requires.0 c.requires.1 _ 130 c.requires.2 c.in-130.is (Simple (Ibin Xor)) refl refl refl (λ P pool. refl) (c.numbers-in-130.ensures.by _ _ _ Xor)

pub returns-in-132 : goal.returns-in-132
unfolding made row_of row_in rows steady hides
returns-in-132 c = tried_arm _ _ _ _ _ _ _ _ _ _ c.requires.0 c.requires.1 _ 132 c.requires.2 c.in-132.is (OnLocal (Iinc _ (extend 8 (get_or c.args.code.now (c.args.o + 2) 0)))) refl refl refl (λ P pool. rw c.first.ensures) (c.increment.ensures _ _ _ (extend 8 (get_or c.args.code.now (c.args.o + 2) 0)))
