use Rattle.std.proofs.Common.{refl}
use Rattle.rules.specs.Opcodes.{rows, row_in, row_of}
use Rattle.rules.specs.Decoding.{made}
use Rattle.rules.specs.declared.instruction.Leave.TheVariants.{Ireturn, Areturn, Return}
use Rattle.verifier.specs.QuickNames.{tried_left}
use Rattle.verifier.proofs.quick_names.returns.Goals as goal

pub returns-in-172 : goal.returns-in-172
unfolding made row_of row_in rows
returns-in-172 c = tried_left _ _ _ _ _ _ _ _ c.requires.0 c.requires.1 _ 172 c.requires.2 c.in-172.is Ireturn (λ P pool. refl) _ c.result_at.ensures.0 _ (c.leave_int.ensures _)

pub returns-in-176 : goal.returns-in-176
unfolding made row_of row_in rows
returns-in-176 c = tried_left _ _ _ _ _ _ _ _ c.requires.0 c.requires.1 _ 176 c.requires.2 c.in-176.is Areturn (λ P pool. refl) _ c.result_at-in-176.ensures.0 _ c.leave_reference.ensures

pub returns-in-177 : goal.returns-in-177
unfolding made row_of row_in rows
returns-in-177 c = tried_left _ _ _ _ _ _ _ _ c.requires.0 c.requires.1 _ 177 c.requires.2 c.in-177.is Return (λ P pool. refl) _ c.result_at-in-177.ensures.0 _ (c.leave_bare.ensures _ _)
