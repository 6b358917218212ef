use Rattle.std.proofs.Common.{refl, sym, ◌∙◌}
use Rattle.rules.specs.Instruction.{invokevirtual, invokespecial, invokestatic}
use Rattle.rules.specs.Resolve.{is_static_call, is_virtual_call, is_init_call}
use Rattle.rules.specs.Opcodes.{rows, row_in, row_of}
use Rattle.rules.specs.Decoding.{made}
use Rattle.rules.specs.DecodeLaws.{decoded_bare, decoded_call}
use Rattle.rules.proofs.decode.fetch.Goals as goal

pub returns-in-172 : goal.returns-in-172
unfolding made row_of row_in rows
returns-in-172 c = decoded_bare _ _ _ _ _ 0xac _ (sym c.byte-op.ensures.0 ∙ c.in-172.is) (λ P pool a b. refl)

pub returns-in-176 : goal.returns-in-176
unfolding made row_of row_in rows
returns-in-176 c = decoded_bare _ _ _ _ _ 0xb0 _ (sym c.byte-op.ensures.0 ∙ c.in-176.is) (λ P pool a b. refl)

pub returns-in-177 : goal.returns-in-177
unfolding made row_of row_in rows
returns-in-177 c = decoded_bare _ _ _ _ _ 0xb1 _ (sym c.byte-op.ensures.0 ∙ c.in-177.is) (λ P pool a b. refl)

pub returns-in-182 : goal.returns-in-182
unfolding made row_of row_in rows
returns-in-182 c = decoded_call _ _ _ _ _ 0xb6 _ (sym c.byte-op.ensures.0 ∙ c.in-182.is) is_virtual_call invokevirtual _ c.named_at.ensures (λ P pool a b. refl) c.virtual_call.ensures

pub returns-in-183 : goal.returns-in-183
unfolding made row_of row_in rows
returns-in-183 c = decoded_call _ _ _ _ _ 0xb7 _ (sym c.byte-op.ensures.0 ∙ c.in-183.is) is_init_call invokespecial _ c.named_at-in-183.ensures (λ P pool a b. refl) c.special_call.ensures

pub returns-in-184 : goal.returns-in-184
unfolding made row_of row_in rows
returns-in-184 c = decoded_call _ _ _ _ _ 0xb8 _ (sym c.byte-op.ensures.0 ∙ c.in-184.is) is_static_call invokestatic _ c.named_at-in-184.ensures (λ P pool a b. refl) c.static_call.ensures
