use Rattle.std.proofs.Common.{refl, ap, ◌∙◌, ℕ}
use Rattle.rules.specs.Instruction.{iconst, getfield, putfield}
use Rattle.rules.specs.Resolve.{as_number, as_field, as_type, new_of}
use Rattle.rules.specs.ResolvedWords.{word_of}
use Rattle.rules.specs.Opcodes.{rows, row_in, row_of}
use Rattle.rules.specs.Decoding.{made}
use Rattle.verifier.specs.Quick.{steady}
use Rattle.verifier.specs.QuickNames.{tried_named}
use Rattle.verifier.proofs.quick_names.names.Goals as goal

pub returns-in-18 : goal.returns-in-18
unfolding made row_of row_in rows steady
returns-in-18 c = tried_named _ _ _ _ _ _ _ _ _ c.requires.0 c.requires.1 _ 18 c.requires.2 c.in-18.is refl (as_number iconst) _ _ (c.named_word.ensures ∙ ap (λ (i : ℕ). word_of c.args.t.now c.args.x.class i) c.byte.ensures.0) (λ P pool. refl) _ (c.load_number.ensures _ _)

pub returns-in-180 : goal.returns-in-180
unfolding made row_of row_in rows steady
returns-in-180 c = tried_named _ _ _ _ _ _ _ _ _ c.requires.0 c.requires.1 _ 180 c.requires.2 c.in-180.is refl (as_field getfield) _ _ c.named_at.ensures (λ P pool. refl) _ (c.get_field.ensures _)

pub returns-in-181 : goal.returns-in-181
unfolding made row_of row_in rows steady
returns-in-181 c = tried_named _ _ _ _ _ _ _ _ _ c.requires.0 c.requires.1 _ 181 c.requires.2 c.in-181.is refl (as_field putfield) _ _ c.named_at-in-181.ensures (λ P pool. refl) _ (c.put_field.ensures _)

pub returns-in-187 : goal.returns-in-187
unfolding made row_of row_in rows steady
returns-in-187 c = tried_named _ _ _ _ _ _ _ _ _ c.requires.0 c.requires.1 _ 187 c.requires.2 c.in-187.is refl (as_type new_of) _ _ c.named_at-in-187.ensures (λ P pool. refl) _ (c.new_object.ensures _)
