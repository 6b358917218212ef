use Rattle.std.proofs.Common.{not, Bool, ◌≡◌, refl, ap, subst, ◌∙◌, arith}
use Rattle.plain.specs.Heap.{Heap, Val, value_fits}
use Rattle.reader.specs.Program.{Program}
use Rattle.rules.specs.Types.{is_dint}
use Rattle.classfiles.specs.Descriptors.{Desc}
use Rattle.running.specs.Standing.{few_operands}
use Rattle.running.specs.Leaving.{own-entry, value_none, value_kind, value_missing, value_unfit, value_giving, value_fit}
use Rattle.std.specs.Bool.{beq}
use Rattle.std.specs.Prelude.{cond, true, false}
use Rattle.stepping.proofs.returning.leave_with.Goals as goal

kind_beq : (a b : Bool) → beq a b ≡ cond a b (not b)
kind_beq true true = refl
kind_beq true false = refl
kind_beq false true = refl
kind_beq false false = refl

fits-same : (P : Program) (H : Heap) (D E : Desc) (v : Val) (q : Bool) → q ≡ value_fits P H D v → D ≡ E → q ≡ value_fits P H E v
fits-same P H D E v q h e = subst (λ (F : Desc). q ≡ value_fits P H F v) e h

pub overflow_sub-e : goal.overflow_sub-e
overflow_sub-e c = c.requires.running.of.low

pub result_at-c-requires : goal.result_at-c-requires
result_at-c-requires c = own-entry _ _ _ _ _ c.args.cells.now _ _ c.requires

pub returns-then-c-eq256 : goal.returns-then-c-eq256
returns-then-c-eq256 c = value_none _ _ _ _ _ c.args.cells.now _ _ c.requires c.args.ints _ c.result_at-c.ensures.0 c.if-c-eq256.true

pub returns-then-ints-is_int : goal.returns-then-ints-is_int
returns-then-ints-is_int c = value_kind _ _ _ _ _ c.args.cells.now _ _ c.requires c.args.ints _ c.result_at-c.ensures.0 c.if-c-eq256.false _ _ (c.is_int.ensures ∙ ap (λ (D : Desc). is_dint D) (c.described-asked.ensures ∙ c.described.ensures.0)) (kind_beq _ _) c.if-ints-is_int.true

pub returns-then-k-eq0 : goal.returns-then-k-eq0
returns-then-k-eq0 c = value_missing _ _ _ _ _ c.args.cells.now _ _ c.requires c.args.ints _ c.result_at-c.ensures.0 c.if-c-eq256.false c.if-k-eq0.true

pub operand-v-requires : goal.operand-v-requires
operand-v-requires c = (c.requires.lent.words, c.requires.lent.tags, c.requires.depth, omega (arith, few_operands _ _ _ _ _ _ _ c.requires, c.if-k-eq0.false))

pub returns-then-not-value_fits : goal.returns-then-not-value_fits
returns-then-not-value_fits c = value_unfit _ _ _ _ _ c.args.cells.now _ _ c.requires c.args.ints _ c.result_at-c.ensures.0 c.if-c-eq256.false c.if-k-eq0.false _ c.operand-v.ensures _ (fits-same _ _ _ _ _ _ c.value_fits.ensures (c.described-asked.ensures ∙ c.described.ensures.0)) (ap not c.if-not-value_fits.true)

pub give-requires : goal.give-requires
give-requires c = value_giving _ _ _ _ _ c.args.cells.now _ _ c.requires c.args.ints _ c.result_at-c.ensures.0 c.if-c-eq256.false c.if-k-eq0.false _ c.operand-v.ensures _ (fits-same _ _ _ _ _ _ c.value_fits.ensures (c.described-asked.ensures ∙ c.described.ensures.0)) (ap not c.if-not-value_fits.false)

pub returns : goal.returns
returns c = value_fit _ _ _ _ _ c.args.cells.now _ _ c.requires c.args.ints _ c.result_at-c.ensures.0 c.if-c-eq256.false c.if-k-eq0.false _ c.operand-v.ensures _ (fits-same _ _ _ _ _ _ c.value_fits.ensures (c.described-asked.ensures ∙ c.described.ensures.0)) (ap not c.if-not-value_fits.false) _ _ _ _ _ (c.is_int.ensures ∙ ap (λ (D : Desc). is_dint D) (c.described-asked.ensures ∙ c.described.ensures.0)) (kind_beq _ _) c.if-ints-is_int.false c.give.ensures
