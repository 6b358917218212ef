use Rattle.reader.specs.CodeLaws.{params_start, params_none, params_end, params_bad, params_more, type_moved}
use Rattle.std.proofs.Common.{◌-◌, ◌+◌, ◌≡◌, ◌∙◌, Bool, cond, false, refl, sym, ap, arith, length}
use Rattle.classfiles.specs.Descriptors.{known_desc}
use Rattle.reader.specs.BuiltIns.{first_class}
use Rattle.reader.specs.TypeCodes.{desc_of}
use Rattle.reader.proofs.types.params.Goals.{then-known, else-known}
use Rattle.reader.proofs.types.params.Goals as goal

pub loop-i-init : goal.loop-i-init
loop-i-init c =
    let e : length c.args.x.now - 0 ≡ length c.args.x.now = omega arith in
    rw e (params_start _ _ _ _ _ _ refl)

pub returns-then-is_at : goal.returns-then-is_at
returns-then-is_at c = params_end _ _ _ _ _ _ _ _ _ _ c.loop-i.invariant _ c.is_at.ensures.0 (omega arith) c.if-is_at.true

pub returns-in_err-d : goal.returns-in_err-d
returns-in_err-d c = params_bad _ _ _ _ _ _ _ _ _ _ c.loop-i.invariant _ c.is_at.ensures.0 (omega arith) c.if-is_at.false _ (type_moved _ _ _ _ _ _ c.loop-i.invariant.aside c.requires.1 _ _ _ c.in_err-d.ensures.0) _ c.from_residual.ensures.1

pub loop-i-preserved : goal.loop-i-preserved
loop-i-preserved c =
    let e : length c.args.x.now - c.loop-i._i - 1 ≡ length c.args.x.now - (c.loop-i._i + 1) = omega arith in
    let known : c.if-known.known ≡ cond c.loop-i.known (known_desc (first_class + c.args.n) (desc_of c.in_ok-d.d.val)) false = elim c.if-known.branch [ then-known w ↦ w.known-is ∙ w.is_known-known.ensures ∙ sym (ap (λ (b : Bool). cond b (known_desc (first_class + c.args.n) (desc_of c.in_ok-d.d.val)) false) w.if-known.true) | else-known w ↦ w.known-is ∙ w.if-known.false ∙ sym (ap (λ (b : Bool). cond b (known_desc (first_class + c.args.n) (desc_of c.in_ok-d.d.val)) false) w.if-known.false) ] in
    rw (← e) (params_more _ _ _ _ _ _ _ _ _ _ c.loop-i.invariant _ c.is_at.ensures.0 (omega arith) c.if-is_at.false c.in_ok-d.d (type_moved _ _ _ _ _ _ c.loop-i.invariant.aside c.requires.1 _ _ _ c.in_ok-d.ensures.0) _ _ _ _ c.keep-count.ensures refl known)

pub returns : goal.returns
returns c = params_none _ _ _ _ _ _ _ _ _ _ c.loop-i.invariant (omega arith)
