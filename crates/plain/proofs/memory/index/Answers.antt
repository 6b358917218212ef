use Rattle.std.proofs.Common.{refl}
use Rattle.plain.specs.HeapForms.{index_kind, index_out, index_on, on_err, checks, depth_known}
use Rattle.plain.proofs.memory.index.Goals as goal

pub returns-in_err-found : goal.returns-in_err-found
returns-in_err-found c = (search (checks, c.from_residual.ensures.1, c.in_err-found.ensures.0), on_err _ _ _ c.from_residual.ensures.1)

pub element-requires : goal.element-requires
element-requires c = search (depth_known, c.in_ok-found.ensures.1.1, c.type_at-of.ensures.1, c.to_cell-a.ensures)

pub returns-then-ints-is_int : goal.returns-then-ints-is_int
returns-then-ints-is_int c = (index_kind _ _ _ _ _ _ _ _ c.in_ok-found.ensures.0 _ _ c.to_cell-a.ensures c.type_at-of.ensures.1 _ c.type_at-of.ensures.0 c.in_ok-found.ensures.1.1 _ c.element.ensures _ _ c.is_int.ensures refl c.if-ints-is_int.true, tt)

pub returns-then-size_at-i : goal.returns-then-size_at-i
returns-then-size_at-i c = (index_out _ _ _ _ _ _ _ _ c.in_ok-found.ensures.0 _ _ c.to_cell-a.ensures c.type_at-of.ensures.1 _ c.type_at-of.ensures.0 c.in_ok-found.ensures.1.1 _ c.element.ensures _ _ c.is_int.ensures refl c.if-ints-is_int.false _ c.size_at.ensures c.if-size_at-i.true, tt)

pub returns : goal.returns
returns c = (index_on _ _ _ _ _ _ _ _ c.in_ok-found.ensures.0 _ _ c.to_cell-a.ensures c.type_at-of.ensures.1 _ c.type_at-of.ensures.0 c.in_ok-found.ensures.1.1 _ c.element.ensures _ _ c.is_int.ensures refl c.if-ints-is_int.false _ c.size_at.ensures _ c.if-size_at-i.false, c.in_ok-found.ensures.1)
