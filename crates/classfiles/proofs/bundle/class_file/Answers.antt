use Rattle.classfiles.specs.Classes.{attributes_bad, class-whole, fields_bad, head_bad, methods_bad}
use Rattle.classfiles.specs.Past.{past_err}
use Rattle.std.proofs.Common.{◌∙◌}
use Rattle.classfiles.proofs.bundle.class_file.Goals as goal

pub returns-in_err-h : goal.returns-in_err-h
returns-in_err-h c = past_err _ _ _ c.from_residual.ensures.1 ∙ head_bad _ _ _ _ c.in_err-h.ensures.is

pub returns-in_err-f : goal.returns-in_err-f
returns-in_err-f c = past_err _ _ _ c.from_residual-in_err-f.ensures.1 ∙ fields_bad _ _ _ _ _ c.in_ok-h.ensures.is c.in_ok-h.ensures.words _ _ c.in_err-f.ensures

pub returns-in_err-m : goal.returns-in_err-m
returns-in_err-m c = past_err _ _ _ c.from_residual-in_err-m.ensures.1 ∙ methods_bad _ _ _ _ _ c.in_ok-h.ensures.is c.in_ok-h.ensures.words _ _ c.in_ok-f.ensures _ _ c.in_err-m.ensures

pub returns-in_err-a : goal.returns-in_err-a
returns-in_err-a c = past_err _ _ _ c.from_residual-in_err-a.ensures.1 ∙ attributes_bad _ _ _ _ _ c.in_ok-h.ensures.is c.in_ok-h.ensures.words _ _ c.in_ok-f.ensures _ _ c.in_ok-m.ensures _ _ c.in_err-a.ensures

pub returns : goal.returns
returns c = class-whole _ _ _ _ _ c.in_ok-h.ensures.is c.in_ok-h.ensures.words _ _ c.in_ok-f.ensures _ _ c.in_ok-m.ensures _ _ c.in_ok-a.ensures
