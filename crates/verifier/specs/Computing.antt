-- A proof that unfolds this one name computes with every definition of phases C and D.
use Rattle.rules.specs.Frames.{number_at, tagged_at, info_at, chopped, one_on_stack, appended, full_at, long_form, form_at, no_top, good, judged, frame_at, state_of, frames_from, table_at, frames}
use Rattle.rules.specs.Lines.{lines_from, lines, is_start, is_new_at, new_class_at}
use Rattle.rules.specs.Opcodes.{rows, row_in, row_of, instruction, size_at}
use Rattle.rules.specs.Resolve.{own_method, field_in, method_in, resolve}
use Rattle.rules.specs.Rule.{constructing, calling, rule}
use Rattle.rules.specs.Shape.{body_claims, form_claims, all_starts, reference_claims, catch_class, range_ok, catch_ok, table_claims, shape_claims}
use Rattle.rules.specs.States.{slots_fit, state_fits, replace_all, no_copy, padded, start_state}
use Rattle.rules.specs.Types.{ref_fits, desc_fits, fits}
use Rattle.shaping.specs.Verify.{over_methods, over_classes, shape, walked, typing, shape_read, read_shaped, type_read, verdict_of, verify_of}
use Rattle.rules.specs.Walk.{frame_at as frame_at·walk, operands_fit, handlers_claims, branch_claims, instruction_claims, walk, walk_claims}

unfoldable pub verifying : Unit {0}
unfolding number_at tagged_at info_at chopped one_on_stack appended full_at long_form form_at no_top good judged frame_at state_of frames_from table_at frames lines_from lines is_start is_new_at new_class_at rows row_in row_of instruction size_at own_method field_in method_in resolve constructing calling rule body_claims form_claims all_starts reference_claims catch_class range_ok catch_ok table_claims shape_claims slots_fit state_fits replace_all no_copy padded start_state ref_fits desc_fits fits over_methods over_classes shape walked typing shape_read read_shaped type_read verdict_of verify_of frame_at·walk operands_fit handlers_claims branch_claims instruction_claims walk walk_claims
verifying = tt
