-- A proof that unfolds this one name computes with every definition of the plain machine.
use Rattle.plain.specs.Heap.{desc_of, base_of, element_base, type_at, store, mark_ready, allocate, has_room}
use Rattle.plain.specs.Integers.{negated, compute, divided, less, holds, negative}
use Rattle.plain.specs.Machine.{pop_arguments, go_on, with_room, create, catcher, land, landed, throw, fault, receiver, result_room, enter, give_back}
use Rattle.plain.specs.Run.{turn, run, all_ints, is_entry, started, answer_numbers, entered, answered, answer_of, sizes_ok, run_of}
use Rattle.plain.specs.Step.{element, load, make_array, make, get_field, put_field, call_static, call_virtual, construct, call_init, leave, leave_with, execute, step}

unfoldable pub running : Unit {0}
unfolding desc_of base_of element_base type_at store mark_ready allocate has_room negated compute divided less holds negative pop_arguments go_on with_room create catcher land landed throw fault receiver result_room enter give_back turn run all_ints is_entry started answer_numbers entered answered answer_of sizes_ok run_of element load make_array make get_field put_field call_static call_virtual construct call_init leave leave_with execute step
running = tt
