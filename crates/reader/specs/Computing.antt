-- A proof that unfolds this one name computes with every definition of phases A and B.
use Rattle.kit.specs.Scan.{first_not, all_of}
use Rattle.kit.specs.Lists.{eq_list}
use Rattle.kit.specs.Claims.{verdict, then, relabel, label, first_of}
use Rattle.reader.specs.BuiltIns.{built_ins}
use Rattle.classfiles.specs.Bundle.{magic_at, version_at, class_access_at, this_at, super_at, interfaces_at, members_at, class_file_at, class_files_at, bundle_at}
use Rattle.classfiles.specs.Descriptors.{in_name, semicolon, named_at, base_at, type_at, params_at, results_at, whole, field_type_at, method_type_at, as_ref, class_type_at, known_ref, known_desc, dimensions, depth_of}
use Rattle.reader.specs.Link.{unique_class, super_claims, chain_claims, all_known, field_claims, method_claims, member_claims, linked, or_refused, read_as, read_bundle}
use Rattle.classfiles.specs.Members.{another, inner_at, inners_at, code_at, handler_at, table_at, body_at, attribute_at, attributes_at, access_at, name_at, slots, method_type_ok, descriptor_at, member_at}
use Rattle.texts.specs.Names.{plain, plain_at, unqualified, class_byte, class_name, is_init, method_name}
use Rattle.classfiles.specs.Pool.{text_ok, utf8_at, fixed_at, entry_size, entry_at, constant_at, constants, text, class_text, name_fault, pair_fault, entry_fault, judged_at, checked_at, tags_at, pool_at, utf8_index_at, is_array_name, class_index_at}
use Rattle.reader.specs.Program.{number_in, class_names, field_of, method_of, class_of, classes_from, built_ins_from, program_of, up_to, below, same_signature, index_of, seek, lookup, layout_to, layout}
use Rattle.texts.specs.Reading.{and_then, pre, many, sum_at, u2_at, u4_at, num2_at, num4_at, skip_at, short_at, u2, u4, part}
use Rattle.reader.specs.Verdicts.{numbers, each}

unfoldable pub reading : Unit {0}
unfolding first_not all_of eq_list verdict then relabel label first_of built_ins magic_at version_at class_access_at this_at super_at interfaces_at members_at class_file_at class_files_at bundle_at in_name semicolon named_at base_at type_at params_at results_at whole field_type_at method_type_at as_ref class_type_at known_ref known_desc dimensions depth_of unique_class super_claims chain_claims all_known field_claims method_claims member_claims linked or_refused read_as read_bundle another inner_at inners_at code_at handler_at table_at body_at attribute_at attributes_at access_at name_at slots method_type_ok descriptor_at member_at plain plain_at unqualified class_byte class_name is_init method_name text_ok utf8_at fixed_at entry_size entry_at constant_at constants text class_text name_fault pair_fault entry_fault judged_at checked_at tags_at pool_at utf8_index_at is_array_name class_index_at number_in class_names field_of method_of class_of classes_from built_ins_from program_of up_to below same_signature index_of seek lookup layout_to layout and_then pre many sum_at u2_at u4_at num2_at num4_at skip_at short_at u2 u4 part numbers each
reading = tt
