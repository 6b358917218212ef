-- Document 01's largest values and lent sizes, each by its name.
use Rattle.std.specs.Prelude.{ℕ}

abbrev pub max_bundle : ℕ
max_bundle = 65536

abbrev pub max_classes : ℕ
max_classes = 16

abbrev pub max_pool_count : ℕ
max_pool_count = 1024

abbrev pub max_text : ℕ
max_text = 255

abbrev pub max_fields : ℕ
max_fields = 32

abbrev pub max_methods : ℕ
max_methods = 64

-- parameters in slots, with the receiver
abbrev pub max_parameters : ℕ
max_parameters = 16

abbrev pub max_code : ℕ
max_code = 4096

abbrev pub max_stack_limit : ℕ
max_stack_limit = 32

abbrev pub max_locals_limit : ℕ
max_locals_limit = 32

abbrev pub max_table_entries : ℕ
max_table_entries = 32

abbrev pub max_frames : ℕ
max_frames = 256

abbrev pub max_dimensions : ℕ
max_dimensions = 7

abbrev pub max_heap : ℕ
max_heap = 16384

abbrev pub slot_count : ℕ
slot_count = 4096

abbrev pub max_budget : ℕ
max_budget = 1000000

abbrev pub max_calls : ℕ
max_calls = 64

-- the team's figure: the scratch that verification is lent, in bytes
abbrev pub scratch_size : ℕ
scratch_size = 262144

-- stands for a class or method that a verdict does not name
abbrev pub unnamed : ℕ
unnamed = 65535
