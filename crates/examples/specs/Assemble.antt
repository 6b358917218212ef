-- Whole bundles for document 01's examples: one class `A` under Object with one method.
use Rattle.std.specs.Prelude.{ℕ, ◌/◌, ◌%◌, List, [], ◌∷◌, ◌++◌, length}
use Rattle.texts.specs.Names.{Text, init, Code, StackMapTable}

abbrev pub u2 : ℕ → List ℕ
u2 v = v / 256 % 256 ∷ v % 256 ∷ []

abbrev pub u4 : ℕ → List ℕ
u4 v = u2 (v / 65536) ++ u2 v

abbrev pub utf8 : Text → List ℕ
utf8 t = 1 ∷ (u2 (length t) ++ t)

abbrev pub class_entry : ℕ → List ℕ
class_entry i = 7 ∷ u2 i

-- java/lang/Object, and ()V
abbrev pub object_name : Text
object_name = 106 ∷ 97 ∷ 118 ∷ 97 ∷ 47 ∷ 108 ∷ 97 ∷ 110 ∷ 103 ∷ 47 ∷ 79 ∷ 98 ∷ 106 ∷ 101 ∷ 99 ∷ 116 ∷ []

abbrev pub no_arguments : Text
no_arguments = 40 ∷ 41 ∷ 86 ∷ []

-- 1 A, 2 class A, 3 java/lang/Object, 4 class Object, 5 and 6 the method's name and descriptor, 7 Code, 8 StackMapTable,
-- 9 <init>, 10 ()V, 11 the two, 12 Object's constructor
abbrev pub pool : Text → Text → List ℕ
pool name descriptor =
    u2 13 ++ (utf8 (65 ∷ []) ++ (class_entry 1 ++ (utf8 object_name ++ (class_entry 3 ++ (utf8 name ++ (utf8 descriptor ++ (utf8 Code
    ++ (utf8 StackMapTable ++ (utf8 init ++ (utf8 no_arguments ++ ((12 ∷ (u2 9 ++ u2 10)) ++ (10 ∷ (u2 4 ++ u2 11)))))))))))))

-- attributes of Code: a StackMapTable with that many frames, or none
pub data Frames : Type 0 where
  no_frames : Frames
  frames : ℕ → List ℕ → Frames

abbrev pub attribute : ℕ → List ℕ → List ℕ
attribute i content = u2 i ++ (u4 (length content) ++ content)

abbrev pub code_attributes : Frames → List ℕ
code_attributes no_frames = u2 0
code_attributes (frames n bytes) = u2 1 ++ attribute 8 (u2 n ++ bytes)

abbrev pub code_content : ℕ → ℕ → List ℕ → Frames → List ℕ
code_content stack locals code fs = u2 stack ++ (u2 locals ++ (u4 (length code) ++ (code ++ (u2 0 ++ code_attributes fs))))

abbrev pub bundle : ℕ → Text → Text → ℕ → ℕ → List ℕ → Frames → List ℕ
bundle access name descriptor stack locals code fs =
    u4 0xcafebabe ++ (u2 0 ++ (u2 52 ++ (pool name descriptor ++ (u2 0x0021 ++ (u2 2 ++ (u2 4 ++ (u2 0 ++ (u2 0 ++ (u2 1
    ++ (u2 access ++ (u2 5 ++ (u2 6 ++ (u2 1 ++ (attribute 7 (code_content stack locals code fs) ++ u2 0))))))))))))))

-- a static method `m`; a constructor
abbrev pub static : Text → ℕ → ℕ → List ℕ → Frames → List ℕ
static descriptor stack locals code fs = bundle 0x0009 (109 ∷ []) descriptor stack locals code fs

abbrev pub constructor : ℕ → ℕ → List ℕ → List ℕ
constructor stack locals code = bundle 0x0001 init no_arguments stack locals code no_frames
