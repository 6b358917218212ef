-- The built-in classes, all of java/lang, by their numbers; each has only `<init>()V`.
use Rattle.std.specs.Prelude.{ℕ, List, [], ◌∷◌, ◌++◌}
use Rattle.texts.specs.Names.{Text}

abbrev java_lang : Text → Text
java_lang t = 106 ∷ 97 ∷ 118 ∷ 97 ∷ 47 ∷ 108 ∷ 97 ∷ 110 ∷ 103 ∷ 47 ∷ t

-- the name with Exception behind it
abbrev exception : Text → Text
exception t = java_lang (t ++ (69 ∷ 120 ∷ 99 ∷ 101 ∷ 112 ∷ 116 ∷ 105 ∷ 111 ∷ 110 ∷ []))

pub record BuiltIn : Type 0 where
  pub name : Text
  pub parent : ℕ

abbrev built_in : Text → ℕ → BuiltIn
built_in t p = record { name = t; parent = p }

-- Object, Throwable, Exception; and, with Exception after each name, Runtime, Arithmetic, ArrayStore, ClassCast, IndexOutOfBounds, ArrayIndexOutOfBounds, NegativeArraySize, NullPointer
unfoldable pub built_ins : List BuiltIn
built_ins =
    built_in (java_lang (79 ∷ 98 ∷ 106 ∷ 101 ∷ 99 ∷ 116 ∷ [])) 0
    ∷ built_in (java_lang (84 ∷ 104 ∷ 114 ∷ 111 ∷ 119 ∷ 97 ∷ 98 ∷ 108 ∷ 101 ∷ [])) 0
    ∷ built_in (java_lang (69 ∷ 120 ∷ 99 ∷ 101 ∷ 112 ∷ 116 ∷ 105 ∷ 111 ∷ 110 ∷ [])) 1
    ∷ built_in (exception (82 ∷ 117 ∷ 110 ∷ 116 ∷ 105 ∷ 109 ∷ 101 ∷ [])) 2
    ∷ built_in (exception (65 ∷ 114 ∷ 105 ∷ 116 ∷ 104 ∷ 109 ∷ 101 ∷ 116 ∷ 105 ∷ 99 ∷ [])) 3
    ∷ built_in (exception (65 ∷ 114 ∷ 114 ∷ 97 ∷ 121 ∷ 83 ∷ 116 ∷ 111 ∷ 114 ∷ 101 ∷ [])) 3
    ∷ built_in (exception (67 ∷ 108 ∷ 97 ∷ 115 ∷ 115 ∷ 67 ∷ 97 ∷ 115 ∷ 116 ∷ [])) 3
    ∷ built_in (exception (73 ∷ 110 ∷ 100 ∷ 101 ∷ 120 ∷ 79 ∷ 117 ∷ 116 ∷ 79 ∷ 102 ∷ 66 ∷ 111 ∷ 117 ∷ 110 ∷ 100 ∷ 115 ∷ [])) 3
    ∷ built_in (exception (65 ∷ 114 ∷ 114 ∷ 97 ∷ 121 ∷ 73 ∷ 110 ∷ 100 ∷ 101 ∷ 120 ∷ 79 ∷ 117 ∷ 116 ∷ 79 ∷ 102 ∷ 66 ∷ 111 ∷ 117 ∷ 110 ∷ 100 ∷ 115 ∷ [])) 7
    ∷ built_in (exception (78 ∷ 101 ∷ 103 ∷ 97 ∷ 116 ∷ 105 ∷ 118 ∷ 101 ∷ 65 ∷ 114 ∷ 114 ∷ 97 ∷ 121 ∷ 83 ∷ 105 ∷ 122 ∷ 101 ∷ [])) 3
    ∷ built_in (exception (78 ∷ 117 ∷ 108 ∷ 108 ∷ 80 ∷ 111 ∷ 105 ∷ 110 ∷ 116 ∷ 101 ∷ 114 ∷ [])) 3
    ∷ []

-- bundle class i has number 11 + i
abbrev pub first_class : ℕ
first_class = 11

abbrev pub object : ℕ
object = 0

abbrev pub throwable : ℕ
throwable = 1

abbrev pub arithmetic : ℕ
arithmetic = 4

abbrev pub array_store : ℕ
array_store = 5

abbrev pub class_cast : ℕ
class_cast = 6

abbrev pub array_index : ℕ
array_index = 8

abbrev pub negative_size : ℕ
negative_size = 9

abbrev pub null_pointer : ℕ
null_pointer = 10
