-- Fields, methods (JVMS 4.5, 4.6) and what of their attributes is read: Code (4.7.3) and the StackMapTable in it.
use Rattle.std.specs.Prelude.{ℕ, ◌+◌, ◌*◌, List, Bool, cond, length, ltb, eqb}
use Rattle.kit.specs.Lists.{eq_list}
use Rattle.classfiles.specs.Limits.{max_stack_limit, max_locals_limit, max_code, max_table_entries, max_parameters}
use Rattle.texts.specs.Reading.{Res, ok, bad, and_then, many, sum_at, u2_at, num2_at, num4_at, skip_at, short_at, u2, u4, part}
use Rattle.texts.specs.Names.{Text, Code, StackMapTable, is_init, unqualified, method_name}
use Rattle.classfiles.specs.Descriptors.{Desc, MethodType, field_type_at, method_type_at}
use Rattle.classfiles.specs.Pool.{Constant, is_utf8, entry, text, utf8_index_at}

-- how often an attribute stands: not, once, or more often
pub data Found (A : Type 0) : Type 0 where
  none : Found A
  once : A → Found A
  twice : Found A

unfoldable pub another : {A : Type 0} → Found A → Found A → Found A
another f none = f
another none (once a) = once a
another (once b) (once a) = twice
another twice (once a) = twice
another f twice = twice

-- start_pc, end_pc, handler_pc, catch_type
pub record Handler : Type 0 where
  pub start : ℕ
  pub end : ℕ
  pub target : ℕ
  pub catch : ℕ

pub record Body : Type 0 where
  pub max_stack : ℕ
  pub max_locals : ℕ
  pub code : List ℕ
  pub table : List Handler
  pub frames : Found (List ℕ)

pub record Member : Type 0 where
  pub start : ℕ
  pub access : ℕ
  pub name : Text
  pub descriptor : Text
  pub body : Found Body

-- inside a Code that ends at e and whose attribute stands at p: what passes e is 7 at p
module _ (s : List ℕ) (pool : List Constant) (e p : ℕ) where
  -- u2 attribute_name_index; u4 attribute_length; u1 info[attribute_length]
  unfoldable pub inner_at : ℕ → Res (Found (List ℕ))
  inner_at q =
      and_then (num2_at s e 7 p q) λ i a.
      cond (is_utf8 (entry pool i))
      (and_then (num4_at s e 7 p a) λ n b.
      and_then (skip_at e 7 p n b) λ c d. ok (cond (eq_list (text pool i) StackMapTable) (once (part s c n)) none) d)
      (bad 5 q)

  unfoldable pub inners_at : ℕ → Res (Found (List ℕ))
  inners_at q = and_then (num2_at s e 7 p q) λ n a. sum_at inner_at another n none a

  -- u4 code_length; u1 code[code_length]
  unfoldable pub code_at : ℕ → Res (List ℕ)
  code_at q =
      and_then (num4_at s e 7 p q) λ n a.
      cond (eqb n 0) (bad 4 q) (cond (ltb max_code n) (bad 4 q) (and_then (skip_at e 7 p n a) λ b d. ok (part s b n) d))

  unfoldable pub handler_at : ℕ → Res Handler
  handler_at q = ok (record { start = u2_at s q; end = u2_at s (q + 2); target = u2_at s (q + 4); catch = u2_at s (q + 6) }) (q + 8)

  -- u2 exception_table_length; exception_table
  unfoldable pub table_at : ℕ → Res (List Handler)
  table_at q =
      and_then (short_at s e 7 p max_table_entries q) λ n a.
      and_then (skip_at e 7 p (8 * n) a) λ b d. many handler_at n b

  -- Code's parts, which fill its length
  unfoldable pub body_at : ℕ → Res (Found Body)
  body_at q =
      and_then (short_at s e 7 p max_stack_limit q) λ stack a.
      and_then (short_at s e 7 p max_locals_limit a) λ locals b.
      and_then (code_at b) λ code c.
      and_then (table_at c) λ table d.
      and_then (inners_at d) λ frames f.
      cond (eqb f e) (ok (once (record { max_stack = stack; max_locals = locals; code = code; table = table; frames = frames })) f) (bad 7 p)

-- what kind of member it is decides its access, its name, and whether Code is read
module _ (s : List ℕ) (pool : List Constant) where
  -- u2 attribute_name_index; u4 attribute_length; u1 info[attribute_length]
  unfoldable pub attribute_at : Bool → ℕ → Res (Found Body)
  attribute_at method q =
      and_then (utf8_index_at s pool q) λ i a.
      and_then (u4 s a) λ n b.
      and_then (skip_at (length s) 2 b n b) λ c d.
      cond method (cond (eq_list (text pool i) Code) (body_at s pool d q c) (ok none d)) (ok none d)

  -- u2 attributes_count; attributes
  unfoldable pub attributes_at : Bool → ℕ → Res (Found Body)
  attributes_at method q = and_then (u2 s q) λ n a. sum_at (attribute_at method) another n none a

  -- access 0x0001, of a method 0x0009 too
  unfoldable pub access_at : Bool → ℕ → Res ℕ
  access_at method q =
      and_then (u2 s q) λ v a. cond (eqb v 1) (ok v a) (cond method (cond (eqb v 9) (ok v a) (bad 6 q)) (bad 6 q))

  -- a static `<init>` is blamed on its access, at p
  unfoldable pub name_at : Bool → ℕ → ℕ → ℕ → Res Text
  name_at method access p q =
      and_then (utf8_index_at s pool q) λ i a.
      cond (cond method (method_name (text pool i)) (unqualified (text pool i)))
      (cond (is_init (text pool i)) (cond (eqb access 9) (bad 6 p) (ok (text pool i) a)) (ok (text pool i) a))
      (bad 7 q)

  -- parameters in slots, with the receiver
  unfoldable pub slots : ℕ → List Desc → ℕ
  slots access ps = length ps + cond (eqb access 9) 0 1

  -- not too many parameters, and `<init>` returns V
  unfoldable pub method_type_ok : ℕ → Text → ℕ → ℕ → Text → MethodType → Res Text
  method_type_ok access name q a t m =
      cond (ltb max_parameters (slots access m.params)) (bad 4 q)
      (cond (is_init name) (cond (eqb (length m.results) 0) (ok t a) (bad 7 q)) (ok t a))

  unfoldable pub descriptor_at : Bool → ℕ → Text → ℕ → Res Text
  descriptor_at method access name q =
      and_then (utf8_index_at s pool q) λ i a.
      cond method
      (and_then (method_type_at (λ t. 0) (text pool i) q) λ m e. method_type_ok access name q a (text pool i) m)
      (and_then (field_type_at (λ t. 0) (text pool i) q) λ d e. ok (text pool i) a)

  -- u2 access_flags; u2 name_index; u2 descriptor_index; attributes
  unfoldable pub member_at : Bool → ℕ → Res Member
  member_at method q =
      and_then (access_at method q) λ access a.
      and_then (name_at method access q a) λ name b.
      and_then (descriptor_at method access name b) λ descriptor c.
      and_then (attributes_at method c) λ body e.
      ok (record { start = q; access = access; name = name; descriptor = descriptor; body = body }) e
