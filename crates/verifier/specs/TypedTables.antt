-- What phases A and B leave are the types of the program's methods, of those of the built-in classes too, which have none. Assumes nothing.
use Rattle.std.specs.Prelude.{◌≡◌, refl, List, [], ◌∷◌, ◌⊎◌, get_or, take, drop}
use Rattle.std.proofs.Common.{◌∙◌, inl, inr, lt-ltb, ℕ, zero, suc, ◌+◌, ◌-◌, ◌*◌, ◌<◌, ◌≤◌, sym, ap, true, arith}
use Rattle.std.proofs.Math.ListN.{get_or-eq_default}
use Rattle.kit.specs.Pick.{side}
use Rattle.kit.specs.Words.{word, word-part}
use Rattle.reader.specs.BuiltIns.{first_class, built_ins}
use Rattle.reader.specs.Program.{Program, Method, no_method, built_in_method, built_ins_from, program_of, class, method}
use Rattle.reader.specs.MemberRows.{block_at, row_count, count_word}
use Rattle.reader.specs.MemberAt.{methods-count}
use Rattle.reader.specs.MemberPass.{program_in}
use Rattle.reader.specs.Lookup.{class_past}
use Rattle.reader.specs.Linked.{files_in}
use Rattle.reader.specs.Access.{Limited}
use Rattle.reader.specs.Whole.{MethodTypes}
use Rattle.verifier.specs.Callees.{methods_in, entry_of, params_of, back_of, Typed, entry_built_in, entry_past, entry_far, entry_none, entry_is, params_none, params_some, back_past}

-- a method that neither takes nor gives
pub record Bare (M : Method) : Type 0 where
  pub params : M.params ≡ []
  pub results : M.results ≡ []

no_bare : Bare no_method
no_bare = record { params = refl; results = refl }

one_bare : (c j : ℕ) → Bare (get_or (built_in_method c ∷ []) j no_method)
one_bare c zero = record { params = refl; results = refl }
one_bare c (suc j) = no_bare

module _ (s : List ℕ) (n : ℕ) (t : List ℕ) (m : n ≤ 16) (l : Limited n t) (y : MethodTypes s n t) where
  abbrev P : Program
  P = program_of (files_in s n t)

  built_in_bare : (c j : ℕ) → c < 11 → Bare (method P c j)
  unfolding program_of built_ins_from built_ins
  built_in_bare zero j h = one_bare 0 j
  built_in_bare (suc zero) j h = one_bare 1 j
  built_in_bare (suc (suc zero)) j h = one_bare 2 j
  built_in_bare (suc (suc (suc zero))) j h = one_bare 3 j
  built_in_bare (suc (suc (suc (suc zero)))) j h = one_bare 4 j
  built_in_bare (suc (suc (suc (suc (suc zero))))) j h = one_bare 5 j
  built_in_bare (suc (suc (suc (suc (suc (suc zero)))))) j h = one_bare 6 j
  built_in_bare (suc (suc (suc (suc (suc (suc (suc zero))))))) j h = one_bare 7 j
  built_in_bare (suc (suc (suc (suc (suc (suc (suc (suc zero)))))))) j h = one_bare 8 j
  built_in_bare (suc (suc (suc (suc (suc (suc (suc (suc (suc zero))))))))) j h = one_bare 9 j
  built_in_bare (suc (suc (suc (suc (suc (suc (suc (suc (suc (suc zero)))))))))) j h = one_bare 10 j
  built_in_bare (suc (suc (suc (suc (suc (suc (suc (suc (suc (suc (suc c))))))))))) j h = absurd (omega arith)

  past_bare : (c j : ℕ) → 11 + n ≤ c → Bare (method P c j)
  past_bare c j h = rw (class_past s n t m c h) no_bare

  count_word_lem : (c : ℕ) → row_count (block_at t c) true ≡ methods_in t c
  unfolding row_count count_word
  count_word_lem c =
      let z : 6432 * c ≡ 4 * (1608 * c) = omega arith in
      ap (λ (k : ℕ). word (take 6432 (drop k t)) 1028) z ∙ word-part (1608 * c) 6432 t 1028 (omega arith)

  none_bare : (c j : ℕ) → c < n → methods_in t c ≤ j → Bare (method P (first_class + c) j)
  none_bare c j h k =
      let e : method P (first_class + c) j ≡ no_method =
      get_or-eq_default (class P (first_class + c)).methods no_method (let a = methods-count s n t m c h in let b = count_word_lem c in omega arith) in
      rw e no_bare

  -- no entry, no types
  bare_typed : (k : ℕ) (M : Method) → Bare M → 1024 ≡ k → (M.params ≡ params_of t k) × (M.results ≡ back_of t k)
  bare_typed k M b e = (b.params ∙ sym (params_none t k (omega arith)), b.results ∙ back_past t k (omega arith))

  own_typed : (c j : ℕ) → c < n → j < methods_in t c → ((method P (first_class + c) j).params ≡ params_of t (64 * c + j)) × ((method P (first_class + c) j).results ≡ back_of t (64 * c + j))
  unfolding back_of
  own_typed c j h k =
      let r : j < row_count (block_at t c) true = let b = count_word_lem c in omega arith in
      let q : row_count (block_at t c) true ≤ 64 = l.methods c h in
      let d : 64 * c + j < 1024 = omega arith in
      (sym (y.params c j h r) ∙ sym (params_some t (64 * c + j) d), sym (y.results c j h r) ∙ sym (rw (lt-ltb (64 * c + j) 1024 d)))

  typed_at : (c j : ℕ) → ((method P c j).params ≡ params_of t (entry_of t n c j)) × ((method P c j).results ≡ back_of t (entry_of t n c j))
  typed_at c j = low (side c 11)
    where
      Says : Type 0
      Says = ((method P c j).params ≡ params_of t (entry_of t n c j)) × ((method P c j).results ≡ back_of t (entry_of t n c j))

      own : (g : 11 ≤ c) (h : c < 11 + n) → j < 64 → (j < methods_in t (c - 11)) ⊎ (methods_in t (c - 11) ≤ j) → Says
      own g h k (inl a) =
          let z : first_class + (c - 11) ≡ c = omega arith in
          let e : 64 * (c - 11) + j ≡ entry_of t n c j = entry_is t n c j g h k (methods_in t (c - 11)) refl a in
          let o = own_typed (c - 11) j (omega arith) a in
          (ap (λ (i : ℕ). (method P i j).params) (sym z) ∙ o.0 ∙ ap (params_of t) e, ap (λ (i : ℕ). (method P i j).results) (sym z) ∙ o.1 ∙ ap (back_of t) e)
      own g h k (inr a) =
          let z : first_class + (c - 11) ≡ c = omega arith in
          let b : Bare (method P (first_class + (c - 11)) j) = none_bare (c - 11) j (omega arith) a in
          bare_typed (entry_of t n c j) (method P c j) (rw z at b) (entry_none t n c j g h k (methods_in t (c - 11)) refl a)

      far : (g : 11 ≤ c) (h : c < 11 + n) → (j < 64) ⊎ (64 ≤ j) → Says
      far g h (inl k) = own g h k (side j (methods_in t (c - 11)))
      far g h (inr k) =
          let z : first_class + (c - 11) ≡ c = omega arith in
          let q : row_count (block_at t (c - 11)) true ≤ 64 = l.methods (c - 11) (omega arith) in
          let b : Bare (method P (first_class + (c - 11)) j) = none_bare (c - 11) j (omega arith) (let w = count_word_lem (c - 11) in omega arith) in
          bare_typed (entry_of t n c j) (method P c j) (rw z at b) (entry_far t n c j g h k)

      high : (g : 11 ≤ c) → (c < 11 + n) ⊎ (11 + n ≤ c) → Says
      high g (inl h) = far g h (side j 64)
      high g (inr h) = bare_typed (entry_of t n c j) (method P c j) (past_bare c j h) (entry_past t n c j g h)

      low : (c < 11) ⊎ (11 ≤ c) → Says
      low (inl h) = bare_typed (entry_of t n c j) (method P c j) (built_in_bare c j h) (entry_built_in t n c j h)
      low (inr g) = high g (side c (11 + n))

  -- the table that typing asks for
  pub typed-tables : Typed t (program_in s n t) n
  typed-tables = record { params = λ c j. (typed_at c j).0; results = λ c j. (typed_at c j).1 }
