-- What phases A to C have shown of the methods that instructions call. Assumes nothing.
use Rattle.std.specs.Prelude.{ℕ, ◌≡◌, true, false, List}
use Rattle.reader.specs.Program.{is_constructor, below, lookup, method_sigs, spot}
use Rattle.rules.specs.Instruction.{MethodRef, invokevirtual}
use Rattle.rules.specs.Opcodes.{instruction}
use Rattle.rules.specs.Sites.{front}
use Rattle.shaping.specs.Phases.{program_now}
use Rattle.running.specs.Standing.{method_by, Row}

pub record Callable (b : List ℕ) (n : ℕ) (t : List ℕ) : Type 0 where
  pub bound : (c j : ℕ) → is_constructor (method_by b n (front t) c j) ≡ true → (method_by b n (front t) c j).static ≡ false
  pub of : (c j o : ℕ) (m : MethodRef) → instruction (program_now b n t) (method_by b n (front t) c j) o ≡ invokevirtual m → Row n (front t) m.owner m.index
  pub reach : (c j o : ℕ) (m : MethodRef) → instruction (program_now b n t) (method_by b n (front t) c j) o ≡ invokevirtual m
      → (e : ℕ) → below (program_now b n t) e m.named ≡ true → below (program_now b n t) e m.owner ≡ true
  pub over : (c j o : ℕ) (m : MethodRef) → instruction (program_now b n t) (method_by b n (front t) c j) o ≡ invokevirtual m
      → (f e i : ℕ) → below (program_now b n t) f m.owner ≡ true → lookup (program_now b n t) method_sigs (method_by b n (front t) m.owner m.index).sig f ≡ spot e i
      → (method_by b n (front t) e i).static ≡ false
