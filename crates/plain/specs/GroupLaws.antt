-- Instructions of a group by the variant that the code has before it. Assumes nothing.
use Rattle.std.specs.Prelude.{◌≡◌, ℕ, List}
use Rattle.std.proofs.Common.{sym, subst}
use Rattle.reader.specs.Program.{Program}
use Rattle.rules.specs.Instruction.{Instr}
use Rattle.plain.specs.Windows.{Turn, Goes}
use Rattle.plain.specs.WindowForms.{doing}
use Rattle.plain.specs.HeapTurns.{Steps}
use Rattle.plain.specs.declared.window.Place.{Place}

module _ {G : Type 0} (of : G → Instr) (i j : G) (e : i ≡ j) (c : Place) (w g w' g' : List ℕ) (r : Turn) (n : ℕ) where
  pub window_arm : Goes c w g w' g' r (doing w g n (of j)) → Goes c w g w' g' r (doing w g n (of i))
  window_arm k = subst (λ (z : G). Goes c w g w' g' r (doing w g n (of z))) (sym e) k

  pub heap_arm : (K : Program → Type 0) (cells cells' : List ℕ) → Steps K c w g cells w' g' cells' r (doing w g n (of j)) → Steps K c w g cells w' g' cells' r (doing w g n (of i))
  heap_arm K cells cells' k = subst (λ (z : G). Steps K c w g cells w' g' cells' r (doing w g n (of z))) (sym e) k
