-- What a step answers. Assumes nothing.
use Rattle.std.specs.Prelude.{IfOk, IfErr, ℕ, ◌≡◌, List}
use Rattle.rules.specs.Sites.{front}
use Rattle.shaping.specs.Phases.{program_now}
use Rattle.plain.specs.Heap.{Val}
use Rattle.plain.specs.Step.{step}
use Rattle.plain.specs.Run.{result}
use Rattle.plain.specs.declared.frames.Frame.{Frame}
use Rattle.running.specs.Standing.{machine_of, Standing}
use Rattle.running.specs.Dispatching.{Dispatch}
use Rattle.running.specs.Throwing.{Move, moved_of, kept_by}
use Rattle.running.specs.declared.ends.End.{End}
use Rattle.running.specs.declared.ends.End.TheVariants.{Returned, Uncaught, HeapFull as NoRoom, DepthFull as NoDepth, Stuck as NoWay}

-- what is returned is the results' cell
abbrev pub valued : List Val → End → Type 0
valued rs (Returned v) = result rs ≡ v
valued rs (Uncaught c) = Unit {0}
valued rs NoRoom = Unit {0}
valued rs NoDepth = Unit {0}
valued rs NoWay = Unit {0}

pub record Stepped (b : List ℕ) (n : ℕ) (t s g cells : List ℕ) (d : ℕ) (k : Frame) (used : ℕ) (t' s' g' cells' : List ℕ) (r : Move) : Type 0 where
  pub results : List Val
  pub value : IfErr r (λ e. valued results e.end)
  pub is : moved_of results cells' t' s' g' r ≡ step (program_now b n t) (machine_of cells used t s g d k)
  pub stands : IfOk r (λ o. Standing b n t' s' g' o.depth o.call)
  pub dispatch : Dispatch b n t'
  pub front : front t' ≡ front t
  pub kept : kept_by (cells' ≡ cells) used r
