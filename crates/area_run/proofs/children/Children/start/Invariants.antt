use Rattle.std.proofs.Common.{◌≡◌, ℕ, ◌<◌, Some, None}
use Rattle.std.specs.Prelude.{Option, slice_get}
use Rattle.area_run.specs.declared.children.Kept.{Kept}
use Rattle.area_run.proofs.children.Children.start.Given as goal

-- none of the first is kept
abbrev pub invariant-loop-i : goal.invariant-loop-i
invariant-loop-i l = (j : ℕ) (k : Option Kept) → j < l.i → slice_get l.self.kept.items j ≡ Some k → k ≡ None
