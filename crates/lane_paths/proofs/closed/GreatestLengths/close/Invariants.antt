use Rattle.std.proofs.Common.{◌≡◌, ◌+◌, ◌-◌, ℕ, length}
use Rattle.std.specs.Prelude.{slice_get, Some}
use Rattle.lane_paths.proofs.closed.GreatestLengths.close.Given as goal

abbrev pub invariant-loop-self : goal.invariant-loop-self
invariant-loop-self l = (q n : ℕ) → slice_get l.self.greatest.items q ≡ Some (Some n) → slice_get l.fn.self.greatest.items q ≡ Some (Some n)

abbrev pub decreases-loop-self : goal.decreases-loop-self
decreases-loop-self l = l.first + 1 - length l.self.greatest.items
