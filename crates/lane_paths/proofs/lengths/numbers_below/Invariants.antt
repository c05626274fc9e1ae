use Rattle.std.proofs.Common.{ℕ, ◌<◌, take}
use Rattle.std.specs.List.{AllByRecursion}
use Rattle.spot_terms.specs.Lists.{Includes}
use Rattle.lane_paths.proofs.lengths.numbers_below.Given as goal

abbrev pub invariant-loop-number : goal.invariant-loop-number
invariant-loop-number l = ((i : ℕ) → Includes (take l.number-index l.reached) i → i < l.count → Includes l.cells.items i) × AllByRecursion (λ (c : ℕ). c < l.count) l.cells.items
