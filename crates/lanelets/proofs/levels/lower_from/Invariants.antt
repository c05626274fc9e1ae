use Rattle.std.specs.Prelude.{◌≡◌, ℕ, ◌+◌, List, length}
use Rattle.lanelets.specs.Levels.{IsUnderWay, size_of}
use Rattle.lanelets.specs.Listing.{AreBelow}
use Rattle.lanelets.proofs.levels.lower_from.Given as goal

abbrev pub invariant-loop : goal.invariant-loop
invariant-loop l = (length l.numbers ≡ length l.fn.numbers) × AreBelow (length l.fn.numbers) l.noted.items × ((first : List ℕ) → IsUnderWay l.pairs first l.c l.fn.numbers l.fn.noted.items → IsUnderWay l.pairs first (l.c + 1) l.numbers l.noted.items)

abbrev pub decreases-loop : goal.decreases-loop
decreases-loop l = size_of l.numbers l.noted.items
