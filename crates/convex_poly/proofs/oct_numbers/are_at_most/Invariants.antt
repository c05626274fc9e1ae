use Rattle.std.proofs.Common.{ℕ, ◌<◌, ◌≤ℤ◌, pos, get_or}
use Rattle.convex_poly.proofs.oct_numbers.are_at_most.Given as goal

abbrev pub invariant-loop-i : goal.invariant-loop-i
invariant-loop-i l = (k : ℕ) → k < l.i → get_or l.places k (pos 0) ≤ℤ get_or l.numbers k (pos 0)
