use Rattle.std.proofs.Common.{ℕ, ℤ, ◌≤◌, vec_capacity, length, sum_by}
use Rattle.spot_terms.specs.Lists.{numbers_below}
use Rattle.spot_terms.specs.RowBoxes.{slots_shared}
use Rattle.carve.proofs.Gathers.{Gathers}
use Rattle.carve.proofs.rows.gather.Given as goal

-- what the pieces so far take away
abbrev pub invariant-loop-piece : goal.invariant-loop-piece
invariant-loop-piece g l = record {
  gathers : Gathers (λ (p : ℕ) (x : ℤ). g.O.Occupied.hits l.o l.step p (record { x = x; y = l.low })) (λ (p : ℕ) (x : ℤ). g.O.Occupied.hits l.o l.step p (record { x = x; y = l.high })) l.piece l.spans.items;
  met : length l.spans.items ≤ sum_by (λ p. slots_shared l.g (g.O.Occupied.range l.o l.step p) (l.low, l.high)) (numbers_below l.piece);
  capacity : vec_capacity l.fn.spans ≤ vec_capacity l.spans;
}
