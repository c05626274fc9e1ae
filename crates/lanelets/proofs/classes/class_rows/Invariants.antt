use Rattle.std.specs.Prelude.{◌≡◌, slice_get, Some}
use Rattle.lanelets.specs.Listing.{AreRows}
use Rattle.lanelets.proofs.classes.class_rows.Given as goal

abbrev pub invariant-loop-n : goal.invariant-loop-n
invariant-loop-n l = AreRows (λ c x. slice_get l.numbers c ≡ Some x) l.n-index l.rows.items
