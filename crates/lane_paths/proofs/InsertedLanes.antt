-- What lanelets keep when one more is put among them.
use Rattle.std.proofs.Common.{Bool, true, false, if◌then◌else◌, ℕ, ◌+◌, ◌≤◌, List, [], ◌∷◌, arith}
use Rattle.std.specs.List.{AllByRecursion}
use Rattle.indexmap.specs.IndexMap.{insert_entry}
use Rattle.spot_terms.specs.Cells.{Lane}
use Rattle.spot_terms.specs.declared.scenario.RawLane.{RawLane}
use Rattle.spot_terms.specs.Ranges.{IsLaneInRange, lane_size, lanes_size}

module _ (eq : ℕ → ℕ → Bool) (k : ℕ) (l : RawLane) where
  pub each_inserted : (ls : List Lane) → AllByRecursion (λ (e : Lane). IsLaneInRange e.1) ls → IsLaneInRange l → AllByRecursion (λ (e : Lane). IsLaneInRange e.1) (insert_entry eq ls k l)
  each_inserted [] all one = (one, all)
  each_inserted (e ∷ es) all one = by (eq k e.0) (each_inserted es all.1 one)
    where
      by : (b : Bool) → AllByRecursion (λ (e : Lane). IsLaneInRange e.1) (insert_entry eq es k l) → AllByRecursion (λ (e : Lane). IsLaneInRange e.1) (if b then (e.0, l) ∷ es else e ∷ insert_entry eq es k l)
      by true rest = (one, all.1)
      by false rest = (all.0, rest)

  pub few_inserted : (ls : List Lane) → lanes_size (insert_entry eq ls k l) ≤ lanes_size ls + lane_size l
  few_inserted [] = omega arith
  few_inserted (e ∷ es) = by (eq k e.0) (few_inserted es)
    where
      by : (b : Bool) → lanes_size (insert_entry eq es k l) ≤ lanes_size es + lane_size l → lanes_size (if b then (e.0, l) ∷ es else e ∷ insert_entry eq es k l) ≤ lanes_size (e ∷ es) + lane_size l
      by true rest = omega arith
      by false rest = omega (arith, rest)
