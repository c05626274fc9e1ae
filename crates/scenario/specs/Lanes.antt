-- What is read of lanelets.
use Rattle.std.specs.Prelude.{◌≡◌, ◌++◌, ℕ, List, [], ◌∷◌, Option, codes}
use Rattle.std.specs.List.{AllByRecursion}
use Rattle.spot_terms.specs.Lists.{Pairwise}
use Rattle.spot_terms.specs.Ranges.{IsLaneInRange}
use Rattle.spot_terms.specs.declared.scenario.RawLane.{RawLane}
use Rattle.spot_claims.specs.Tree.{Element}
use Rattle.spot_claims.specs.Scenario.{IsPair, IsLane, bound_points, reference_at, references, neighbour_at, neighbours}
use Rattle.scenario.specs.Has.{HasBounds}
use Rattle.scenario.specs.declared.lanes.Link.{Link}
use Rattle.scenario.specs.declared.lanes.Link.TheVariants.{Any, SameDirection}

abbrev pub link_of : Link → List Element → ℕ → Option ℕ
link_of Any tree e = reference_at tree e
link_of SameDirection tree e = neighbour_at tree e

-- the bounds and the references of an element
pub record IsLaneAt (tree : List Element) (e : ℕ) (l : RawLane) : Type 0 where
  pub left : Pairwise (IsPair tree) (bound_points tree (codes "leftBound") e) l.left
  pub right : Pairwise (IsPair tree) (bound_points tree (codes "rightBound") e) l.right
  pub successors : l.successors ≡ references tree (codes "successor") e
  pub predecessors : l.predecessors ≡ references tree (codes "predecessor") e
  pub sides : l.sides ≡ neighbours tree (codes "adjacentLeft") e ++ neighbours tree (codes "adjacentRight") e

-- the entries are followed by one more, which is the lanelet of e, whose points are all there
pub record AddsLane (tree : List Element) (e : ℕ) (before after : List (ℕ × RawLane)) : Type 0 where
  pub entry : ℕ × RawLane
  pub has : HasBounds tree e
  pub is : IsLane tree e entry
  pub within : IsLaneInRange entry.1
  pub after_is : after ≡ before ++ entry ∷ []

abbrev pub AreInRange : List (ℕ × RawLane) → Type 0
AreInRange entries = AllByRecursion (λ p. IsLaneInRange p.1) entries
