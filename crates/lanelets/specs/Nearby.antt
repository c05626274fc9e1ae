-- Where cells that lie beside those of a lanelet are looked for.
use Rattle.std.specs.Prelude.{◌≡◌, ℕ, ◌+◌, ◌%◌, ◌||◌, ◌==◌, true, List, Some, slice_get, slice_index_or, length}
use Rattle.std.specs.List.{list_any}
use Rattle.spot_terms.specs.Cells.{Lane, NetCell}
use Rattle.spot_terms.specs.Lists.{Pairwise}
use Rattle.spot_terms.specs.declared.network.Origin.TheVariants.{Part}
use Rattle.lanelets.specs.declared.kept.KeptLane.{KeptLane}
use Rattle.lanelets.specs.declared.nearby.Nearby.{Nearby}
use Rattle.lanelets.specs.Kept.{IsKept}
use Rattle.lanelets.specs.Links.{ArePlaces}
use Rattle.lanelets.specs.Listing.{AreLists}
use Rattle.lanelets.specs.Steps.{IsOfLane}

-- for each lanelet the positions of those that it lists as neighbours
abbrev pub AreSideRows : List Lane → List (List ℕ) → Type 0
AreSideRows lanes rows = Pairwise (λ (l : Lane) row. ArePlaces lanes l.1.sides row) lanes rows

-- one of the lanelets at e and f lists the other as a neighbour
abbrev pub AreListed : List Lane → ℕ → ℕ → Type 0
AreListed lanes e f = (l m : Lane) × (slice_get lanes e ≡ Some l) × (slice_get lanes f ≡ Some m) × ((list_any (λ i. i == m.0) l.1.sides || list_any (λ i. i == l.0) m.1.sides) ≡ true)

-- the number, below n, of a piece of the lanelet at e, by that of its first cell
abbrev pub IsPieceNumber : List (List ℕ) → ℕ → ℕ → ℕ → ℕ → Type 0
IsPieceNumber parts n e piece k = (list : List ℕ) × (slice_get parts e ≡ Some list) × (k ≡ (slice_index_or list 0 0 + piece) % n)

-- cell c is a part of a piece with this number
abbrev pub HasPieceNumber : List (List ℕ) → List NetCell → ℕ → ℕ → Type 0
HasPieceNumber lists net c k = (e piece part parts : ℕ) × (a : NetCell) × (slice_get net c ≡ Some a) × (a.origin ≡ Part e piece part parts) × IsPieceNumber lists (length net) e piece k

-- for each lanelet those with which it is listed, and its cells, and for each number of a piece the cells of that
pub record IsNearby (lanes : List Lane) (net : List NetCell) (nearby : Nearby) : Type 0 where
  pub neighbours : AreLists (AreListed lanes) (length lanes) nearby.neighbours.items
  pub parts : AreLists (λ e c. IsOfLane net c e) (length lanes) nearby.parts.items
  pub pieces : AreLists (λ k c. HasPieceNumber nearby.parts.items net c k) (length net) nearby.pieces.items

-- what is kept of lanelets, and what is near each
pub record AreKept (lanes : List Lane) (net : List NetCell) (kept : List KeptLane) (nearby : Nearby) : Type 0 where
  pub each : Pairwise IsKept lanes kept
  pub near : IsNearby lanes net nearby
