-- Which lanelets follow which, by their positions.
use Rattle.std.specs.Prelude.{◌≡◌, ◌↔◌, ℕ, ◌<◌, ◌==◌, true, List, Option, Some, None, slice_get, length}
use Rattle.std.specs.List.{list_any}
use Rattle.spot_terms.specs.Cells.{Lane, follows}
use Rattle.spot_terms.specs.Lists.{Includes, Pairwise}
use Rattle.lanelets.specs.Listing.{AreBelow, AreLists, AreRows}
use Rattle.lanelets.specs.declared.links.Links.{Links}

-- the position of the only lanelet with this id, or none
abbrev pub IsPlaceOf : List Lane → ℕ → Option ℕ → Type 0
IsPlaceOf lanes id None = (f : ℕ) (l : Lane) → slice_get lanes f ≡ Some l → id ≡ l.0 → ⊥
IsPlaceOf lanes id (Some p) = (p < length lanes) × ((f : ℕ) (l : Lane) → slice_get lanes f ≡ Some l → ((id ≡ l.0) ↔ (f ≡ p)))

-- the positions of the lanelets whose ids are among these
pub record ArePlaces (lanes : List Lane) (ids places : List ℕ) : Type 0 where
  pub within : AreBelow (length lanes) places
  pub each : (f : ℕ) (l : Lane) → slice_get lanes f ≡ Some l → (Includes places f ↔ (list_any (λ i. i == l.0) ids ≡ true))

-- for each lanelet the positions of its successors
abbrev pub AreSuccessors : List Lane → List (List ℕ) → Type 0
AreSuccessors lanes rows = Pairwise (λ (l : Lane) row. ArePlaces lanes l.1.successors row) lanes rows

-- the lanelet at e is followed by that at f
abbrev pub IsFollowed : List Lane → ℕ → ℕ → Type 0
IsFollowed lanes e f = (l m : Lane) × (slice_get lanes e ≡ Some l) × (slice_get lanes f ≡ Some m) × (follows m l ≡ true)

-- for each lanelet the positions of those that it follows
abbrev pub AreSources : List Lane → List (List ℕ) → Type 0
AreSources lanes rows = AreRows (λ f e. IsFollowed lanes e f) (length lanes) rows

-- for each lanelet the positions of those that it follows, and of those that follow it
pub record AreLinks (lanes : List Lane) (links : Links) : Type 0 where
  pub sources : AreSources lanes links.sources.items
  pub after : AreLists (IsFollowed lanes) (length lanes) links.after.items
