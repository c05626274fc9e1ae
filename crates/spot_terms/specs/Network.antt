-- Which cells of a network are ahead of a cell, and which lie beside it.
use Rattle.std.specs.Prelude.{◌≡◌, ℕ, ◌+◌, ◌*◌, ◌<◌, List, length, Bool, true, ◌&&◌, ◌||◌, ◌==◌, not, Option, Some, None, slice_get}
use Rattle.std.specs.List.{list_any}
use Rattle.spot_terms.specs.declared.network.Origin.{Origin}
use Rattle.spot_terms.specs.declared.network.Origin.TheVariants.{Part, Bridge}
use Rattle.spot_terms.specs.Cells.{Lane, NetCell, follows, same_portal, first_portal, last_portal}

-- the position of the lanelet that the cell is a part of; a bridge is of none
abbrev pub lane_of : Origin → Option ℕ
lane_of (Part e piece part parts) = Some e
lane_of (Bridge e f) = None

-- cell c is the last of the lanelet at e
abbrev pub EndsLane : List NetCell → ℕ → ℕ → Type 0
EndsLane net c e = (a : NetCell) × (slice_get net c ≡ Some a) × (lane_of a.origin ≡ Some e)
    × ((b : NetCell) → slice_get net (c + 1) ≡ Some b → lane_of b.origin ≡ Some e → ⊥)

-- cell d is the first of the lanelet at f
abbrev pub BeginsLane : List NetCell → ℕ → ℕ → Type 0
BeginsLane net d f = (parts : ℕ) × (b : NetCell) × (slice_get net d ≡ Some b) × (b.origin ≡ Part f 0 0 parts)

-- cell c goes ahead to cell d: to the next of its lanelet; to the first of a lanelet that follows and begins where it
-- ends; onto a bridge; off a bridge
pub data IsAhead (lanes : List Lane) (net : List NetCell) (c d : ℕ) : Type 0 where
  within : {e : ℕ} {a b : NetCell} → slice_get net c ≡ Some a → slice_get net d ≡ Some b → d ≡ c + 1
      → lane_of a.origin ≡ Some e → lane_of b.origin ≡ Some e → IsAhead lanes net c d
  joins : {e f : ℕ} {l m : Lane} → EndsLane net c e → BeginsLane net d f → slice_get lanes e ≡ Some l → slice_get lanes f ≡ Some m
      → follows m l ≡ true → same_portal (last_portal l) (first_portal m) ≡ true → IsAhead lanes net c d
  onto : {e f : ℕ} {b : NetCell} → EndsLane net c e → slice_get net d ≡ Some b → b.origin ≡ Bridge e f → IsAhead lanes net c d
  off : {e f : ℕ} {a : NetCell} → slice_get net c ≡ Some a → a.origin ≡ Bridge e f → BeginsLane net d f → IsAhead lanes net c d

-- one lists the other as a neighbour of the same direction, and they aren't the same
abbrev pub are_neighbours : Lane → Lane → Bool
are_neighbours l m = not (l.0 == m.0) && (list_any (λ i. i == m.0) l.1.sides || list_any (λ i. i == l.0) m.1.sides)

-- parts of the same piece that overlap
abbrev pub Overlaps : Origin → Origin → Type 0
Overlaps (Part e piece part parts) (Part e' piece' part' parts') = (piece ≡ piece') × (part * parts' < (part' + 1) * parts) × (part' * parts < (part + 1) * parts')
Overlaps (Part e piece part parts) (Bridge e' f') = ⊥
Overlaps (Bridge e f) o = ⊥

-- cells c and d lie side by side: they are of neighbours, and, where these have equal numbers of points, overlap
pub record IsSide (lanes : List Lane) (net : List NetCell) (c d : ℕ) : Type 0 where
  pub e : ℕ
  pub f : ℕ
  pub l : Lane
  pub m : Lane
  pub a : NetCell
  pub b : NetCell
  pub c_is : slice_get net c ≡ Some a
  pub d_is : slice_get net d ≡ Some b
  pub e_is : (lane_of a.origin ≡ Some e) × (slice_get lanes e ≡ Some l)
  pub f_is : (lane_of b.origin ≡ Some f) × (slice_get lanes f ≡ Some m)
  pub neighbours : are_neighbours l m ≡ true
  pub beside : length l.1.left ≡ length m.1.left → Overlaps a.origin b.origin
