-- What is needed to find the cells that are ahead.
use Rattle.std.specs.Prelude.{◌≡◌, ◌⊎◌, ℕ, ◌<◌, true, List, map, Some, slice_get}
use Rattle.spot_terms.specs.Cells.{Lane, NetCell, same_portal, first_portal, last_portal}
use Rattle.spot_terms.specs.Lists.{Includes}
use Rattle.spot_terms.specs.Network.{lane_of, EndsLane}
use Rattle.spot_terms.specs.declared.network.Origin.{Origin}
use Rattle.spot_terms.specs.declared.network.Origin.TheVariants.{Part, Bridge}
use Rattle.lanelets.specs.declared.cell.Placed.{Placed}
use Rattle.lanelets.specs.declared.links.Links.{Links}
use Rattle.lanelets.specs.declared.steps.Joints.{Joints}
use Rattle.lanelets.specs.Listing.{IsRowWith, AreLists}

-- the cells without their hulls
abbrev pub net_of : List Placed → List NetCell
net_of cells = map (λ p. record { origin = p.origin; entry = p.cell.entry; exit = p.cell.exit }) cells

-- cell c comes from there
abbrev pub HasOrigin : List NetCell → ℕ → Origin → Type 0
HasOrigin net c o = (a : NetCell) × (slice_get net c ≡ Some a) × (a.origin ≡ o)

-- cell c is a part of the lanelet at e
abbrev pub IsOfLane : List NetCell → ℕ → ℕ → Type 0
IsOfLane net c e = (a : NetCell) × (slice_get net c ≡ Some a) × (lane_of a.origin ≡ Some e)

-- cell c is a bridge to the lanelet at f
abbrev pub LeadsTo : List NetCell → ℕ → ℕ → Type 0
LeadsTo net c f = (e : ℕ) × (a : NetCell) × (slice_get net c ≡ Some a) × (a.origin ≡ Bridge e f)

-- the positions that it names are below n
abbrev pub IsInside : ℕ → Origin → Type 0
IsInside n (Part e piece part parts) = e < n
IsInside n (Bridge e f) = (e < n) × (f < n)

-- the lanelet at f begins where that at e ends
abbrev pub IsJoined : List Lane → ℕ → ℕ → Type 0
IsJoined lanes e f = (l m : Lane) × (slice_get lanes e ≡ Some l) × (slice_get lanes f ≡ Some m) × (same_portal (last_portal l) (first_portal m) ≡ true)

-- c is listed for one of these lanelets, at whose end that at f begins
abbrev pub IsJoinedFrom : List Lane → List ℕ → ℕ → List (List ℕ) → ℕ → Type 0
IsJoinedFrom lanes sources f ends c = (e : ℕ) × Includes sources e × IsJoined lanes e f × IsRowWith ends c e

-- the cells at which each lanelet ends, and the bridges that lead to it
pub record AreJoints (n : ℕ) (net : List NetCell) (joints : Joints) : Type 0 where
  pub ends : AreLists (λ e c. EndsLane net c e) n joints.ends.items
  pub leads : AreLists (λ f c. LeadsTo net c f) n joints.leads.items

-- c is the last of a lanelet that f follows and begins at the end of, or a bridge to f, as it is listed
abbrev pub IsOntoFirst : List Lane → Links → Joints → ℕ → ℕ → Type 0
IsOntoFirst lanes links joints f c = ((row : List ℕ) × (slice_get links.sources.items f ≡ Some row) × IsJoinedFrom lanes row f joints.ends.items c) ⊎ IsRowWith joints.leads.items c f
