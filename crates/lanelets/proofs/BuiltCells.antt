-- The cells that a network keeps are those that are defined.
use Rattle.std.proofs.Common.{◌≡◌, ℕ, ◌+◌, ◌<◌, ◌≤◌, Bool, true, false, ◌&&◌, not, List, [], ◌∷◌, length, get_or, refl, sym, subst, arith}
use Rattle.std.specs.List.{AllByRecursion}
use Rattle.std.specs.Prelude.{Option, Some, None, slice_get, if◌then◌else◌}
use Rattle.spot_terms.specs.Cells.{Lane, Portal, NetCell, cells, cells_from, lane_cells, follows, same_portal, first_portal, last_portal, bridge_cell, bridges_to, bridges_from}
use Rattle.spot_terms.specs.Lists.{Lists, Pairwise}
use Rattle.spot_terms.specs.Network.{IsAhead, lane_of}
use Rattle.spot_terms.specs.declared.network.Origin.{Origin}
use Rattle.spot_terms.specs.declared.network.Origin.TheVariants.{Part, Bridge}
use Rattle.lanelets.specs.declared.cell.Placed.{Placed}
use Rattle.lanelets.specs.declared.classes.Classes.{Classes}
use Rattle.lanelets.specs.Beside.{AreClasses, IsBeside}
use Rattle.lanelets.specs.Built.{IsCellAt}
use Rattle.lanelets.specs.Listing.{AreLists}
use Rattle.lanelets.specs.Made.{IsPlaced}
use Rattle.lanelets.specs.Steps.{net_of, IsInside}
use Rattle.lanelets.proofs.LaneCells.{IsOfLane, cells_of_lane}
use Rattle.lanelets.proofs.Places.{partner_at, read_at, same_lengths}
use Rattle.spot_terms.proofs.ListLemmas.{all_append}
use Rattle.spot_terms.proofs.ItemPlaces.{item_at}

pub as_many : (lanes : List Lane) (made : List Placed) → Pairwise (IsPlaced lanes) (cells lanes) made → length made ≡ length (cells lanes)
as_many lanes made p = same_lengths (IsPlaced lanes) (cells lanes) made p

pub placed_as : (lanes : List Lane) (made all : List Placed) → all ≡ made → Pairwise (IsPlaced lanes) (cells lanes) made → Pairwise (IsPlaced lanes) (cells lanes) all
placed_as lanes made all e p = subst (Pairwise (IsPlaced lanes) (cells lanes)) (sym e) p

pub cell_at : (lanes : List Lane) (made : List Placed) (c : ℕ) (x : Placed) → Pairwise (IsPlaced lanes) (cells lanes) made → c < length (cells lanes) → x ≡ get_or made c x → IsCellAt lanes c x.cell
cell_at lanes made c x all h e =
    let many = as_many lanes made all in
    let here : slice_get made c ≡ Some x = read_at made c x (omega (arith, h, many)) e in
    let (n, at) = item_at (cells lanes) c h in
    let p : IsPlaced lanes n x = partner_at (IsPlaced lanes) (cells lanes) made c n x all at here in
    record { net_cell = n; lane = p.lane; cell_is = at; lane_is = p.lane_is; cell_of = p.made.cell }

same_cell : (o o' : Origin) (p p' q q' : Portal) → o ≡ o' → p ≡ p' → q ≡ q' → let n : NetCell = record { origin = o; entry = p; exit = q } in let m : NetCell = record { origin = o'; entry = p'; exit = q' } in n ≡ m
same_cell o o' p p' q q' e f g = simp (e, f, g)

pub same_net : (lanes : List Lane) (net : List NetCell) (made : List Placed) → Pairwise (IsPlaced lanes) net made → net_of made ≡ net
same_net lanes [] [] p = refl
same_net lanes [] (x ∷ made) p = absurd p
same_net lanes (n ∷ net) [] p = absurd p
same_net lanes (n ∷ net) (x ∷ made) p =
    let here = same_cell x.origin n.origin x.cell.entry n.entry x.cell.exit n.exit p.0.made.origin p.0.made.cell.entry p.0.made.cell.exit in
    let rest : net_of made ≡ net = same_net lanes net made p.1 in
    cc

-- ---- the positions that cells name

of_lane_inside : (k e : ℕ) (o : Origin) → lane_of o ≡ Some e → e < k → IsInside k o
of_lane_inside k e (Part f piece part parts) h low = let same : e ≡ f = cc in subst (λ i. i < k) same low
of_lane_inside k e (Bridge f g) h low = cc

all_inside : (k e : ℕ) (net : List NetCell) → AllByRecursion (IsOfLane e) net → e < k → AllByRecursion (λ (n : NetCell). IsInside k n.origin) net
all_inside k e [] a low = tt
all_inside k e (n ∷ net) a low = (of_lane_inside k e n.origin a.0 low, all_inside k e net a.1 low)

lanes_inside : (k n : ℕ) (lanes : List Lane) → n + length lanes ≤ k → AllByRecursion (λ (c : NetCell). IsInside k c.origin) (lane_cells n lanes)
lanes_inside k n [] h = tt
lanes_inside k n (l ∷ lanes) h =
    all_append (λ (c : NetCell). IsInside k c.origin) (cells_from n 0 l.1.left l.1.right) (lane_cells (n + 1) lanes)
    (all_inside k n (cells_from n 0 l.1.left l.1.right) (cells_of_lane n 0 l.1.left l.1.right) (omega (arith, h)))
    (lanes_inside k (n + 1) lanes (omega (arith, h)))

bridge_inside : (k e f : ℕ) (p q : Option Portal) (b : Bool) → e < k → f < k → AllByRecursion (λ (c : NetCell). IsInside k c.origin) (if b then bridge_cell e f p q else [])
bridge_inside k e f p q false h g = tt
bridge_inside k e f None q true h g = tt
bridge_inside k e f (Some p) None true h g = tt
bridge_inside k e f (Some p) (Some q) true h g = ((h, g), tt)

to_inside : (k e : ℕ) (l : Lane) (f : ℕ) (lanes : List Lane) → e < k → f + length lanes ≤ k → AllByRecursion (λ (c : NetCell). IsInside k c.origin) (bridges_to e l f lanes)
to_inside k e l f [] h g = tt
to_inside k e l f (m ∷ lanes) h g =
    all_append (λ (c : NetCell). IsInside k c.origin) _ (bridges_to e l (f + 1) lanes)
    (bridge_inside k e f (last_portal l) (first_portal m) (follows m l && not (same_portal (last_portal l) (first_portal m))) h (omega (arith, g)))
    (to_inside k e l (f + 1) lanes h (omega (arith, g)))

from_inside : (every : List Lane) (e : ℕ) (lanes : List Lane) → e + length lanes ≤ length every → AllByRecursion (λ (c : NetCell). IsInside (length every) c.origin) (bridges_from every e lanes)
from_inside every e [] h = tt
from_inside every e (l ∷ lanes) h =
    all_append (λ (c : NetCell). IsInside (length every) c.origin) (bridges_to e l 0 every) (bridges_from every (e + 1) lanes)
    (to_inside (length every) e l 0 every (omega (arith, h)) (omega arith))
    (from_inside every (e + 1) lanes (omega (arith, h)))

cells_inside : (lanes : List Lane) → AllByRecursion (λ (c : NetCell). IsInside (length lanes) c.origin) (cells lanes)
unfolding cells
cells_inside lanes =
    all_append (λ (c : NetCell). IsInside (length lanes) c.origin) (lane_cells 0 lanes) (bridges_from lanes 0 lanes)
    (lanes_inside (length lanes) 0 lanes (omega arith)) (from_inside lanes 0 lanes (omega arith))

placed_inside : (k : ℕ) (lanes : List Lane) (net : List NetCell) (made : List Placed) → Pairwise (IsPlaced lanes) net made → AllByRecursion (λ (c : NetCell). IsInside k c.origin) net → AllByRecursion (λ (x : Placed). IsInside k x.origin) made
placed_inside k lanes [] [] p a = tt
placed_inside k lanes [] (x ∷ made) p a = absurd p
placed_inside k lanes (n ∷ net) [] p a = absurd p
placed_inside k lanes (n ∷ net) (x ∷ made) p a = (subst (IsInside k) (sym p.0.made.origin) a.0, placed_inside k lanes net made p.1 a.1)

pub made_inside : (lanes : List Lane) (made : List Placed) → Pairwise (IsPlaced lanes) (cells lanes) made → AllByRecursion (λ (x : Placed). IsInside (length lanes) x.origin) made
made_inside lanes made p = placed_inside (length lanes) lanes (cells lanes) made p (cells_inside lanes)

pub ahead_as : (lanes : List Lane) (made : List Placed) (next : List (List ℕ)) → Pairwise (IsPlaced lanes) (cells lanes) made → AreLists (IsAhead lanes (net_of made)) (length made) next → AreLists (IsAhead lanes (cells lanes)) (length (cells lanes)) next
ahead_as lanes made next p a =
    subst (λ (n : ℕ). AreLists (IsAhead lanes (cells lanes)) n next) (as_many lanes made p) (subst (λ (net : List NetCell). AreLists (IsAhead lanes net) (length made) next) (same_net lanes (cells lanes) made p) a)

pub classes_as : (lanes : List Lane) (made : List Placed) (classes : Classes) → Pairwise (IsPlaced lanes) (cells lanes) made → AreClasses lanes (net_of made) classes → AreClasses lanes (cells lanes) classes
classes_as lanes made classes p a = subst (λ (net : List NetCell). AreClasses lanes net classes) (same_net lanes (cells lanes) made p) a

-- the class of the cell whose number was read
pub class_at : (lanes : List Lane) (classes : Classes) (c k : ℕ) → AreClasses lanes (cells lanes) classes → c < length (cells lanes) → k ≡ get_or classes.numbers.items c k
    → (list : List ℕ) × (slice_get classes.cells.items k ≡ Some list) × Lists (λ d. IsBeside lanes (cells lanes) d c) list
class_at lanes classes c k a h e = let many = a.many in a.each c k (read_at classes.numbers.items c k (omega (arith, h, many)) e)
