-- Which cells hold a point.
use Rattle.std.proofs.Common.{◌≡◌, ℕ, ◌<◌, ◌≤◌, List, length, min, subst, sym, arith}
use Rattle.std.specs.List.{AllByRecursion}
use Rattle.std.proofs.lemmas.Option.{slice_get-get_or}
use Rattle.std.specs.Prelude.{◌↔◌, Some, slice_get, slice_index_or}
use Rattle.spot_terms.specs.Cells.{Lane, NetCell, Portal, cells, corners_of}
use Rattle.spot_terms.specs.Hull.{InHull, whole_pt}
use Rattle.spot_terms.specs.Lists.{Pairwise, Lists}
use Rattle.spot_terms.specs.declared.plain.Pt.{Pt}
use Rattle.spot_terms.proofs.Hulls.{hull_to_points, hull_to_corners}
use Rattle.lanelets.specs.declared.cell.Placed.{Placed}
use Rattle.lanelets.specs.Holding.{HoldsAt, HoldsBelow}
use Rattle.spot_terms.specs.Routes.{IsStartCell}
use Rattle.spot_terms.proofs.Places.{all_map}
use Rattle.convex_poly.specs.Polygons.{IsPosition}
use Rattle.convex_poly.proofs.Positions.{position_in}
use Rattle.lanelets.specs.declared.cell.Cell.{Cell}
use Rattle.lanelets.specs.Pieces.{IsNear}
use Rattle.lanelets.specs.Made.{IsCellOf, IsPlaced}
use Rattle.lanelets.proofs.NumberLists.{lists_as}
use Rattle.lanelets.proofs.Places.{partner_at, same_at, same_lengths}
use Rattle.spot_terms.proofs.ItemPlaces.{got_below, item_at}
use Rattle.lanelets.proofs.Nearness.{position}

-- the cell that was read
pub holds_read : (made : List Placed) (p : Pt) (k : ℕ) (x : Placed) → k < length made → (HoldsAt made p k ↔ InHull (slice_index_or made k x).cell.poly p)
holds_read made p k x low =
    let at : slice_get made k ≡ Some (slice_index_or made k x) = slice_get-get_or made k x low in
    ((λ h. subst (λ (y : Placed). InHull y.cell.poly p) (same_at made k h.0 (slice_index_or made k x) h.1 at) h.2), (λ h. (slice_index_or made k x, at, h)))

-- those below a number are also those below a greater one where there are no cells between
pub holding_up : (made : List Placed) (p : Pt) (n m : ℕ) (xs : List ℕ) → n ≡ min m (length made) → Lists (HoldsBelow made p n) xs → Lists (HoldsBelow made p m) xs
holding_up made p n m xs e = lists_as (HoldsBelow made p n) (HoldsBelow made p m) xs
    (λ k q. (let low = q.0 in omega (arith, e, low), q.1))
    (λ k q. (let low = q.0 in let inside = got_below made k q.1.0 q.1.1 in omega (arith, e, low, inside), q.1))

pub holding_all : (made : List Placed) (p : Pt) (n : ℕ) (xs : List ℕ) → length made ≤ n → Lists (HoldsBelow made p n) xs → Lists (HoldsAt made p) xs
holding_all made p n xs h = lists_as (HoldsBelow made p n) (HoldsAt made p) xs (λ k q. q.1) (λ k q. (let low = got_below made k q.0 q.1 in omega (arith, low, h), q))

-- the cells that are kept hold a point where those that are defined do
pub holding_is : (lanes : List Lane) (made : List Placed) (p : Pt) (xs : List ℕ) → Pairwise (IsPlaced lanes) (cells lanes) made → Lists (HoldsAt made p) xs → Lists (IsStartCell lanes p) xs
holding_is lanes made p xs b = lists_as (HoldsAt made p) (IsStartCell lanes p) xs
    (λ k q. let low = got_below made k q.0 q.1 in let many = same_lengths (IsPlaced lanes) (cells lanes) made b in
    let (n, at) = item_at (cells lanes) k (omega (arith, low, many)) in
    let r : IsPlaced lanes n q.0 = partner_at (IsPlaced lanes) (cells lanes) made k n q.0 b at q.1 in
    (n, at, hull_to_points (corners_of n) q.0.cell.poly (whole_pt p) r.made.cell.poly q.2))
    (λ k q. let low = got_below (cells lanes) k q.0 q.1 in let many = same_lengths (IsPlaced lanes) (cells lanes) made b in
    let (x, at) = item_at made k (omega (arith, low, many)) in
    let r : IsPlaced lanes q.0 x = partner_at (IsPlaced lanes) (cells lanes) made k q.0 x b q.1 at in
    (x, at, hull_to_corners (corners_of q.0) x.cell.poly (whole_pt p) r.made.cell.poly q.2))

-- ---- a point of a cell is a position

pub in_position : (corners : List Pt) (p : Pt) → AllByRecursion IsNear corners → InHull corners p → IsPosition p
in_position corners p near i = position_in corners p (all_map IsNear IsPosition position corners near) i

pub start_position : (lanes : List Lane) (made : List Placed) (p : Pt) (c : ℕ) → Pairwise (IsPlaced lanes) (cells lanes) made → IsStartCell lanes p c → IsPosition p
start_position lanes made p c b q =
    let low = got_below (cells lanes) c q.0 q.1 in let many = same_lengths (IsPlaced lanes) (cells lanes) made b in
    let (x, at) = item_at made c (omega (arith, low, many)) in
    let r : IsPlaced lanes q.0 x = partner_at (IsPlaced lanes) (cells lanes) made c q.0 x b q.1 at in
    in_position x.cell.poly p r.made.cell.near (hull_to_corners (corners_of q.0) x.cell.poly (whole_pt p) r.made.cell.poly q.2)

-- so are the points of its entry
pub entry_positions : (id : ℕ) (n : NetCell) (c : Cell) → IsCellOf id n c → IsPosition c.entry.0 × IsPosition c.entry.1
entry_positions id n c o = subst (λ (z : Portal). IsPosition z.0 × IsPosition z.1) (sym o.entry) (in_position c.poly n.entry.0 o.near o.poly.covers.0, in_position c.poly n.entry.1 o.near o.poly.covers.1.0)
