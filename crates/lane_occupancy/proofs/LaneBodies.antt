-- The body of a lane motion at a tick of an interval lies in a lane polygon of the exact list.
use Rattle.std.proofs.Common.{◌≡◌, ◌⊎◌, inl, inr, ℕ, ◌+◌, ◌*◌, ◌≤◌, ◌<◌, arith, refl, sym, subst, List, [], ◌∷◌, map, ℤ, pos, ◌+ℤ◌, ◌-ℤ◌}
use Rattle.std.proofs.lemmas.Bool.Decides.{eqb_tells}
use Rattle.std.proofs.lemmas.Int.{ints}
use Rattle.std.specs.Prelude.{nat_abs}
use Rattle.spot_terms.specs.Bodies.{InDisc, disc_corners}
use Rattle.spot_terms.specs.Cells.{Lane, NetCell, corners_of}
use Rattle.spot_terms.specs.Hull.{whole_pt, InHull}
use Rattle.spot_terms.specs.LanePolygons.{reach_of, add_pt, sums, IsBodyHull, LanePolygon, IsReached, IsLanePolygon, AreLanePolygons}
use Rattle.spot_terms.specs.Lists.{Includes}
use Rattle.spot_terms.specs.Ranges.{IsStart}
use Rattle.spot_terms.specs.Routes.{IsRoute, IsLabel}
use Rattle.spot_terms.specs.declared.plain.AccStart.{AccStart}
use Rattle.spot_terms.specs.declared.plain.Pt.{Pt}
use Rattle.spot_terms.proofs.Hulls.{hull_flat}
use Rattle.round_out.specs.Origin.{origin}
use Rattle.round_out.proofs.Bodies.{disc_holds}
use Rattle.round_out.proofs.Discs.{difference, disc_in_octagon}
use Rattle.lane_paths.proofs.WalkLaws.{same_cell}
use Rattle.lane_occupancy.specs.Laws.{HoldsLaneBodies}
use Rattle.lane_occupancy.proofs.Follows.{StandsAt, stands_at, label_reached}
use Rattle.lane_occupancy.proofs.HullSums.{hull_sums}
use Rattle.lane_occupancy.proofs.Paces.{reach_length_le}
use Rattle.lane_occupancy.proofs.Unrefuted.{least_of}
use Rattle.spot_terms.proofs.Orders.{natural_trans}

-- ---- the body in the polygon of its cell

-- from the centre on, a point of a disc is one of the disc about the origin
from_centre : (r : ℕ) (p q : Pt) → InDisc r p q → InDisc r origin (difference p q)
from_centre r p q h = rw (none (q.x -ℤ p.x), none (q.y -ℤ p.y)) h
  where
    none : (z : ℤ) → z -ℤ pos 0 ≡ z
    none z = omega (arith, ints)

add_difference : (p q : Pt) → add_pt p (difference p q) ≡ q
add_difference p q = let x : p.x +ℤ (q.x -ℤ p.x) ≡ q.x = omega (arith, ints) in let y : p.y +ℤ (q.y -ℤ p.y) ≡ q.y = omega (arith, ints) in simp (x, y)

-- a body whose centre is in the cell lies in the hull of its sums
in_body_hull : (c : NetCell) (r : ℕ) (corners : List Pt) (p q : Pt) → r ≤ 400_000_000 → IsBodyHull c r corners → InHull (corners_of c) p → InDisc r p q → InHull corners q
in_body_hull c r corners p q small is cell disc =
    let o : Pt = difference p q in
    let body : InHull (disc_corners r) o = disc_holds r o (omega (arith, small)) (disc_in_octagon origin o r (omega (arith, small)) (from_centre r p q disc)) in
    subst (InHull corners) (add_difference p q)
    (hull_flat (sums (corners_of c) (disc_corners r)) corners (whole_pt (add_pt p o)) is.covers (hull_sums (corners_of c) (disc_corners r) p o cell body))

-- ---- the polygon of the cell that a lane motion stands in

-- a polygon of this cell, or none
find_cell : (polygons : List LanePolygon) (c : ℕ) → ((x : LanePolygon) × Includes polygons x × (x.cell ≡ c)) ⊎ (Includes (map (λ x. x.cell) polygons) c → ⊥)
find_cell [] c = inr (λ i. i)
find_cell (y ∷ polygons) c = elim (eqb_tells y.cell c) [ inl here ↦ inl (y, inl refl, here.1) | inr other ↦ go other.1 (find_cell polygons c) ]
  where
    go : (y.cell ≡ c → ⊥) → ((x : LanePolygon) × Includes polygons x × (x.cell ≡ c)) ⊎ (Includes (map (λ x. x.cell) polygons) c → ⊥) → ((x : LanePolygon) × Includes (y ∷ polygons) x × (x.cell ≡ c)) ⊎ (Includes (map (λ x. x.cell) (y ∷ polygons)) c → ⊥)
    go n (inl k) = inl (k.0, inr k.1, k.2)
    go n (inr k) = inr none
      where
        none : Includes (map (λ x. x.cell) (y ∷ polygons)) c → ⊥
        none (inl e) = n (sym e)
        none (inr i) = k i

module _ (lanes : List Lane) (s : AccStart) (speed k steps : ℕ) where
  -- the reach length at a tick of an interval is at most that at the interval's end
  reach_within : (t i l : ℕ) → t ≤ (i + 1) * k → l ≤ reach_of s speed t → l ≤ reach_of s speed ((i + 1) * k)
  reach_within t i l h g = omega (arith, g, reach_length_le speed (nat_abs s.a) (nat_abs s.v) t ((i + 1) * k) h)

  -- the cell is one of those that are reached
  stands_reached : (t i : ℕ) (q : Pt) (w : StandsAt lanes s.p (reach_of s speed t) q) → t ≤ (i + 1) * k → i < steps → (IsReached lanes s speed k steps w.cell → ⊥) → ⊥
  stands_reached t i q w tick early refuse =
      w.route (λ route. least_of (IsRoute lanes s.p w.cell) route.0 route.1 (λ label.
      let near : label.0 ≤ reach_of s speed ((i + 1) * k) = reach_within t i label.0 tick (natural_trans label.0 route.0 (reach_of s speed t) label.2 route.2) in
      least_of (λ j. label.0 ≤ reach_of s speed ((j + 1) * k)) i near (λ first.
      refuse (first.0, (label.0, label.1, first.1), below first.0 first.2))))
    where
      below : (j : ℕ) → j ≤ i → j < steps
      below j e = omega arith

  -- the polygon of the cell holds the body, and its first interval is no later
  polygon_holds : (t i : ℕ) (o : Pt) (q : Pt) (w : StandsAt lanes s.p (reach_of s speed t) o) (x : LanePolygon) → IsStart s → IsLanePolygon lanes s speed k steps x → x.cell ≡ w.cell → t ≤ (i + 1) * k → InDisc s.r o q
      → (x.first ≤ i) × InHull x.corners q
  polygon_holds t i o q w x start is e tick disc =
      let (label, label_is, first_is) = is.first_is in
      let low : label ≤ reach_of s speed t = label_reached lanes s.p o (reach_of s speed t) label w (subst (λ c. IsLabel lanes s.p c label) e label_is) in
      let same : w.in_cell.0 ≡ is.net_cell = same_cell lanes w.cell x.cell w.in_cell.0 is.net_cell (sym e) w.in_cell.1 is.cell_is in (
        first_is.least i (reach_within t i label tick low),
        in_body_hull is.net_cell s.r x.corners o q start.r is.corners_are (subst (λ (c : NetCell). InHull (corners_of c) o) same w.in_cell.3) disc,
      )

-- exact lane polygons hold the bodies of lane motions
pub holds_bodies : (lanes : List Lane) (s : AccStart) (speed k steps : ℕ) (polygons : List LanePolygon) → IsStart s → AreLanePolygons lanes s speed k steps polygons → HoldsLaneBodies lanes s speed k steps polygons
holds_bodies lanes s speed k steps polygons start are states t i o q m at tick early disc =
    let w : StandsAt lanes s.p (reach_of s speed t) o.p = stands_at lanes s.p s.b s.a s.v speed states t o m at in
    elim (find_cell polygons w.cell) [
      | inl found ↦
          let holds = polygon_holds lanes s speed k steps t i o.p q w found.0 start (are.each found.0 found.1) found.2 tick disc in
          (found.0, found.1, holds.0, holds.1)
      | inr none ↦ absurd (stands_reached lanes s speed k steps t i o.p w tick early (λ reached. none (are.cells_are.all w.cell reached)))
    ]
