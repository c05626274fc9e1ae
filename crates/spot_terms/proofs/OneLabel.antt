-- A cell has one label and one first interval, and a participant has one list of lane polygons.
use Rattle.std.proofs.Common.{◌≡◌, ℕ, inl, inr, List, [], ◌∷◌, map, Option, Some, None, refl, ap, subst}
use Rattle.std.specs.Prelude.{slice_get}
use Rattle.spot_terms.specs.Cells.{Lane, NetCell, cells}
use Rattle.spot_terms.specs.LanePolygons.{LanePolygon, IsFirst, IsBodyHull, IsReachedIn, IsReached, IsLanePolygon, AreLanePolygons}
use Rattle.spot_terms.specs.Lists.{Includes}
use Rattle.spot_terms.specs.OccupiedPieces.{Occupant, HasPolygons, IsOccupant}
use Rattle.spot_terms.specs.OneLabel.{LabelsAreOne}
use Rattle.spot_terms.specs.Routes.{IsRoute, IsLabel}
use Rattle.spot_terms.specs.declared.plain.AccStart.{AccStart}
use Rattle.spot_terms.specs.declared.plain.Pt.{Pt}
use Rattle.spot_terms.specs.declared.scenario.Mover.{Mover}
use Rattle.spot_terms.proofs.Listings.{lists_one}
use Rattle.spot_terms.proofs.OneHull.{one_hull}
use Rattle.spot_terms.proofs.OneStart.{start_one, speed_one}
use Rattle.spot_terms.proofs.Unique.{least_one, some_one}

-- ---- labels

label_one : (lanes : List Lane) (p : Pt) (d m n : ℕ) → IsLabel lanes p d m → IsLabel lanes p d n → m ≡ n
label_one lanes p d m n h k = least_one (IsRoute lanes p d) m n h k

first_one : (s : AccStart) (speed k label i j : ℕ) → IsFirst s speed k label i → IsFirst s speed k label j → i ≡ j
first_one s speed k label i j f g = least_one _ i j f g

reached_one : (lanes : List Lane) (s : AccStart) (speed k steps c i j : ℕ) → IsReachedIn lanes s speed k steps c i → IsReachedIn lanes s speed k steps c j → i ≡ j
reached_one lanes s speed k steps c i j (label, a, f) (other, b, g) =
    let same : label ≡ other = label_one lanes s.p c label other a b in
    first_one s speed k other i j (subst (λ (z : ℕ). IsFirst s speed k z i) same f) g

-- ---- lane polygons

abbrev polygon_from : ℕ → ℕ → List Pt → LanePolygon
polygon_from cell first corners = record { cell = cell; first = first; corners = corners }

module _ (lanes : List Lane) (s : AccStart) (speed k steps : ℕ) where
  polygon_one : (x y : LanePolygon) → x.cell ≡ y.cell → IsLanePolygon lanes s speed k steps x → IsLanePolygon lanes s speed k steps y → x ≡ y
  polygon_one x y c h i =
      let first : x.first ≡ y.first = reached_one lanes s speed k steps y.cell x.first y.first (subst (λ (z : ℕ). IsReachedIn lanes s speed k steps z x.first) c h.first_is) i.first_is in
      let cell : h.net_cell ≡ i.net_cell = some_one _ h.net_cell i.net_cell (subst (λ (z : ℕ). slice_get (cells lanes) z ≡ Some h.net_cell) c h.cell_is) i.cell_is in
      let corners : x.corners ≡ y.corners = one_hull _ x.corners y.corners (subst (λ (z : NetCell). IsBodyHull z s.r x.corners) cell h.corners_are) i.corners_are in
      let e : polygon_from x.cell x.first x.corners ≡ polygon_from y.cell y.first y.corners = cc (c, first, corners) in
      e

  from_cells : (xs ys : List LanePolygon) → map (λ x. x.cell) xs ≡ map (λ x. x.cell) ys → ((x : LanePolygon) → Includes xs x → IsLanePolygon lanes s speed k steps x) → ((y : LanePolygon) → Includes ys y → IsLanePolygon lanes s speed k steps y) → xs ≡ ys
  from_cells [] [] e f g = refl
  from_cells [] (y ∷ ys) e f g = cc
  from_cells (x ∷ xs) [] e f g = cc
  from_cells (x ∷ xs) (y ∷ ys) e f g =
      let c : x.cell ≡ y.cell = cc in
      let d : map (λ (z : LanePolygon). z.cell) xs ≡ map (λ (z : LanePolygon). z.cell) ys = cc in
      let first : x ≡ y = polygon_one x y c (f x (inl refl)) (g y (inl refl)) in
      let rest : xs ≡ ys = from_cells xs ys d (λ z i. f z (inr i)) (λ z i. g z (inr i)) in
      cc

  pub polygons_one : (xs ys : List LanePolygon) → AreLanePolygons lanes s speed k steps xs → AreLanePolygons lanes s speed k steps ys → xs ≡ ys
  polygons_one xs ys h i = from_cells xs ys (lists_one (IsReached lanes s speed k steps) _ _ h.cells_are i.cells_are) h.each i.each

-- ---- occupants

has_one : (lanes : List Lane) (k steps : ℕ) (m : Mover) (s : AccStart) (speed : ℕ) (o p : Option (List LanePolygon)) → HasPolygons lanes k steps m s speed o → HasPolygons lanes k steps m s speed p → o ≡ p
has_one lanes k steps m s speed None None h i = refl
has_one lanes k steps m s speed None (Some p) h i = absurd (h i.0)
has_one lanes k steps m s speed (Some o) None h i = absurd (i h.0)
has_one lanes k steps m s speed (Some o) (Some p) h i = ap (λ (x : List LanePolygon). Some x) (polygons_one lanes s speed k steps o p h.1 i.1)

abbrev occupant_from : AccStart → Option (List LanePolygon) → Occupant
occupant_from s polygons = record { start = s; polygons = polygons }

pub occupant_one : (lanes : List Lane) (k steps : ℕ) (m : Mover) (o p : Occupant) → IsOccupant lanes k steps m o → IsOccupant lanes k steps m p → o ≡ p
occupant_one lanes k steps m o p h i =
    let start : o.start ≡ p.start = start_one m o.start p.start h.speed i.speed h.start i.start in
    let speed : h.speed ≡ i.speed = speed_one m o.start p.start h.speed i.speed h.start i.start in
    let a : HasPolygons lanes k steps m p.start h.speed o.polygons = subst (λ (x : AccStart). HasPolygons lanes k steps m x h.speed o.polygons) start h.polygons in
    let b : HasPolygons lanes k steps m p.start i.speed o.polygons = subst (λ (x : ℕ). HasPolygons lanes k steps m p.start x o.polygons) speed a in
    let polygons : o.polygons ≡ p.polygons = has_one lanes k steps m p.start i.speed o.polygons p.polygons b i.polygons in
    let e : occupant_from o.start o.polygons ≡ occupant_from p.start p.polygons = cc (start, polygons) in
    e

-- ---- the law

pub labels_are_one : LabelsAreOne
labels_are_one = record {
  label = label_one;
  first = first_one;
  reached = reached_one;
  polygons = polygons_one;
  start = λ m s t speed other h i. (start_one m s t speed other h i, speed_one m s t speed other h i);
  occupant = occupant_one;
}
