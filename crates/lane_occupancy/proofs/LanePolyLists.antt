-- Lane polygons, one after another.
use Rattle.std.proofs.Common.{◌≡◌, ◌∙◌, inl, inr, refl, ap, subst, sym, ℕ, ◌+◌, ◌≤◌, ◌<◌, arith, List, [], ◌∷◌, ◌++◌, length, map}
use Rattle.std.proofs.lemmas.List.{map-append}
use Rattle.spot_terms.specs.Cells.{Lane, cells}
use Rattle.spot_terms.specs.Hull.{InHull, whole_pt, IsHullOf}
use Rattle.spot_terms.specs.LanePolygons.{add_pt, sums, LanePolygon, IsReached, IsLanePolygon, AreLanePolygons}
use Rattle.spot_terms.specs.Lists.{Includes, Lists}
use Rattle.spot_terms.specs.declared.plain.AccStart.{AccStart}
use Rattle.spot_terms.specs.declared.plain.Pt.{Pt}
use Rattle.spot_terms.proofs.Hulls.{hull_flat}
use Rattle.spot_terms.proofs.ListLemmas.{all_included, all_of, includes_either, includes_flat_map, includes_map}
use Rattle.spot_terms.proofs.Members.{in_flat_map, in_map}
use Rattle.lanelets.proofs.NumberLists.{lists_none, lists_push, lists_skip}
use Rattle.lane_occupancy.specs.Polygons.{polygon_of}
use Rattle.lane_occupancy.specs.declared.polygons.LanePoly.{LanePoly}
use Rattle.lane_occupancy.proofs.HullSums.{hull_sums}
use Rattle.lane_occupancy.proofs.ReachedCells.{lists_on, whole}

-- ---- one polygon

-- the hull of the sums of the corners of two hulls is that of the sums of all points
pub hull_of_corners : (ps qs us vs corners : List Pt) → IsHullOf ps us → IsHullOf qs vs → IsHullOf (sums us vs) corners → IsHullOf (sums ps qs) corners
hull_of_corners ps qs us vs corners h k u = record {
  ordered = u.ordered;
  among = all_of (Includes (sums ps qs)) corners (λ c i. wide c (all_included (Includes (sums us vs)) corners c u.among i));
  covers = all_of (InHull corners) (sums ps qs) inside;
}
  where
    wide : (c : Pt) → Includes (sums us vs) c → Includes (sums ps qs) c
    wide c i =
        let (a, j, l) = in_flat_map (λ p. map (add_pt p) vs) us c i in
        let (b, m, e) = in_map (add_pt a) vs c l in
        subst (Includes (sums ps qs)) (sym e) (includes_flat_map (λ p. map (add_pt p) qs) ps a (add_pt a b) (all_included (Includes ps) us a h.among j) (includes_map (add_pt a) qs b (all_included (Includes qs) vs b k.among m)))

    inside : (c : Pt) → Includes (sums ps qs) c → InHull corners c
    inside c i =
        let (a, j, l) = in_flat_map (λ p. map (add_pt p) qs) ps c i in
        let (b, m, e) = in_map (add_pt a) qs c l in
        subst (InHull corners) (sym e) (hull_flat (sums us vs) corners (whole_pt (add_pt a b)) u.covers (hull_sums us vs a b (all_included (InHull us) ps a h.covers j) (all_included (InHull vs) qs b k.covers m)))

-- ---- the list so far

pub record ArePolygonsBelow (lanes : List Lane) (s : AccStart) (speed k steps c : ℕ) (polys : List LanePoly) : Type 0 where
  pub cells_are : Lists (λ x. (x < c) × IsReached lanes s speed k steps x) (map (λ x. x.cell) (map polygon_of polys))
  pub each : (x : LanePolygon) → Includes (map polygon_of polys) x → IsLanePolygon lanes s speed k steps x

module _ (lanes : List Lane) (s : AccStart) (speed k steps : ℕ) where
  pub polygons_none : (polys : List LanePoly) → polys ≡ [] → ArePolygonsBelow lanes s speed k steps 0 polys
  polygons_none polys e = subst (ArePolygonsBelow lanes s speed k steps 0) (sym e) (record {
    cells_are = lists_none (λ x. (x < 0) × IsReached lanes s speed k steps x) (λ x h. omega (arith, h.0));
    each = λ x i. absurd i;
  })

  pub polygons_more : (c : ℕ) (x : LanePoly) (polys now : List LanePoly) → x.cell ≡ c → IsReached lanes s speed k steps c → IsLanePolygon lanes s speed k steps (polygon_of x) → now ≡ polys ++ x ∷ []
      → ArePolygonsBelow lanes s speed k steps c polys → ArePolygonsBelow lanes s speed k steps (c + 1) now
  polygons_more c x polys now at r is e h = subst (ArePolygonsBelow lanes s speed k steps (c + 1)) (sym e) (record {
    cells_are = lists_push (IsReached lanes s speed k steps) c (c + 1) (map (λ z. z.cell) (map polygon_of polys)) (map (λ z. z.cell) (map polygon_of (polys ++ x ∷ []))) refl numbers r h.cells_are;
    each = λ z i. last z (subst (λ (zs : List LanePolygon). Includes zs z) (map-append polygon_of polys (x ∷ [])) i);
  })
    where
      numbers : map (λ z. z.cell) (map polygon_of (polys ++ x ∷ [])) ≡ map (λ z. z.cell) (map polygon_of polys) ++ c ∷ []
      numbers = ap (map (λ (z : LanePolygon). z.cell)) (map-append polygon_of polys (x ∷ [])) ∙ map-append (λ (z : LanePolygon). z.cell) (map polygon_of polys) (polygon_of x ∷ []) ∙ ap (λ n. map (λ (z : LanePolygon). z.cell) (map polygon_of polys) ++ n ∷ []) at

      last : (z : LanePolygon) → Includes (map polygon_of polys ++ polygon_of x ∷ []) z → IsLanePolygon lanes s speed k steps z
      last z i = elim (includes_either (map polygon_of polys) (polygon_of x ∷ []) z i) [
        | inl j ↦ h.each z j
        | inr j ↦ elim j [ inl f ↦ subst (IsLanePolygon lanes s speed k steps) (sym f) is | inr n ↦ absurd n ]
      ]

  pub polygons_same : (c : ℕ) (polys now : List LanePoly) → (IsReached lanes s speed k steps c → ⊥) → now ≡ polys → ArePolygonsBelow lanes s speed k steps c polys → ArePolygonsBelow lanes s speed k steps (c + 1) now
  polygons_same c polys now never e h = subst (ArePolygonsBelow lanes s speed k steps (c + 1)) (sym e) (record {
    cells_are = lists_skip (IsReached lanes s speed k steps) c (c + 1) (map (λ z. z.cell) (map polygon_of polys)) refl never h.cells_are;
    each = h.each;
  })

  -- no cell from c up to before d is reached
  pub polygons_on : (c d : ℕ) (polys : List LanePoly) → c ≤ d → ((x : ℕ) → c ≤ x → x < d → IsReached lanes s speed k steps x → ⊥) → ArePolygonsBelow lanes s speed k steps c polys → ArePolygonsBelow lanes s speed k steps d polys
  polygons_on c d polys low none h = record {
    cells_are = lists_on (IsReached lanes s speed k steps) c d (map (λ z. z.cell) (map polygon_of polys)) low none h.cells_are;
    each = h.each;
  }

  pub polygons_all : (c : ℕ) (polys : List LanePoly) → length (cells lanes) ≤ c → ArePolygonsBelow lanes s speed k steps c polys → AreLanePolygons lanes s speed k steps (map polygon_of polys)
  polygons_all c polys l h = record { cells_are = whole lanes s speed k steps c (map (λ z. z.cell) (map polygon_of polys)) l h.cells_are; each = h.each }
