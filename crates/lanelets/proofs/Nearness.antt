-- Cells between portals that are at most 10^13 in size.
use Rattle.std.proofs.Common.{ℕ, nat_abs, ◌≤◌, arith, List}
use Rattle.std.specs.List.{AllByRecursion}
use Rattle.spot_terms.specs.Cells.{Portal}
use Rattle.spot_terms.specs.Hull.{IsHullOf}
use Rattle.spot_terms.specs.Lists.{Includes}
use Rattle.spot_terms.specs.declared.plain.Pt.{Pt}
use Rattle.spot_terms.proofs.ListLemmas.{all_included, all_of}
use Rattle.convex_poly.specs.Polygons.{IsPosition}
use Rattle.lanelets.specs.Pieces.{IsNear, AreNear, corners_between}

pub less : (n : ℕ) → n ≤ 10000000000000 → n ≤ 40000000000000
less n h = omega (arith, h)

pub position : (p : Pt) → IsNear p → IsPosition p
position p h = record { x = less (nat_abs p.x) h.x; y = less (nat_abs p.y) h.y }

pub positions : (p q : Portal) → AreNear p → AreNear q → AllByRecursion IsPosition (corners_between p q)
positions p q h k = (position p.0 h.left, (position p.1 h.right, (position q.0 k.left, (position q.1 k.right, tt))))

pub near_hull : (p q : Portal) (corners : List Pt) → AreNear p → AreNear q → IsHullOf (corners_between p q) corners → AllByRecursion IsNear corners
near_hull p q corners h k u = all_of IsNear corners (λ c i. all_included IsNear (corners_between p q) c (h.left, (h.right, (k.left, (k.right, tt)))) (all_included (Includes (corners_between p q)) corners c u.among i))
