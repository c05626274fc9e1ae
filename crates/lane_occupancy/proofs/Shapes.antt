-- How many corners a cell and a body have, and how far out they are.
use Rattle.std.proofs.Common.{ℕ, ◌*◌, ◌≤◌, arith, List, length, nat_abs}
use Rattle.std.proofs.lemmas.Int.{ints}
use Rattle.std.specs.List.{AllByRecursion}
use lib.IntN.{ℤ, pos, ◌-ℤ◌, neg_ℤ}
use Rattle.spot_terms.specs.Bodies.{disc_corners, octagon_corners}
use Rattle.spot_terms.specs.Cells.{NetCell, corners_of}
use Rattle.spot_terms.specs.Hull.{IsHullOf}
use Rattle.spot_terms.specs.Lists.{Includes}
use Rattle.spot_terms.specs.Whole.{root_floor}
use Rattle.spot_terms.specs.declared.plain.Pt.{Pt}
use Rattle.spot_terms.proofs.ListLemmas.{all_included, all_of}
use Rattle.convex_poly.specs.Polygons.{IsPosition, IsSummand}
use Rattle.convex_poly.proofs.CornerCounts.{corners_distinct, distinct_few}
use Rattle.spot_terms.proofs.Places.{all_map}
use Rattle.lanelets.specs.Pieces.{IsNear}
use Rattle.round_out.proofs.Bodies.{slant_between}
use Rattle.lanelets.proofs.Nearness.{less}

-- a cell has at most as many corners as points
pub few_of_cell : (n : NetCell) (corners : List Pt) → AllByRecursion IsNear corners → IsHullOf (corners_of n) corners → length corners ≤ 4
few_of_cell n corners near h =
    distinct_few corners (corners_of n) (corners_distinct corners (all_map IsNear IsPosition (λ p i. record { x = less (nat_abs p.x) i.x; y = less (nat_abs p.y) i.y }) corners near) h.ordered) h.among

octagon_near : (a s : ℤ) → nat_abs a ≤ 1000000000 → nat_abs s ≤ 1000000000 → AllByRecursion IsNear (octagon_corners a s)
octagon_near a s h k = (p a (neg_ℤ d) ha hn, (p a d ha hd, (p d a hd ha, (p (neg_ℤ d) a hn ha, (p (neg_ℤ a) d hm hd, (p (neg_ℤ a) (neg_ℤ d) hm hn, (p (neg_ℤ d) (neg_ℤ a) hn hm, (p d (neg_ℤ a) hd hm, tt))))))))
  where
    d : ℤ
    d = s -ℤ a

    p : (x y : ℤ) → nat_abs x ≤ 10000000000000 → nat_abs y ≤ 10000000000000 → let q : Pt = record { x = x; y = y } in IsNear q
    p x y g l = record { x = g; y = l }

    ha : nat_abs a ≤ 10000000000000
    ha = omega (arith, h)

    hm : nat_abs (neg_ℤ a) ≤ 10000000000000
    hm = omega (arith, ints, h)

    hd : nat_abs (s -ℤ a) ≤ 10000000000000
    hd = omega (arith, ints, h, k)

    hn : nat_abs (neg_ℤ (s -ℤ a)) ≤ 10000000000000
    hn = omega (arith, ints, h, k)

disc_near : (r : ℕ) → r ≤ 400000000 → AllByRecursion IsNear (disc_corners r)
unfolding disc_corners
disc_near r h = let w = slant_between r (omega (arith, h)) in let high = w.1 in octagon_near (pos r) (pos (root_floor (2 * (r * r)))) (omega (arith, h)) (omega (arith, h, high))

pub near_of_body : (r : ℕ) (corners : List Pt) → r ≤ 400000000 → IsHullOf (disc_corners r) corners → AllByRecursion IsNear corners
near_of_body r corners h u = all_of IsNear corners (λ c i. all_included IsNear (disc_corners r) c (disc_near r h) (all_included (Includes (disc_corners r)) corners c u.among i))

pub near_summands : (corners : List Pt) → AllByRecursion IsNear corners → AllByRecursion IsSummand corners
near_summands corners h = all_map IsNear IsSummand (λ p i. record { x = half (nat_abs p.x) i.x; y = half (nat_abs p.y) i.y }) corners h
  where
    half : (n : ℕ) → n ≤ 10000000000000 → n ≤ 20000000000000
    half n h = omega (arith, h)
