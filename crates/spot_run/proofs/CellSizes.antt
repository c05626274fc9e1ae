-- Sizes of the corners of cells, and of what a body covers whose centre is in a cell.
use Rattle.std.proofs.Common.{◌≡◌, inl, inr, ℕ, zero, suc, ◌+◌, ◌*◌, ◌-◌, ◌<◌, ◌≤◌, max, Bool, true, false, cond, List, [], ◌∷◌, map, length, Some, refl, sym, subst, arith, ℤ, pos, ◌+ℤ◌, ◌-ℤ◌, ◌*ℤ◌}
use Rattle.std.specs.Prelude.{nat_abs, neg_ℤ, slice_get}
use Rattle.std.specs.List.{AllByRecursion}
use Rattle.std.proofs.lemmas.Int.{ints}
use Rattle.spot_terms.specs.Bodies.{octagon_corners, disc_corners}
use Rattle.spot_terms.specs.Cells.{Pair, Lane, Portal, NetCell, part_count, cut, part_cell, cells_of_piece, cells_from, lane_cells, pt_of, portal_at, first_portal, last_portal, bridge_cell, bridge_between, bridges_to, bridges_from, cells, corners_of}
use Rattle.spot_terms.specs.LanePolygons.{add_pt, sums, IsBodyHull}
use Rattle.spot_terms.specs.Lists.{Includes, numbers_below}
use Rattle.spot_terms.specs.Ranges.{IsPairInRange, IsLaneInRange}
use Rattle.spot_terms.specs.Reach.{disc_number}
use Rattle.spot_terms.specs.Whole.{SizeAtMost, quotient_floor, root_floor}
use Rattle.spot_terms.specs.declared.plain.Pt.{Pt}
use Rattle.spot_terms.proofs.ListLemmas.{includes_either, all_included, all_of, all_append}
use Rattle.spot_terms.proofs.Members.{in_map, in_flat_map, all_in_map}
use Rattle.convex_poly.specs.Polygons.{IsPosition}
use Rattle.convex_poly.proofs.CornerCounts.{few_points}
use Rattle.round_out.proofs.Bodies.{number_small}
use Rattle.lanelets.proofs.Cuts.{difference_small, part_small}
use Rattle.spot_terms.proofs.ItemPlaces.{got_included}

-- both coordinates are at most n in size
pub record IsWithin (n : ℕ) (p : Pt) : Type 0 where
  pub x : SizeAtMost n p.x
  pub y : SizeAtMost n p.y

-- ---- cells of lanelets

AreClose : NetCell → Type 0
AreClose c = AllByRecursion (IsWithin 30_000_000_000_000) (corners_of c)

below : (n t : ℕ) → Includes (numbers_below n) t → t < n
unfolding numbers_below
below zero t i = absurd i
below (suc n) t i = elim (includes_either (numbers_below n) (n ∷ []) t i) [
  | inl j ↦ let small = below n t j in omega (arith, small)
  | inr j ↦ elim j [
    | inl e ↦ omega (arith, e)
    | inr k ↦ absurd k
  ]
]

coordinate : (a b : ℤ) (t n : ℕ) → 0 < n → t ≤ n → nat_abs a ≤ 10_000_000_000_000 → nat_abs b ≤ 10_000_000_000_000 → nat_abs (a +ℤ quotient_floor ((b -ℤ a) *ℤ pos t) (pos n)) ≤ 30_000_000_000_000
coordinate a b t n some h ha hb = sum a (quotient_floor ((b -ℤ a) *ℤ pos t) (pos n)) ha (part_small (b -ℤ a) t n some h (difference_small a b ha hb))
  where
    sum : (x y : ℤ) → nat_abs x ≤ 10_000_000_000_000 → nat_abs y ≤ 20_000_000_000_000 → nat_abs (x +ℤ y) ≤ 30_000_000_000_000
    sum x y hx hy = omega (arith, ints, hx, hy)

cut_close : (p q : Pair) (t n : ℕ) → 0 < n → t ≤ n → IsPairInRange p → IsPairInRange q → IsWithin 30_000_000_000_000 (cut p q t n)
cut_close p q t n some h hp hq = record { x = coordinate p.0 q.0 t n some h hp.x hq.x; y = coordinate p.1 q.1 t n some h hp.y hq.y }

some_parts : (l l' r r' : Pair) → 0 < part_count l l' r r'
unfolding part_count
some_parts l l' r r' = most _
  where
    most : (n : ℕ) → 0 < max 1 n
    most n = omega arith

piece_close : (e piece : ℕ) (l l' r r' : Pair) → IsPairInRange l → IsPairInRange l' → IsPairInRange r → IsPairInRange r' → AllByRecursion AreClose (cells_of_piece e piece l l' r r')
unfolding AreClose
piece_close e piece l l' r r' hl hl' hr hr' =
    let n = part_count l l' r r' in
    let some : 0 < n = some_parts l l' r r' in
    all_in_map AreClose (part_cell e piece l l' r r' n) (numbers_below n) (λ t i.
    let here : t < n = below n t i in
    let low : t ≤ n = omega (arith, here) in
    let high : t + 1 ≤ n = omega (arith, here) in
    (cut_close l l' t n some low hl hl', (cut_close r r' t n some low hr hr', (cut_close l l' (t + 1) n some high hl hl', (cut_close r r' (t + 1) n some high hr hr', tt)))))

pieces_close : (e piece : ℕ) (ls rs : List Pair) → AllByRecursion IsPairInRange ls → AllByRecursion IsPairInRange rs → AllByRecursion AreClose (cells_from e piece ls rs)
pieces_close e piece [] rs hl hr = tt
pieces_close e piece (l ∷ []) rs hl hr = tt
pieces_close e piece (l ∷ l' ∷ ls) [] hl hr = tt
pieces_close e piece (l ∷ l' ∷ ls) (r ∷ []) hl hr = tt
pieces_close e piece (l ∷ l' ∷ ls) (r ∷ r' ∷ rs) hl hr =
    all_append AreClose (cells_of_piece e piece l l' r r') (cells_from e (piece + 1) (l' ∷ ls) (r' ∷ rs))
    (piece_close e piece l l' r r' hl.0 hl.1.0 hr.0 hr.1.0) (pieces_close e (piece + 1) (l' ∷ ls) (r' ∷ rs) hl.1 hr.1)

abbrev pub AreInRange : List Lane → Type 0
AreInRange lanes = AllByRecursion (λ l. IsLaneInRange l.1) lanes

lanes_close : (n : ℕ) (lanes : List Lane) → AreInRange lanes → AllByRecursion AreClose (lane_cells n lanes)
lanes_close n [] h = tt
lanes_close n (l ∷ lanes) h = all_append AreClose (cells_from n 0 l.1.left l.1.right) (lane_cells (n + 1) lanes) (pieces_close n 0 l.1.left l.1.right h.0.left h.0.right) (lanes_close (n + 1) lanes h.1)

-- ---- bridges

item_in : (ps : List Pair) (k : ℕ) → k < length ps → AllByRecursion IsPairInRange ps → (p : Pair) × (slice_get ps k ≡ Some p) × IsPairInRange p
item_in [] k h all = absurd (omega (arith, h))
item_in (p ∷ ps) zero h all = (p, refl, all.0)
item_in (p ∷ ps) (suc k) h all = item_in ps k (omega (arith, h)) all.1

point_close : (p : Pair) → IsPairInRange p → IsWithin 30_000_000_000_000 (pt_of p)
point_close p h = let x = h.x in let y = h.y in record { x = omega (arith, x); y = omega (arith, y) }

portal_close : (l : Lane) (k : ℕ) → IsLaneInRange l.1 → k < length l.1.left → (p : Portal) × (portal_at l k ≡ Some p) × IsWithin 30_000_000_000_000 p.0 × IsWithin 30_000_000_000_000 p.1
portal_close l k range h =
    let even = range.even in
    let (p, p_is, hp) = item_in l.1.left k h range.left in
    let (q, q_is, hq) = item_in l.1.right k (omega (arith, h, even)) range.right in
    ((pt_of p, pt_of q), rw (p_is, q_is) refl, point_close p hp, point_close q hq)

bridge_close : (e f : ℕ) (l m : Lane) → IsLaneInRange l.1 → IsLaneInRange m.1 → AllByRecursion AreClose (bridge_cell e f (last_portal l) (first_portal m))
unfolding AreClose
bridge_close e f l m hl hm =
    let some = hl.some in
    let more = hm.some in
    let (p, p_is, p0, p1) = portal_close l (length l.1.left - 1) hl (omega (arith, some)) in
    let (q, q_is, q0, q1) = portal_close m 0 hm (omega (arith, more)) in
    rw (p_is, q_is) ((p0, (p1, (q0, (q1, tt)))), tt)

between_close : (e f : ℕ) (l m : Lane) → IsLaneInRange l.1 → IsLaneInRange m.1 → AllByRecursion AreClose (bridge_between e l f m)
between_close e f l m hl hm = either _ (bridge_cell e f (last_portal l) (first_portal m)) (bridge_close e f l m hl hm)
  where
    either : (b : Bool) (cs : List NetCell) → AllByRecursion AreClose cs → AllByRecursion AreClose (cond b cs [])
    either true cs h = h
    either false cs h = tt

to_close : (e : ℕ) (l : Lane) (f : ℕ) (lanes : List Lane) → IsLaneInRange l.1 → AreInRange lanes → AllByRecursion AreClose (bridges_to e l f lanes)
to_close e l f [] h hs = tt
to_close e l f (m ∷ lanes) h hs = all_append AreClose (bridge_between e l f m) (bridges_to e l (f + 1) lanes) (between_close e f l m h hs.0) (to_close e l (f + 1) lanes h hs.1)

from_close : (every : List Lane) (e : ℕ) (lanes : List Lane) → AreInRange every → AreInRange lanes → AllByRecursion AreClose (bridges_from every e lanes)
from_close every e [] all h = tt
from_close every e (l ∷ lanes) all h = all_append AreClose (bridges_to e l 0 every) (bridges_from every (e + 1) lanes) (to_close e l 0 every h.0 all) (from_close every (e + 1) lanes all h.1)

cells_close : (lanes : List Lane) → AreInRange lanes → AllByRecursion AreClose (cells lanes)
unfolding cells
cells_close lanes h = all_append AreClose (lane_cells 0 lanes) (bridges_from lanes 0 lanes) (lanes_close 0 lanes h) (from_close lanes 0 lanes h h)

cell_close : (lanes : List Lane) (c : ℕ) (n : NetCell) → AreInRange lanes → slice_get (cells lanes) c ≡ Some n → AllByRecursion (IsWithin 30_000_000_000_000) (corners_of n)
unfolding AreClose
cell_close lanes c n h e = all_included AreClose (cells lanes) n (cells_close lanes h) (got_included (cells lanes) c n e)

-- ---- bodies

octagon_close : (a s : ℤ) → nat_abs a ≤ 1_000_000_000 → nat_abs s ≤ 1_000_000_000 → AllByRecursion (IsWithin 2_000_000_000) (octagon_corners a s)
octagon_close a s h k = (at ha hn, (at ha hd, (at hd ha, (at hn ha, (at hm hd, (at hm hn, (at hn hm, (at hd hm, tt))))))))
  where
    at : {x y : ℤ} → nat_abs x ≤ 2_000_000_000 → nat_abs y ≤ 2_000_000_000 → IsWithin 2_000_000_000 (record { x = x; y = y })
    at g l = record { x = g; y = l }

    ha : nat_abs a ≤ 2_000_000_000
    ha = omega (arith, h)

    hm : nat_abs (neg_ℤ a) ≤ 2_000_000_000
    hm = omega (arith, ints, h)

    hd : nat_abs (s -ℤ a) ≤ 2_000_000_000
    hd = omega (arith, ints, h, k)

    hn : nat_abs (neg_ℤ (s -ℤ a)) ≤ 2_000_000_000
    hn = omega (arith, ints, h, k)

disc_close : (r : ℕ) → r ≤ 400_000_000 → AllByRecursion (IsWithin 2_000_000_000) (disc_corners r)
unfolding disc_corners disc_number
disc_close r h = octagon_close (pos r) (pos (root_floor (2 * (r * r)))) (number_small 0 r (pos r) (omega arith) h refl) (number_small 1 r (pos (root_floor (2 * (r * r)))) (omega arith) h refl)

sum_position : (p q : Pt) → IsWithin 30_000_000_000_000 p → IsWithin 2_000_000_000 q → IsPosition (add_pt p q)
sum_position p q hp hq = record { x = add p.x q.x hp.x hq.x; y = add p.y q.y hp.y hq.y }
  where
    add : (x y : ℤ) → nat_abs x ≤ 30_000_000_000_000 → nat_abs y ≤ 2_000_000_000 → nat_abs (x +ℤ y) ≤ 40_000_000_000_000
    add x y h k = omega (arith, ints, h, k)

sums_positions : (ps qs : List Pt) → AllByRecursion (IsWithin 30_000_000_000_000) ps → AllByRecursion (IsWithin 2_000_000_000) qs → AllByRecursion IsPosition (sums ps qs)
sums_positions ps qs hp hq = all_of IsPosition (sums ps qs) (λ u i.
    let (p, j, there) = in_flat_map (λ (p : Pt). map (add_pt p) qs) ps u i in
    let (q, k, same) = in_map (add_pt p) qs u there in
    subst IsPosition (sym same) (sum_position p q (all_included (IsWithin 30_000_000_000_000) ps p hp j) (all_included (IsWithin 2_000_000_000) qs q hq k)))

-- how many corners a lane polygon may have, and how large they are
pub record IsSmall (corners : List Pt) : Type 0 where
  pub few : length corners ≤ 32
  pub positions : AllByRecursion IsPosition corners

count_sums : (n : NetCell) (r : ℕ) → length (sums (corners_of n) (disc_corners r)) ≡ 32
unfolding disc_corners
count_sums n r = refl

pub body_small : (lanes : List Lane) (c r : ℕ) (n : NetCell) (corners : List Pt) → AreInRange lanes → r ≤ 400_000_000 → slice_get (cells lanes) c ≡ Some n → IsBodyHull n r corners → IsSmall corners
body_small lanes c r n corners range small at hull =
    let points = sums (corners_of n) (disc_corners r) in
    let positions : AllByRecursion IsPosition points = sums_positions (corners_of n) (disc_corners r) (cell_close lanes c n range at) (disc_close r small) in record {
      few = subst (λ (k : ℕ). length corners ≤ k) (count_sums n r) (few_points points corners positions hull);
      positions = all_of IsPosition corners (λ u i. all_included IsPosition points u positions (all_included (Includes points) corners u hull.among i));
    }
