-- Lanelets cut into cells, and the bridges between lanelets that follow each other.
use Rattle.std.specs.Prelude.{◌≡◌, ℕ, ◌+◌, ◌-◌, ◌*◌, ◌/◌, max, List, [], ◌∷◌, ◌++◌, map, length, take, drop, Bool, false, ◌&&◌, ◌||◌, ◌==◌, not, if◌then◌else◌, Option, Some, None, slice_get, ℤ, pos, nat_abs, ◌+ℤ◌, ◌-ℤ◌, ◌*ℤ◌, refl}
use Rattle.std.specs.List.{list_any}
use Rattle.spot_terms.specs.Lists.{numbers_below}
use Rattle.spot_terms.specs.Whole.{square, root_floor, root_ceiling, quotient_floor}
use Rattle.spot_terms.specs.declared.network.Origin.{Origin}
use Rattle.spot_terms.specs.declared.network.Origin.TheVariants.{Part, Bridge}
use Rattle.spot_terms.specs.declared.plain.Pt.{Pt}
use Rattle.spot_terms.specs.declared.scenario.RawLane.{RawLane}

-- ---- cuts

-- a point of a bound
abbrev pub Pair : Type 0
Pair = ℤ × ℤ

-- an id and its lanelet
abbrev pub Lane : Type 0
Lane = ℕ × RawLane

-- the segment between the left and the right point of a cut
abbrev pub Portal : Type 0
Portal = Pt × Pt

-- the squared length of a side
abbrev pub side_square : Pair → Pair → ℕ
side_square p q = square (q.0 -ℤ p.0) + square (q.1 -ℤ p.1)

-- into how many parts a piece from (l, r) to (l', r') is cut: the least number, at least 1, of which each is at most 2 m
-- long on both sides
unfoldable pub part_count : Pair → Pair → Pair → Pair → ℕ
part_count l l' r r' = max 1 ((root_ceiling (max (side_square l l') (side_square r r')) + 1_999_999) / 2_000_000)

-- the whole point at the part t / n of a side, rounded down
abbrev pub cut : Pair → Pair → ℕ → ℕ → Pt
cut p q t n = record {
  x = p.0 +ℤ quotient_floor ((q.0 -ℤ p.0) *ℤ pos t) (pos n);
  y = p.1 +ℤ quotient_floor ((q.1 -ℤ p.1) *ℤ pos t) (pos n);
}

-- ---- cells

-- the hull of its entry and its exit
pub record NetCell : Type 0 where
  pub origin : Origin
  pub entry : Portal
  pub exit : Portal

-- the four corners, two or more of which may be equal
abbrev pub corners_of : NetCell → List Pt
corners_of c = c.entry.0 ∷ c.entry.1 ∷ c.exit.0 ∷ c.exit.1 ∷ []

abbrev pub part_cell : ℕ → ℕ → Pair → Pair → Pair → Pair → ℕ → ℕ → NetCell
part_cell lane piece l l' r r' n t = record {
  origin = Part lane piece t n;
  entry = (cut l l' t n, cut r r' t n);
  exit = (cut l l' (t + 1) n, cut r r' (t + 1) n);
}

abbrev pub cells_of_piece : ℕ → ℕ → Pair → Pair → Pair → Pair → List NetCell
cells_of_piece lane piece l l' r r' = let n = part_count l l' r r' in map (part_cell lane piece l l' r r' n) (numbers_below n)

-- of the pieces from this one on, between the pairs of points
abbrev pub cells_from : ℕ → ℕ → List Pair → List Pair → List NetCell
cells_from lane piece (l ∷ l' ∷ ls) (r ∷ r' ∷ rs) = cells_of_piece lane piece l l' r r' ++ cells_from lane (piece + 1) (l' ∷ ls) (r' ∷ rs)
cells_from lane piece ls rs = []

-- of the lanelets from position n on
abbrev pub lane_cells : ℕ → List Lane → List NetCell
lane_cells n [] = []
lane_cells n (l ∷ lanes) = cells_from n 0 l.1.left l.1.right ++ lane_cells (n + 1) lanes

-- ---- bridges

-- e lists f as a successor, or f lists e as a predecessor
abbrev pub follows : Lane → Lane → Bool
follows f e = list_any (λ i. i == f.0) e.1.successors || list_any (λ i. i == e.0) f.1.predecessors

abbrev pub pt_of : Pair → Pt
pt_of p = record { x = p.0; y = p.1 }

-- the portal between the points at a position, where both bounds have one
abbrev pub portal_at : Lane → ℕ → Option Portal
portal_at l k = go (slice_get l.1.left k) (slice_get l.1.right k)
  where
    go : Option Pair → Option Pair → Option Portal
    go None q = None
    go (Some p) None = None
    go (Some p) (Some q) = Some (pt_of p, pt_of q)

abbrev pub first_portal : Lane → Option Portal
first_portal l = portal_at l 0

abbrev pub last_portal : Lane → Option Portal
last_portal l = portal_at l (length l.1.left - 1)

abbrev pub same_int : ℤ → ℤ → Bool
same_int a b = nat_abs (a -ℤ b) == 0

abbrev pub same_pt : Pt → Pt → Bool
same_pt p q = same_int p.x q.x && same_int p.y q.y

-- left with left, and right with right
abbrev pub same_portal : Option Portal → Option Portal → Bool
same_portal None q = false
same_portal (Some p) None = false
same_portal (Some p) (Some q) = same_pt p.0 q.0 && same_pt p.1 q.1

abbrev pub bridge_cell : ℕ → ℕ → Option Portal → Option Portal → List NetCell
bridge_cell e f None q = []
bridge_cell e f (Some p) None = []
bridge_cell e f (Some p) (Some q) = record { origin = Bridge e f; entry = p; exit = q } ∷ []

-- the bridge from the lanelet at e to that at f, where that follows and doesn't begin where the other ends
abbrev pub bridge_between : ℕ → Lane → ℕ → Lane → List NetCell
bridge_between e l f m = if follows m l && not (same_portal (last_portal l) (first_portal m))
    then bridge_cell e f (last_portal l) (first_portal m) else []

-- from one lanelet to those from position f on
abbrev pub bridges_to : ℕ → Lane → ℕ → List Lane → List NetCell
bridges_to e l f [] = []
bridges_to e l f (m ∷ lanes) = bridge_between e l f m ++ bridges_to e l (f + 1) lanes

-- from the lanelets from position e on to all
abbrev pub bridges_from : List Lane → ℕ → List Lane → List NetCell
bridges_from every e [] = []
bridges_from every e (l ∷ lanes) = bridges_to e l 0 every ++ bridges_from every (e + 1) lanes

-- all cells by their numbers: those of the lanelets in document order, each from its start, then the bridges
unfoldable pub cells : List Lane → List NetCell
cells lanes = lane_cells 0 lanes ++ bridges_from lanes 0 lanes

-- ---- examples: a bend, a lanelet whose bounds cross, and a bridge

abbrev metres : ℕ → ℕ → Pair
metres x y = (pos (1_000_000 * x), pos (1_000_000 * y))

abbrev plain_lane : List Pair → List Pair → List ℕ → RawLane
plain_lane left right after = record { left = left; right = right; successors = after; predecessors = []; sides = [] }

row_bend : length (cells ((1, plain_lane (metres 0 4 ∷ metres 2 4 ∷ metres 2 4 ∷ metres 2 6 ∷ metres 2 8 ∷ []) (metres 0 0 ∷ metres 2 0 ∷ metres 6 4 ∷ metres 6 6 ∷ metres 6 8 ∷ []) []) ∷ [])) ≡ 6
unfolding cells numbers_below part_count root_ceiling root_floor
row_bend = refl

row_crossing : map corners_of (take 1 (drop 1 (cells ((1, plain_lane (metres 0 4 ∷ metres 2 0 ∷ []) (metres 0 0 ∷ metres 2 4 ∷ []) []) ∷ []))))
    ≡ (pt_of (pos 666666, pos 2666666) ∷ pt_of (pos 666666, pos 1333333) ∷ pt_of (pos 1333333, pos 1333333) ∷ pt_of (pos 1333333, pos 2666666) ∷ []) ∷ []
unfolding cells numbers_below part_count root_ceiling root_floor
row_crossing = refl

row_bridge : length (cells ((1, plain_lane (metres 0 4 ∷ metres 2 4 ∷ []) (metres 0 0 ∷ metres 2 0 ∷ []) (2 ∷ []))
    ∷ (2, plain_lane ((pos 2_030_000, pos 4_000_000) ∷ (pos 4_030_000, pos 4_000_000) ∷ []) ((pos 2_030_000, pos 0) ∷ (pos 4_030_000, pos 0) ∷ []) []) ∷ [])) ≡ 3
unfolding cells numbers_below part_count root_ceiling root_floor
row_bridge = refl
