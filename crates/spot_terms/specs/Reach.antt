-- The eight octagon normals, and how far a planar motion can reach along each of them.
use Rattle.std.specs.Prelude.{◌≡◌, ℕ, zero, suc, ◌+◌, ◌*◌, List, [], ◌∷◌, map, slice_index_or, ℤ, pos, neg_ℤ, nat_abs, ◌+ℤ◌, ◌*ℤ◌, ◌≤ℤ◌, ◌==◌, ◌&&◌, refl, if◌then◌else◌, Bool}
use Rattle.std.specs.Int.{int_max, int_min}
use Rattle.spot_terms.specs.declared.plain.Pt.{Pt}
use Rattle.spot_terms.specs.declared.plain.VBox.{VBox}
use Rattle.spot_terms.specs.declared.plain.AccStart.{AccStart}
use Rattle.spot_terms.specs.Lists.{Pairwise}
use Rattle.spot_terms.specs.Whole.{root_floor, quotient_floor}

-- ---- normals

abbrev pub Normal : Type 0
Normal = ℤ × ℤ

abbrev pub minus_one : ℤ
minus_one = neg_ℤ (pos 1)

-- counter-clockwise from (1, 0)
abbrev pub normals : List Normal
normals = (pos 1, pos 0) ∷ (pos 1, pos 1) ∷ (pos 0, pos 1) ∷ (minus_one, pos 1) ∷ (minus_one, pos 0) ∷ (minus_one, minus_one) ∷ (pos 0, minus_one) ∷ (pos 1, minus_one) ∷ []

-- the normal of a number from 0 to 7
abbrev pub normal_at : ℕ → Normal
normal_at k = slice_index_or normals k (pos 0, pos 0)

-- n · p
abbrev pub along : Normal → Pt → ℤ
along n p = n.0 *ℤ p.x +ℤ n.1 *ℤ p.y

-- n is one of the four slanted normals
abbrev pub is_diagonal : Normal → Bool
is_diagonal n = (nat_abs n.0 == 1) && (nat_abs n.1 == 1)

-- ---- the numbers of discs and boxes

-- the greatest n · q that a whole q of length at most r can have: r on the axes, the root of 2r² on the diagonals
unfoldable pub disc_number : Normal → ℕ → ℕ
disc_number n r = (if is_diagonal n then root_floor (2 * (r * r)) else r)

-- the greatest n · v over the velocities v of the box
unfoldable pub box_number : Normal → VBox → ℤ
box_number n b = int_max (n.0 *ℤ b.xlo) (n.0 *ℤ b.xhi) +ℤ int_max (n.1 *ℤ b.ylo) (n.1 *ℤ b.yhi)

-- ---- the numbers of a start

-- the greatest speed along n at tick k
unfoldable pub speed_number : AccStart → Normal → ℕ → ℤ
speed_number s n zero = box_number n s.b
speed_number s n (suc k) = int_min (box_number n s.b +ℤ pos (suc k * disc_number n (nat_abs s.a))) (pos (disc_number n (nat_abs s.v)))

-- 1 on the axes and 2 on the diagonals
abbrev pub rounding : Normal → ℕ
rounding n = (if is_diagonal n then 2 else 1)

-- the greatest place along n at tick k: of each tick at most half of both speeds and of the rounding
unfoldable pub reach_number : AccStart → Normal → ℕ → ℤ
reach_number s n zero = along n s.p
reach_number s n (suc k) = reach_number s n k +ℤ quotient_floor (speed_number s n k +ℤ speed_number s n (suc k) +ℤ pos (rounding n)) (pos 2)

-- the greatest reach number of the ticks from `from` to `from + ticks`, both ends included
unfoldable pub greatest_reach : AccStart → Normal → ℕ → ℕ → ℤ
greatest_reach s n from zero = reach_number s n from
greatest_reach s n from (suc ticks) = int_max (greatest_reach s n from ticks) (reach_number s n (from + suc ticks))

-- ---- octagons

-- the number of interval i of k ticks along n, with the body
unfoldable pub interval_number : AccStart → ℕ → ℕ → Normal → ℤ
interval_number s k i n = greatest_reach s n (i * k) k +ℤ pos (disc_number n s.r)

-- the octagon of interval i: its eight numbers
unfoldable pub interval_numbers : AccStart → ℕ → ℕ → List ℤ
interval_numbers s k i = map (interval_number s k i) normals

-- the octagon of a disc
unfoldable pub disc_numbers : Pt → ℕ → List ℤ
disc_numbers p r = map (λ n. along n p +ℤ pos (disc_number n r)) normals

-- the point lies in the octagon: n · q is at most the number, for each of the eight
abbrev pub InOctagon : List ℤ → Pt → Type 0
InOctagon numbers q = Pairwise (λ n h. along n q ≤ℤ h) normals numbers

-- ---- an example: a car at the origin with 10 m/s along x

row_start : AccStart
row_start = record { p = record { x = pos 0; y = pos 0 }; b = record { xlo = pos 9999; xhi = pos 10001; ylo = minus_one; yhi = pos 1 }; a = pos 8; v = pos 70000; r = 1000000 }

row_first : interval_numbers row_start 100 0 ≡ pos 2040100 ∷ pos 2469463 ∷ pos 1040100 ∷ pos 1414213 ∷ pos 1000000 ∷ pos 1414213 ∷ pos 1040100 ∷ pos 2469463 ∷ []
unfolding interval_numbers interval_number greatest_reach reach_number speed_number box_number disc_number root_floor row_start
row_first = refl

row_second : interval_numbers row_start 100 1 ≡ pos 3160200 ∷ pos 3634713 ∷ pos 1160200 ∷ pos 469463 ∷ pos 40100 ∷ pos 469463 ∷ pos 1160200 ∷ pos 3634713 ∷ []
unfolding interval_numbers interval_number greatest_reach reach_number speed_number box_number disc_number root_floor row_start
row_second = refl

row_static : disc_numbers (record { x = pos 0; y = pos 0 }) 1000000 ≡ pos 1000000 ∷ pos 1414213 ∷ pos 1000000 ∷ pos 1414213 ∷ pos 1000000 ∷ pos 1414213 ∷ pos 1000000 ∷ pos 1414213 ∷ []
unfolding disc_numbers disc_number root_floor
row_static = refl
