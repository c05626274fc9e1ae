-- A planar motion stays within the numbers of its start.
use Rattle.std.proofs.Common.{◌≡◌, ℕ, zero, suc, ◌*◌, arith, ℤ, pos, negsuc, ◌+ℤ◌, ◌-ℤ◌, ◌*ℤ◌, ◌≤ℤ◌, List}
use Rattle.std.specs.Prelude.{nat_abs, slice_get, Some}
use Rattle.std.proofs.lemmas.Int.{ints, clamps}
use Rattle.std.specs.Int.{int_max}
use Rattle.spot_terms.specs.Whole.{quotient_floor}
use Rattle.spot_terms.specs.Lists.{Includes}
use Rattle.spot_terms.specs.Ranges.{IsStart}
use Rattle.spot_terms.specs.Motions.{State, Ticks, PlanarTick, SpeedAtMost, InBox, IsPlanarMotion}
use Rattle.spot_terms.specs.Reach.{Normal, normals, along, disc_number, box_number, rounding, speed_number, reach_number}
use Rattle.spot_terms.specs.declared.plain.Pt.{Pt}
use Rattle.spot_terms.specs.declared.plain.VBox.{VBox}
use Rattle.spot_terms.specs.declared.plain.AccStart.{AccStart}
use Rattle.spot_terms.proofs.Products.{products}
use Rattle.spot_terms.proofs.Normals.{each_normal, along-east, along-north_east, along-north, along-north_west, along-west, along-south_west, along-south, along-south_east}
use Rattle.round_out.proofs.Discs.{within_disc, sum_along, difference}
use Rattle.acc_occupancy.proofs.Sizes.{a_small, v_small}
use Rattle.spot_terms.proofs.Steps.{step_at, bound_at, start_at}
use Rattle.spot_terms.proofs.Orders.{half_at_least}

-- ---- one tick

-- twice the way along a normal is at most both speeds together and the rounding
abbrev TickAlong : State → State → Normal → Type 0
TickAlong s t n = (pos 2 *ℤ along n t.p) ≤ℤ (pos 2 *ℤ along n s.p +ℤ along n s.v +ℤ along n t.v +ℤ pos (rounding n))

-- the tick rule as two bounds
pub rule_bounds : (p v p' v' : ℤ) → Ticks p v p' v' → ((pos 2 *ℤ p') ≤ℤ (pos 2 *ℤ p +ℤ v +ℤ v' +ℤ pos 1)) × ((pos 2 *ℤ p +ℤ v +ℤ v') ≤ℤ (pos 2 *ℤ p' +ℤ pos 1))
rule_bounds p v p' v' h = omega (arith, ints, products)

pub tick_along : (a : ℤ) (s t : State) (n : Normal) → Includes normals n → PlanarTick a s t → TickAlong s t n
tick_along a s t n i h =
    let first = rule_bounds s.p.x s.v.x t.p.x t.v.x h.x in
    let second = rule_bounds s.p.y s.v.y t.p.y t.v.y h.y in
    each_normal (TickAlong s t)
    (simp along-east (omega (arith, ints)))
    (simp along-north_east (omega (arith, ints, products)))
    (simp along-north (omega (arith, ints)))
    (simp along-north_west (omega (arith, ints, products)))
    (simp along-west (omega (arith, ints, products)))
    (simp along-south_west (omega (arith, ints, products)))
    (simp along-south (omega (arith, ints, products)))
    (simp along-south_east (omega (arith, ints, products)))
    n i

-- no velocity of a box is above the box's number
pub box_along : (b : VBox) (v : Pt) (n : Normal) → Includes normals n → InBox b v → along n v ≤ℤ box_number n b
unfolding box_number
box_along b v n i h =
    let xlo = h.x.low in let xhi = h.x.high in let ylo = h.y.low in let yhi = h.y.high in
    each_normal (λ k. along k v ≤ℤ (int_max (k.0 *ℤ b.xlo) (k.0 *ℤ b.xhi) +ℤ int_max (k.1 *ℤ b.ylo) (k.1 *ℤ b.yhi)))
    (omega (arith, ints, clamps))
    (omega (arith, ints, clamps))
    (omega (arith, ints, clamps))
    (omega (arith, ints, clamps))
    (omega (arith, ints, clamps))
    (omega (arith, ints, clamps))
    (omega (arith, ints, clamps))
    (omega (arith, ints, clamps))
    n i

-- ---- speeds

abbrev pub IsMotion : AccStart → List State → Type 0
IsMotion s states = IsPlanarMotion s.p s.b s.a s.v states

-- the speed along a normal, from its start
speed_bound : (s : AccStart) (n : Normal) (k : ℕ) (states : List State) (t : State) → IsStart s → Includes normals n → IsMotion s states → slice_get states k ≡ Some t → along n t.v ≤ℤ (box_number n s.b +ℤ pos (k * disc_number n (nat_abs s.a)))
speed_bound s n zero states t r i m e = let first = start_at (λ w. (w.p ≡ s.p) × InBox s.b w.v) states t m.start e in let bound = box_along s.b t.v n i first.1 in omega (arith, ints)
speed_bound s n (suc k) states t r i m e =
    let (o, before, tick) = step_at (PlanarTick s.a) (SpeedAtMost s.v) states k t m.ticks e in
    let earlier = speed_bound s n k states o r i m before in
    let small = a_small s r in
    let more = within_disc n (difference o.v t.v) (nat_abs s.a) (omega arith) i tick.bounded in
    let sum = sum_along o.v t.v n i in
    omega (arith, ints)

pub motion_speed : (s : AccStart) (n : Normal) (k : ℕ) (states : List State) (t : State) → IsStart s → Includes normals n → IsMotion s states → slice_get states k ≡ Some t → along n t.v ≤ℤ speed_number s n k
unfolding speed_number
motion_speed s n zero states t r i m e = let first = start_at (λ w. (w.p ≡ s.p) × InBox s.b w.v) states t m.start e in box_along s.b t.v n i first.1
motion_speed s n (suc k) states t r i m e =
    let risen = speed_bound s n (suc k) states t r i m e in
    let small = v_small s r in
    let bounded = within_disc n t.v (nat_abs s.v) (omega arith) i (bound_at (PlanarTick s.a) (SpeedAtMost s.v) states (suc k) t m.ticks e) in
    omega (arith, ints, clamps)

-- ---- places

-- one tick: the way along a normal
way : (x x' v v' w w' : ℤ) (d : ℕ) (r : ℤ) → (pos 2 *ℤ x') ≤ℤ (pos 2 *ℤ x +ℤ v +ℤ v' +ℤ pos d) → v ≤ℤ w → v' ≤ℤ w' → x ≤ℤ r → x' ≤ℤ (r +ℤ quotient_floor (w +ℤ w' +ℤ pos d) (pos 2))
way x x' v v' w w' d r h a b c = let half = half_at_least (x' -ℤ r) (w +ℤ w' +ℤ pos d) (omega (arith, ints, products)) in omega (arith, ints)

pub same_place : (n : Normal) (p q : Pt) → p ≡ q → along n p ≤ℤ along n q
same_place n p q e = rw e (omega (arith, ints))

-- the place along a normal
pub motion_reach : (s : AccStart) (n : Normal) (k : ℕ) (states : List State) (t : State) → IsStart s → Includes normals n → IsMotion s states → slice_get states k ≡ Some t → along n t.p ≤ℤ reach_number s n k
unfolding reach_number
motion_reach s n zero states t r i m e = let first = start_at (λ w. (w.p ≡ s.p) × InBox s.b w.v) states t m.start e in same_place n t.p s.p first.0
motion_reach s n (suc k) states t r i m e =
    let (o, before, tick) = step_at (PlanarTick s.a) (SpeedAtMost s.v) states k t m.ticks e in
    way _ _ _ _ _ _ (rounding n) _ (tick_along s.a o t n i tick) (motion_speed s n k states o r i m before) (motion_speed s n (suc k) states t r i m e) (motion_reach s n k states o r i m before)
