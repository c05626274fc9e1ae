-- A motion of the ego stays within the numbers of its start along the axes.
use Rattle.std.proofs.Common.{◌≡◌, ℕ, zero, suc, ◌+◌, ◌*◌, ◌≤◌, arith, refl, ℤ, pos, negsuc, ◌+ℤ◌, ◌-ℤ◌, ◌*ℤ◌, ◌≤ℤ◌, List, [], ◌∷◌, inl, inr}
use Rattle.std.specs.Prelude.{nat_abs, slice_get, Some}
use Rattle.std.proofs.lemmas.Int.{ints, clamps}
use Rattle.std.specs.Int.{int_max, int_min}
use Rattle.spot_terms.specs.EgoMotions.{EgoTick, EgoSpeedAtMost, IsEgoMotion, FitsBound}
use Rattle.spot_terms.specs.Whole.{quotient_floor}
use Rattle.spot_terms.specs.Lists.{Includes}
use Rattle.spot_terms.specs.Ranges.{IsStart, IsBoxWithin}
use Rattle.spot_terms.specs.Motions.{State, Ticks, InBox}
use Rattle.spot_terms.specs.Reach.{Normal, normals, along, minus_one, disc_number, box_number, rounding, speed_number, reach_number}
use Rattle.spot_terms.specs.declared.plain.Pt.{Pt}
use Rattle.spot_terms.specs.declared.plain.VBox.{VBox}
use Rattle.spot_terms.specs.declared.plain.AccStart.{AccStart}
use Rattle.spot_terms.proofs.ListLemmas.{all_included}
use Rattle.spot_terms.proofs.Products.{products}
use Rattle.spot_terms.proofs.Normals.{along-east, along-north, along-west, along-south}
use Rattle.acc_occupancy.proofs.Motions.{box_along, rule_bounds, same_place}
use Rattle.acc_occupancy.proofs.Sizes.{half_within, v_small}
use Rattle.spot_terms.proofs.Steps.{step_at, bound_at, start_at}
use Rattle.spot_terms.proofs.Orders.{half_at_least}

-- ---- the four normals along the axes

pub axes : List Normal
axes = (pos 1, pos 0) ∷ (pos 0, pos 1) ∷ (minus_one, pos 0) ∷ (pos 0, minus_one) ∷ []

each_axis : (P : Normal → Type 0) → P (pos 1, pos 0) → P (pos 0, pos 1) → P (minus_one, pos 0) → P (pos 0, minus_one) → (n : Normal) → Includes axes n → P n
unfolding axes
each_axis P a b c d n i = all_included P axes n (a, (b, (c, (d, tt)))) i

axis_normal : (n : Normal) → Includes axes n → Includes normals n
axis_normal n i = each_axis (Includes normals) (inl refl) (inr (inr (inl refl))) (inr (inr (inr (inr (inl refl))))) (inr (inr (inr (inr (inr (inr (inl refl))))))) n i

disc_axis : (r : ℕ) (n : Normal) → Includes axes n → disc_number n r ≡ r
unfolding disc_number
disc_axis r n i = each_axis (λ m. disc_number m r ≡ r) refl refl refl refl n i

rounding_axis : (n : Normal) → Includes axes n → rounding n ≡ 1
rounding_axis n i = each_axis (λ m. rounding m ≡ 1) refl refl refl refl n i

-- ---- one tick

tick_axis : (a : ℤ) (s t : State) (n : Normal) → Includes axes n → EgoTick a s t → (pos 2 *ℤ along n t.p) ≤ℤ (pos 2 *ℤ along n s.p +ℤ along n s.v +ℤ along n t.v +ℤ pos 1)
tick_axis a s t n i h =
    let first = rule_bounds s.p.x s.v.x t.p.x t.v.x h.x in
    let second = rule_bounds s.p.y s.v.y t.p.y t.v.y h.y in
    each_axis (λ m. (pos 2 *ℤ along m t.p) ≤ℤ (pos 2 *ℤ along m s.p +ℤ along m s.v +ℤ along m t.v +ℤ pos 1))
    (simp along-east (omega (arith, ints)))
    (simp along-north (omega (arith, ints)))
    (simp along-west (omega (arith, ints, products)))
    (simp along-south (omega (arith, ints, products)))
    n i

turn_axis : (a : ℤ) (s t : State) (n : Normal) → Includes axes n → EgoTick a s t → along n t.v ≤ℤ (along n s.v +ℤ pos (nat_abs a))
turn_axis a s t n i h =
    let x = h.x_bounded in
    let y = h.y_bounded in
    each_axis (λ m. along m t.v ≤ℤ (along m s.v +ℤ pos (nat_abs a)))
    (simp along-east (omega (arith, ints, x))) (simp along-north (omega (arith, ints, y))) (simp along-west (omega (arith, ints, x))) (simp along-south (omega (arith, ints, y))) n i

cap_axis : (v : ℤ) (s : State) (n : Normal) → Includes axes n → EgoSpeedAtMost v s → along n s.v ≤ℤ pos (nat_abs v)
cap_axis v s n i h =
    let x = h.x in
    let y = h.y in
    each_axis (λ m. along m s.v ≤ℤ pos (nat_abs v))
    (simp along-east (omega (arith, ints, x))) (simp along-north (omega (arith, ints, y))) (simp along-west (omega (arith, ints, x))) (simp along-south (omega (arith, ints, y))) n i

-- ---- speeds and places

abbrev pub IsMotion : AccStart → List State → Type 0
IsMotion s states = IsEgoMotion s.p s.b s.a s.v states

speed_bound : (s : AccStart) (n : Normal) (k : ℕ) (states : List State) (t : State) → Includes axes n → IsMotion s states → slice_get states k ≡ Some t → along n t.v ≤ℤ (box_number n s.b +ℤ pos (k * nat_abs s.a))
speed_bound s n zero states t i m e = let first = start_at (λ w. (w.p ≡ s.p) × InBox s.b w.v) states t m.start e in let bound = box_along s.b t.v n (axis_normal n i) first.1 in omega (arith, ints)
speed_bound s n (suc k) states t i m e =
    let (o, before, tick) = step_at (EgoTick s.a) (EgoSpeedAtMost s.v) states k t m.ticks e in
    let earlier = speed_bound s n k states o i m before in
    let more = turn_axis s.a o t n i tick in
    omega (arith, ints)

motion_speed : (s : AccStart) (n : Normal) (k : ℕ) (states : List State) (t : State) → Includes axes n → IsMotion s states → slice_get states k ≡ Some t → along n t.v ≤ℤ speed_number s n k
unfolding speed_number
motion_speed s n zero states t i m e = let first = start_at (λ w. (w.p ≡ s.p) × InBox s.b w.v) states t m.start e in box_along s.b t.v n (axis_normal n i) first.1
motion_speed s n (suc k) states t i m e =
    let risen = speed_bound s n (suc k) states t i m e in
    let capped = cap_axis s.v t n i (bound_at (EgoTick s.a) (EgoSpeedAtMost s.v) states (suc k) t m.ticks e) in
    rw (disc_axis (nat_abs s.a) n i, disc_axis (nat_abs s.v) n i) (omega (arith, ints, clamps))

way : (x x' v v' w w' : ℤ) (d : ℕ) (r : ℤ) → d ≡ 1 → (pos 2 *ℤ x') ≤ℤ (pos 2 *ℤ x +ℤ v +ℤ v' +ℤ pos 1) → v ≤ℤ w → v' ≤ℤ w' → x ≤ℤ r → x' ≤ℤ (r +ℤ quotient_floor (w +ℤ w' +ℤ pos d) (pos 2))
way x x' v v' w w' d r one h a b c = let half = half_at_least (x' -ℤ r) (w +ℤ w' +ℤ pos d) (omega (arith, ints, products)) in omega (arith, ints)

pub axis_reach : (s : AccStart) (n : Normal) (k : ℕ) (states : List State) (t : State) → Includes axes n → IsMotion s states → slice_get states k ≡ Some t → along n t.p ≤ℤ reach_number s n k
unfolding reach_number
axis_reach s n zero states t i m e = let first = start_at (λ w. (w.p ≡ s.p) × InBox s.b w.v) states t m.start e in same_place n t.p s.p first.0
axis_reach s n (suc k) states t i m e =
    let (o, before, tick) = step_at (EgoTick s.a) (EgoSpeedAtMost s.v) states k t m.ticks e in
    way _ _ _ _ _ _ (rounding n) _ (rounding_axis n i) (tick_axis s.a o t n i tick) (motion_speed s n k states o i m before) (motion_speed s n (suc k) states t i m e) (axis_reach s n k states o i m before)

-- ---- sizes

box_axis : (b : VBox) (n : Normal) → Includes axes n → IsBoxWithin 900_000 b → nat_abs (box_number n b) ≤ 900_000
unfolding box_number
box_axis b n i r =
    let p = r.xlo in let q = r.xhi in let s = r.ylo in let t = r.yhi in
    each_axis (λ k. nat_abs (int_max (k.0 *ℤ b.xlo) (k.0 *ℤ b.xhi) +ℤ int_max (k.1 *ℤ b.ylo) (k.1 *ℤ b.yhi)) ≤ 900_000)
    (omega (arith, ints, clamps)) (omega (arith, ints, clamps)) (omega (arith, ints, clamps)) (omega (arith, ints, clamps)) n i

capped : (w : ℤ) (x c : ℕ) → nat_abs w ≤ 900_000 → c ≤ 900_000 → nat_abs (int_min (w +ℤ pos x) (pos c)) ≤ 900_000
capped w x c h g = omega (arith, ints, clamps)

speed_axis : (s : AccStart) (n : Normal) (k : ℕ) → IsStart s → Includes axes n → nat_abs (speed_number s n k) ≤ 900_000
unfolding speed_number
speed_axis s n zero r i = box_axis s.b n i r.box
speed_axis s n (suc k) r i =
    capped (box_number n s.b) (suc k * disc_number n (nat_abs s.a)) (disc_number n (nat_abs s.v)) (box_axis s.b n i r.box) (rw (disc_axis (nat_abs s.v) n i) (v_small s r))

along_axis : (p : Pt) (n : Normal) → Includes axes n → nat_abs p.x ≤ 20_000_000_000_000 → nat_abs p.y ≤ 20_000_000_000_000 → nat_abs (along n p) ≤ 20_000_000_000_000
along_axis p n i x y = each_axis (λ k. nat_abs (along k p) ≤ 20_000_000_000_000) (omega (arith, ints)) (omega (arith, ints)) (omega (arith, ints)) (omega (arith, ints)) n i

way_within : (r w w' : ℤ) (d b : ℕ) → nat_abs r ≤ b → nat_abs w ≤ 900_000 → nat_abs w' ≤ 900_000 → d ≡ 1 → nat_abs (r +ℤ quotient_floor (w +ℤ w' +ℤ pos d) (pos 2)) ≤ b + 900_001
way_within r w w' d b p q t h = let half = half_within (w +ℤ w' +ℤ pos d) 900_001 (omega (arith, ints)) in omega (arith, ints)

pub reach_axis : (s : AccStart) (n : Normal) (k : ℕ) → IsStart s → Includes axes n → nat_abs (reach_number s n k) ≤ 20_000_000_000_000 + k * 900_001
unfolding reach_number
reach_axis s n zero r i = let small = along_axis s.p n i r.x r.y in omega (arith, small)
reach_axis s n (suc k) r i =
    let more = way_within (reach_number s n k) (speed_number s n k) (speed_number s n (suc k)) (rounding n) (20_000_000_000_000 + k * 900_001) (reach_axis s n k r i) (speed_axis s n k r i) (speed_axis s n (suc k) r i) (rounding_axis n i) in
    omega (arith, more)

-- ---- opposite normals leave room, where the speeds of the box are within the bound

pub record AreOpposite (s : AccStart) (n m : Normal) : Type 0 where
  pub places : pos 0 ≤ℤ (along n s.p +ℤ along m s.p)
  pub speeds : pos 0 ≤ℤ (box_number n s.b +ℤ box_number m s.b)
  pub first : pos 0 ≤ℤ (box_number n s.b +ℤ pos (nat_abs s.v))
  pub second : pos 0 ≤ℤ (box_number m s.b +ℤ pos (nat_abs s.v))

min_room : (b c : ℤ) (x v : ℕ) → pos 0 ≤ℤ (b +ℤ c) → pos 0 ≤ℤ (b +ℤ pos v) → pos 0 ≤ℤ (c +ℤ pos v) → pos 0 ≤ℤ (int_min (b +ℤ pos x) (pos v) +ℤ int_min (c +ℤ pos x) (pos v))
min_room b c x v h f g = omega (arith, ints, clamps)

speeds_room : (s : AccStart) (n m : Normal) (k : ℕ) → Includes axes n → Includes axes m → AreOpposite s n m → pos 0 ≤ℤ (speed_number s n k +ℤ speed_number s m k)
unfolding speed_number
speeds_room s n m zero i j o = o.speeds
speeds_room s n m (suc k) i j o =
    rw (disc_axis (nat_abs s.a) n i, disc_axis (nat_abs s.v) n i, disc_axis (nat_abs s.a) m j, disc_axis (nat_abs s.v) m j)
    (min_room (box_number n s.b) (box_number m s.b) (suc k * nat_abs s.a) (nat_abs s.v) o.speeds o.first o.second)

half_least : (y : ℤ) → y ≤ℤ (pos 2 *ℤ quotient_floor (y +ℤ pos 1) (pos 2))
half_least y = least (y +ℤ pos 1) y (omega (arith, ints))
  where
    least : (z y : ℤ) → z ≡ y +ℤ pos 1 → y ≤ℤ (pos 2 *ℤ quotient_floor z (pos 2))
    least (pos n) y e = omega (arith, ints)
    least (negsuc n) y e = omega (arith, ints)

ways_room : (r q v v' w w' : ℤ) (d e : ℕ) → d ≡ 1 → e ≡ 1 → pos 0 ≤ℤ (r +ℤ q) → pos 0 ≤ℤ (v +ℤ w) → pos 0 ≤ℤ (v' +ℤ w') → pos 0 ≤ℤ ((r +ℤ quotient_floor (v +ℤ v' +ℤ pos d) (pos 2)) +ℤ (q +ℤ quotient_floor (w +ℤ w' +ℤ pos e) (pos 2)))
ways_room r q v v' w w' d e one same h f g = rw (one, same) (let first = half_least (v +ℤ v') in let second = half_least (w +ℤ w') in omega (arith, ints))

pub places_room : (s : AccStart) (n m : Normal) (k : ℕ) → Includes axes n → Includes axes m → AreOpposite s n m → pos 0 ≤ℤ (reach_number s n k +ℤ reach_number s m k)
unfolding reach_number
places_room s n m zero i j o = o.places
places_room s n m (suc k) i j o =
    ways_room (reach_number s n k) (reach_number s m k) (speed_number s n k) (speed_number s n (suc k)) (speed_number s m k) (speed_number s m (suc k)) (rounding n) (rounding m) (rounding_axis n i) (rounding_axis m j)
    (places_room s n m k i j o) (speeds_room s n m k i j o) (speeds_room s n m (suc k) i j o)

-- the two pairs of a start that fits
pub along_x : (s : AccStart) → IsStart s → FitsBound s.b s.v → AreOpposite s (minus_one, pos 0) (pos 1, pos 0)
unfolding box_number
along_x s r f =
    let o = r.box.x_ordered in let lo = f.xlo in let hi = f.xhi in record {
      places = omega (arith, ints);
      speeds = omega (arith, ints, clamps, o);
      first = omega (arith, ints, clamps, lo, hi);
      second = omega (arith, ints, clamps, lo, hi);
    }

pub along_y : (s : AccStart) → IsStart s → FitsBound s.b s.v → AreOpposite s (pos 0, minus_one) (pos 0, pos 1)
unfolding box_number
along_y s r f =
    let o = r.box.y_ordered in let lo = f.ylo in let hi = f.yhi in record {
      places = omega (arith, ints);
      speeds = omega (arith, ints, clamps, o);
      first = omega (arith, ints, clamps, lo, hi);
      second = omega (arith, ints, clamps, lo, hi);
    }

pub west : Includes axes (minus_one, pos 0)
unfolding axes
west = inr (inr (inl refl))

pub east : Includes axes (pos 1, pos 0)
unfolding axes
east = inl refl

pub south : Includes axes (pos 0, minus_one)
unfolding axes
south = inr (inr (inr (inl refl)))

pub north : Includes axes (pos 0, pos 1)
unfolding axes
north = inr (inl refl)
