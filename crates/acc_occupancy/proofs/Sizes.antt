-- How large the numbers of a start can be.
use Rattle.std.proofs.Common.{ℕ, zero, suc, ◌+◌, ◌*◌, ◌≤◌, arith, ℤ, pos, negsuc, ◌+ℤ◌, ◌*ℤ◌}
use Rattle.std.specs.Prelude.{nat_abs}
use Rattle.std.proofs.lemmas.Int.{ints, clamps}
use Rattle.std.specs.Int.{int_max, int_min}
use Rattle.spot_terms.specs.Whole.{quotient_floor}
use Rattle.spot_terms.specs.Lists.{Includes}
use Rattle.spot_terms.specs.Ranges.{IsStart, IsBoxWithin}
use Rattle.spot_terms.specs.Reach.{Normal, normals, along, disc_number, box_number, rounding, speed_number, reach_number}
use Rattle.spot_terms.specs.declared.plain.Pt.{Pt}
use Rattle.spot_terms.specs.declared.plain.VBox.{VBox}
use Rattle.spot_terms.specs.declared.plain.AccStart.{AccStart}
use Rattle.spot_terms.proofs.Normals.{each_normal}
use Rattle.round_out.proofs.Discs.{disc_number_le}

-- a point of two small coordinates
pub along_within : (p : Pt) (h : ℕ) (n : Normal) → Includes normals n → nat_abs p.x ≤ h → nat_abs p.y ≤ h → nat_abs (along n p) ≤ 2 * h
along_within p h n i x y =
    each_normal (λ k. nat_abs (along k p) ≤ 2 * h)
    (omega (arith, ints)) (omega (arith, ints)) (omega (arith, ints)) (omega (arith, ints)) (omega (arith, ints)) (omega (arith, ints)) (omega (arith, ints)) (omega (arith, ints)) n i

pub box_number_within : (b : VBox) (h : ℕ) (n : Normal) → Includes normals n → IsBoxWithin h b → nat_abs (box_number n b) ≤ 2 * h
unfolding box_number
box_number_within b h n i r =
    let p = r.xlo in let q = r.xhi in let s = r.ylo in let t = r.yhi in
    each_normal (λ k. nat_abs (int_max (k.0 *ℤ b.xlo) (k.0 *ℤ b.xhi) +ℤ int_max (k.1 *ℤ b.ylo) (k.1 *ℤ b.yhi)) ≤ 2 * h)
    (omega (arith, ints, clamps)) (omega (arith, ints, clamps)) (omega (arith, ints, clamps)) (omega (arith, ints, clamps)) (omega (arith, ints, clamps)) (omega (arith, ints, clamps)) (omega (arith, ints, clamps)) (omega (arith, ints, clamps)) n i

pub rounding_within : (n : Normal) → Includes normals n → (1 ≤ rounding n) × (rounding n ≤ 2)
rounding_within n i = each_normal (λ k. (1 ≤ rounding k) × (rounding k ≤ 2)) (omega arith, omega arith) (omega arith, omega arith) (omega arith, omega arith) (omega arith, omega arith) (omega arith, omega arith) (omega arith, omega arith) (omega arith, omega arith) (omega arith, omega arith) n i

pub a_small : (s : AccStart) → IsStart s → nat_abs s.a ≤ 20
a_small s r = let low = r.a.low in let high = r.a.high in omega (arith, ints)

pub v_small : (s : AccStart) → IsStart s → nat_abs s.v ≤ 900_000
v_small s r = let low = r.v.low in let high = r.v.high in omega (arith, ints)

pub rise_within : (s : AccStart) (n : Normal) → IsStart s → Includes normals n → disc_number n (nat_abs s.a) ≤ 40
rise_within s n r i = let small = a_small s r in let double = disc_number_le n (nat_abs s.a) (omega arith) i in omega arith

pub cap_within : (s : AccStart) (n : Normal) → IsStart s → Includes normals n → disc_number n (nat_abs s.v) ≤ 1_800_000
cap_within s n r i = let small = v_small s r in let double = disc_number_le n (nat_abs s.v) (omega arith) i in omega arith

pub body_within : (s : AccStart) (n : Normal) → IsStart s → Includes normals n → disc_number n s.r ≤ 800_000_000
body_within s n r i = let small = r.r in let double = disc_number_le n s.r (omega arith) i in omega arith

capped : (w : ℤ) (x c : ℕ) → nat_abs w ≤ 1_800_000 → c ≤ 1_800_000 → nat_abs (int_min (w +ℤ pos x) (pos c)) ≤ 1_800_000
capped w x c h g = omega (arith, ints, clamps)

pub speed_number_within : (s : AccStart) (n : Normal) (k : ℕ) → IsStart s → Includes normals n → nat_abs (speed_number s n k) ≤ 1_800_000
unfolding speed_number
speed_number_within s n zero r i = box_number_within s.b 900_000 n i r.box
speed_number_within s n (suc k) r i = capped (box_number n s.b) (suc k * disc_number n (nat_abs s.a)) (disc_number n (nat_abs s.v)) (box_number_within s.b 900_000 n i r.box) (cap_within s n r i)

pub half_within : (y : ℤ) (h : ℕ) → nat_abs y ≤ 2 * h → nat_abs (quotient_floor y (pos 2)) ≤ h
half_within (pos n) h p = omega (arith, ints)
half_within (negsuc n) h p = omega (arith, ints)

way_within : (r w w' : ℤ) (d b : ℕ) → nat_abs r ≤ b → nat_abs w ≤ 1_800_000 → nat_abs w' ≤ 1_800_000 → d ≤ 2 → nat_abs (r +ℤ quotient_floor (w +ℤ w' +ℤ pos d) (pos 2)) ≤ b + 1_800_001
way_within r w w' d b p q t h = let half = half_within (w +ℤ w' +ℤ pos d) 1_800_001 (omega (arith, ints)) in omega (arith, ints)

pub reach_number_within : (s : AccStart) (n : Normal) (k : ℕ) → IsStart s → Includes normals n → nat_abs (reach_number s n k) ≤ 40_000_000_000_000 + k * 1_800_001
unfolding reach_number
reach_number_within s n zero r i = let first = along_within s.p 20_000_000_000_000 n i r.x r.y in omega arith
reach_number_within s n (suc k) r i =
    let way = way_within (reach_number s n k) (speed_number s n k) (speed_number s n (suc k)) (rounding n) _ (reach_number_within s n k r i) (speed_number_within s n k r i) (speed_number_within s n (suc k) r i) (rounding_within n i).1 in
    omega arith
