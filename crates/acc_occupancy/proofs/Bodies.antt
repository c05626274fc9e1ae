-- The octagon of an interval holds the bodies.
use Rattle.std.proofs.Common.{◌≡◌, ℕ, zero, suc, ◌+◌, ◌-◌, ◌*◌, ◌<◌, ◌≤◌, ◌⊎◌, inl, inr, cond, true, false, int_lt, refl, arith, ◌∙◌, ℤ, ◌≤ℤ◌, List, add-zero, mul-le-mul}
use Rattle.std.specs.Prelude.{nat_abs, slice_get, Some}
use Rattle.std.proofs.lemmas.Int.{ints, clamps}
use Rattle.std.proofs.lemmas.Bool.{cases_lt}
use Rattle.std.specs.Int.{int_max}
use Rattle.std.specs.List.{AllByRecursion}
use Rattle.spot_terms.specs.Whole.{SizeAtMost}
use Rattle.spot_terms.specs.Lists.{Includes}
use Rattle.spot_terms.specs.Bodies.{InDisc}
use Rattle.spot_terms.specs.Ranges.{IsStart}
use Rattle.spot_terms.specs.Motions.{State}
use Rattle.spot_terms.specs.Reach.{Normal, normals, along, reach_number, greatest_reach, interval_number, interval_numbers}
use Rattle.spot_terms.specs.declared.plain.Pt.{Pt}
use Rattle.spot_terms.specs.declared.plain.AccStart.{AccStart}
use Rattle.spot_terms.proofs.ListLemmas.{beside_map}
use Rattle.spot_terms.proofs.Members.{all_in_map}
use Rattle.round_out.proofs.Discs.{along_in_disc}
use Rattle.acc_occupancy.specs.Runs.{HoldsBodies}
use Rattle.acc_occupancy.proofs.Sizes.{body_within, reach_number_within}
use Rattle.acc_occupancy.proofs.Motions.{IsMotion, motion_reach}
use Rattle.spot_terms.proofs.Orders.{greater_is_one}

-- the greatest reach of some ticks is at least each one's
greatest_bound : (s : AccStart) (n : Normal) (from count j : ℕ) → j ≤ count → reach_number s n (from + j) ≤ℤ greatest_reach s n from count
unfolding greatest_reach
greatest_bound s n from zero zero h = rw add-zero (omega (arith, ints))
greatest_bound s n from zero (suc j) h = absurd (omega (arith, h))
greatest_bound s n from (suc count) j h =
    elim (cases_lt j (suc count)) [
      | inl below ↦ let earlier = greatest_bound s n from count j (omega arith) in omega (arith, ints, clamps)
      | inr above ↦ let last : j ≡ suc count = omega arith in rw last (omega (arith, ints, clamps))
    ]

-- and it is one of them
greatest_reached : (s : AccStart) (n : Normal) (from count : ℕ) → (j : ℕ) × (j ≤ count) × (greatest_reach s n from count ≡ reach_number s n (from + j))
unfolding greatest_reach
greatest_reached s n from zero = (0, omega arith, rw add-zero refl)
greatest_reached s n from (suc count) =
    let (j, within, same) = greatest_reached s n from count in
    elim (greater_is_one (greatest_reach s n from count) (reach_number s n (from + suc count))) [
      | inl earlier ↦ (j, omega arith, earlier ∙ same)
      | inr last ↦ (suc count, omega arith, last)
    ]

-- a tick of an interval reaches at most as far as the interval
greatest_at : (s : AccStart) (n : Normal) (from count t : ℕ) → from ≤ t → t ≤ from + count → reach_number s n t ≤ℤ greatest_reach s n from count
greatest_at s n from count t low high =
    let same : from + (t - from) ≡ t = omega arith in
    rw same at (greatest_bound s n from count (t - from) (omega arith))

-- each whole point of the body at a tick of an interval lies within the interval's number
body_along : (s : AccStart) (n : Normal) (k i t : ℕ) (states : List State) (o : State) (q : Pt) → IsStart s → Includes normals n → IsMotion s states → slice_get states t ≡ Some o → i * k ≤ t → t ≤ (i + 1) * k → InDisc s.r o.p q → along n q ≤ℤ interval_number s k i n
unfolding interval_number
body_along s n k i t states o q r l m e low high b =
    let center = motion_reach s n t states o r l m e in
    let small = r.r in
    let around = along_in_disc o.p q s.r n (omega arith) l b in
    let greatest : reach_number s n t ≤ℤ greatest_reach s n (i * k) k = greatest_at s n (i * k) k t low (omega arith) in
    omega (arith, ints)

-- the octagon of an interval holds each whole point of the body of each planar motion at each of its ticks
pub holds_bodies : (s : AccStart) (k i : ℕ) → IsStart s → HoldsBodies s k i (interval_numbers s k i)
unfolding interval_numbers
holds_bodies s k i r states t o q m e low high b = beside_map (λ n v. along n q ≤ℤ v) (interval_number s k i) normals (λ n l. body_along s n k i t states o q r l m e low high b)

-- the same of a list that has these numbers
pub numbers_hold : (s : AccStart) (k i : ℕ) (numbers : List ℤ) → numbers ≡ interval_numbers s k i → IsStart s → HoldsBodies s k i numbers
numbers_hold s k i numbers e r = rw e (holds_bodies s k i r)

-- ---- sizes

-- the last tick of an interval is at most 100,000
pub interval_end : (i k : ℕ) → i < 100 → k ≤ 1000 → i * k + k ≤ 100_000
interval_end i k p q = let first : i + 1 ≤ 100 = omega (arith, p) in let product : (i + 1) * k ≤ 100 * 1000 = mul-le-mul first q in omega (arith, product)

-- an interval's number is at most 10^14 in size
interval_number_within : (s : AccStart) (k i : ℕ) (n : Normal) → IsStart s → Includes normals n → i < 100 → k ≤ 1000 → nat_abs (interval_number s k i n) ≤ 100_000_000_000_000
unfolding interval_number
interval_number_within s k i n r l p q =
    let (j, within, same) = greatest_reached s n (i * k) k in
    let last = interval_end i k p q in
    let place = reach_number_within s n (i * k + j) r l in
    let around = body_within s n r l in
    rw same (omega (arith, ints))

pub interval_numbers_within : (s : AccStart) (k i : ℕ) → IsStart s → i < 100 → k ≤ 1000 → AllByRecursion (SizeAtMost 100_000_000_000_000) (interval_numbers s k i)
unfolding interval_numbers
interval_numbers_within s k i r p q = all_in_map (SizeAtMost 100_000_000_000_000) (interval_number s k i) normals (λ n l. interval_number_within s k i n r l p q)

pub numbers_within : (s : AccStart) (k i : ℕ) (numbers : List ℤ) → numbers ≡ interval_numbers s k i → IsStart s → i < 100 → k ≤ 1000 → AllByRecursion (SizeAtMost 100_000_000_000_000) numbers
numbers_within s k i numbers e r p q = rw e (interval_numbers_within s k i r p q)
