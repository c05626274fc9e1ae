-- Of the places of an interval the greatest stands at one of its ends.
use Rattle.std.proofs.Common.{◌≡◌, ℕ, zero, suc, ◌+◌, ◌*◌, ◌⊎◌, inl, inr, refl, arith, ℤ, pos, ◌+ℤ◌, ◌*ℤ◌, ◌<ℤ◌, ◌≤ℤ◌, List, [], ◌∷◌, map, add-zero}
use Rattle.std.proofs.lemmas.Int.{ints, clamps}
use Rattle.std.proofs.lemmas.Bool.{cases_lt}
use borrow.Author.Differences.{up, down}
use Rattle.std.specs.Int.{int_max, int_min}
use Rattle.spot_terms.specs.Lists.{Pairwise}
use Rattle.spot_terms.specs.Reach.{Normal, normals, speed_number, reach_number, greatest_reach, interval_number, interval_numbers}
use Rattle.spot_terms.specs.declared.plain.AccStart.{AccStart}
use Rattle.acc_occupancy.specs.declared.line.Line.{Line}
use Rattle.acc_occupancy.specs.Lines.{IsLine, IsLineInRange, AreLines, AreLinesInRange, line_speed, line_place, line_number, half}
use Rattle.acc_occupancy.proofs.Rows.{half_bounds, suc_times}
use Rattle.spot_terms.proofs.Orders.{at_most_or_above}

-- ---- the line of a start has its numbers

line_speed-is : (s : AccStart) (n : Normal) (l : Line) (k : ℕ) → IsLine s n l → line_speed l k ≡ speed_number s n k
unfolding line_speed speed_number
line_speed-is s n l zero h = h.speed
line_speed-is s n l (suc k) h = rw (h.speed, h.rise, h.cap) refl

pub line_place-is : (s : AccStart) (n : Normal) (l : Line) (k : ℕ) → IsLine s n l → line_place l k ≡ reach_number s n k
unfolding line_place reach_number
line_place-is s n l zero h = h.place
line_place-is s n l (suc k) h =
    let old = line_speed-is s n l k h in
    let new = line_speed-is s n l (suc k) h in
    let before = line_place-is s n l k h in
    rw (before, old, new, h.spread) refl

-- ---- the way of a tick stays at 0 or above

stays : (l : Line) (k : ℕ) → IsLineInRange l → pos 0 ≤ℤ half (line_speed l k +ℤ line_speed l (suc k) +ℤ l.rounding) → pos 0 ≤ℤ half (line_speed l (suc k) +ℤ line_speed l (suc (suc k)) +ℤ l.rounding)
unfolding line_speed
stays l zero r h =
    let rise = r.rise.low in let cap = r.cap.low in let rounding = r.rounding.low in
    let one = suc_times 0 l.rise in
    let two = suc_times 1 l.rise in
    let old = half_bounds (l.speed +ℤ int_min (l.speed +ℤ pos 1 *ℤ l.rise) l.cap +ℤ l.rounding) in
    let new = half_bounds (int_min (l.speed +ℤ pos 1 *ℤ l.rise) l.cap +ℤ int_min (l.speed +ℤ pos 2 *ℤ l.rise) l.cap +ℤ l.rounding) in
    omega (arith, ints, clamps)
stays l (suc k) r h =
    let rise = r.rise.low in let cap = r.cap.low in let rounding = r.rounding.low in
    let one = suc_times (suc k) l.rise in
    let two = suc_times (suc (suc k)) l.rise in
    let old = half_bounds (int_min (l.speed +ℤ pos (suc k) *ℤ l.rise) l.cap +ℤ int_min (l.speed +ℤ pos (suc (suc k)) *ℤ l.rise) l.cap +ℤ l.rounding) in
    let new = half_bounds (int_min (l.speed +ℤ pos (suc (suc k)) *ℤ l.rise) l.cap +ℤ int_min (l.speed +ℤ pos (suc (suc (suc k))) *ℤ l.rise) l.cap +ℤ l.rounding) in
    omega (arith, ints, clamps)

grows_on : (l : Line) (k : ℕ) → IsLineInRange l → line_place l k ≤ℤ line_place l (suc k) → line_place l (suc k) ≤ℤ line_place l (suc (suc k))
unfolding line_place
grows_on l k r h = let way = stays l k r (omega (arith, ints, h)) in omega (arith, ints, way)

-- where the place falls in a tick, it fell before
fell : (l : Line) (from count : ℕ) → IsLineInRange l → line_place l (suc (from + count)) <ℤ line_place l (from + count) → line_place l (from + count) ≤ℤ line_place l from
fell l from zero r h = rw add-zero (omega (arith, ints))
fell l from (suc count) r h =
    let same : from + suc count ≡ suc (from + count) = omega arith in
    let falls : line_place l (suc (suc (from + count))) <ℤ line_place l (suc (from + count)) = rw same at h in
    elim (at_most_or_above (line_place l (from + count)) (line_place l (suc (from + count)))) [
      | inl rises ↦ absurd (let on = grows_on l (from + count) r rises in omega (arith, ints, on, falls))
      | inr falls_first ↦ let earlier = fell l from count r falls_first in rw same (omega (arith, ints, earlier, falls_first))
    ]

pub greatest_at_end : (s : AccStart) (n : Normal) (l : Line) (from count : ℕ) → IsLine s n l → IsLineInRange l → greatest_reach s n from count ≡ int_max (line_place l from) (line_place l (from + count))
unfolding greatest_reach
greatest_at_end s n l from zero h r = let same = line_place-is s n l from h in rw (add-zero, same) (omega (arith, ints, clamps))
greatest_at_end s n l from (suc count) h r =
    let before = greatest_at_end s n l from count h r in
    let last = line_place-is s n l (from + suc count) h in
    let same : from + suc count ≡ suc (from + count) = omega arith in
    rw (before, ← last, same)
    (elim (at_most_or_above (line_place l (from + count)) (line_place l (suc (from + count)))) [
      | inl rises ↦ omega (arith, ints, clamps, rises)
      | inr falls_first ↦ let earlier = fell l from count r falls_first in omega (arith, ints, clamps, earlier, falls_first)
    ])

-- ---- the numbers of an interval

pub line_number-is : (s : AccStart) (n : Normal) (l : Line) (k i : ℕ) → IsLine s n l → IsLineInRange l → line_number k i l ≡ interval_number s k i n
unfolding line_number interval_number
line_number-is s n l k i h r = let greatest = greatest_at_end s n l (i * k) k h r in rw (greatest, h.body) refl

along_lines : (s : AccStart) (ns : List Normal) (lines : List Line) (k i : ℕ) → Pairwise (IsLine s) ns lines → AreLinesInRange lines → map (line_number k i) lines ≡ map (interval_number s k i) ns
along_lines s [] [] k i h r = refl
along_lines s [] (l ∷ lines) k i h r = absurd h
along_lines s (n ∷ ns) [] k i h r = absurd h
along_lines s (n ∷ ns) (l ∷ lines) k i h r = let first = line_number-is s n l k i h.0 r.0 in let rest = along_lines s ns lines k i h.1 r.1 in cc

pub line_numbers-are : (s : AccStart) (lines : List Line) (k i : ℕ) → AreLines s lines → AreLinesInRange lines → map (line_number k i) lines ≡ interval_numbers s k i
unfolding interval_numbers
line_numbers-are s lines k i h r = along_lines s normals lines k i h r
