-- The place along a line by sums of rows.
use Rattle.std.proofs.Common.{◌≡◌, ℕ, zero, suc, ◌+◌, ◌-◌, ◌*◌, ◌/◌, ◌<◌, ◌≤◌, refl, arith, ℤ, pos, negsuc, ◌+ℤ◌, ◌-ℤ◌, ◌*ℤ◌, ◌<ℤ◌, ◌≤ℤ◌}
use Rattle.std.specs.Prelude.{nat_abs}
use Rattle.std.proofs.lemmas.Int.{ints, clamps}
use Rattle.std.proofs.Math.Nat.{div-le_self}
use Rattle.std.specs.Int.{int_max}
use Rattle.spot_terms.specs.Whole.{quotient_floor}
use Rattle.spot_terms.proofs.Quotients.{quotient_floor-is}
use Rattle.acc_occupancy.specs.declared.line.Line.{Line}
use Rattle.acc_occupancy.specs.Lines.{IsLineInRange, line_speed, line_place, IsRising, pairs, half, risen_place, bend_way, capped_way}
use Rattle.spot_terms.proofs.Orders.{zero_times, times_not_negative, one_times}

-- ---- multiples and halves

sum_times : (a b : ℕ) (z : ℤ) → pos (a + b) *ℤ z ≡ pos a *ℤ z +ℤ pos b *ℤ z
sum_times a b (pos n) = omega (arith, ints)
sum_times a b (negsuc n) = omega (arith, ints)

pub suc_times : (k : ℕ) (z : ℤ) → pos (suc k) *ℤ z ≡ pos k *ℤ z +ℤ z
suc_times k (pos n) = omega (arith, ints)
suc_times k (negsuc n) = omega (arith, ints)

pairs_step : (x y : ℕ) → (x + 2 * y) / 2 ≡ x / 2 + y
pairs_step x y = omega arith

pairs_suc : (k : ℕ) → pairs (suc k) ≡ pairs k + k
pairs_suc zero = refl
pairs_suc (suc k) =
    let one : suc (suc k) - 1 ≡ suc k = omega arith in
    let other : suc k - 1 ≡ k = omega arith in
    let product : suc (suc k) * suc k ≡ suc k * k + 2 * suc k = omega arith in
    rw (one, other, product) (pairs_step (suc k * k) (suc k))

pub half_bounds : (y : ℤ) → ((pos 2 *ℤ half y) ≤ℤ y) × (y ≤ℤ (pos 2 *ℤ half y +ℤ pos 1))
half_bounds (pos n) = (omega (arith, ints), omega (arith, ints))
half_bounds (negsuc n) = (omega (arith, ints), omega (arith, ints))

half_double : (a b y : ℤ) → y ≡ a +ℤ a +ℤ b → half y ≡ a +ℤ half b
half_double a b y e = let whole = half_bounds y in let part = half_bounds b in omega (arith, ints, e, whole, part)

-- ---- speeds

-- the speed rises freely up to tick k
abbrev pub IsFree : Line → ℕ → Type 0
IsFree l k = 0 < k → (l.speed +ℤ pos k *ℤ l.rise) ≤ℤ l.cap

line_speed-free : (l : Line) (k : ℕ) → IsFree l k → line_speed l k ≡ l.speed +ℤ pos k *ℤ l.rise
unfolding line_speed
line_speed-free l zero h = let none = zero_times l.rise in omega (arith, ints)
line_speed-free l (suc k) h = let below = h (omega arith) in omega (arith, ints, clamps)

pub free_before : (l : Line) (k : ℕ) → pos 0 ≤ℤ l.rise → IsFree l (suc k) → IsFree l k
free_before l k r h some = let below = h (omega arith) in let more = suc_times k l.rise in omega (arith, ints)

pub free_below : (l : Line) (k m : ℕ) → pos 0 ≤ℤ l.rise → k ≤ m → IsFree l m → IsFree l k
free_below l k m r h f some =
    let below = f (omega arith) in
    let same : k + (m - k) ≡ m = omega arith in
    let more : pos m *ℤ l.rise ≡ pos k *ℤ l.rise +ℤ pos (m - k) *ℤ l.rise = rw same at (sum_times k (m - k) l.rise) in
    let up = times_not_negative (m - k) l.rise r in
    omega (arith, ints)

line_speed-capped : (l : Line) (m k : ℕ) → pos 0 ≤ℤ l.rise → l.cap ≤ℤ (l.speed +ℤ pos (suc m) *ℤ l.rise) → m ≤ k → line_speed l (suc k) ≡ l.cap
unfolding line_speed
line_speed-capped l m k r h o =
    let same : suc m + (k - m) ≡ suc k = omega arith in
    let more : pos (suc k) *ℤ l.rise ≡ pos (suc m) *ℤ l.rise +ℤ pos (k - m) *ℤ l.rise = rw same at (sum_times (suc m) (k - m) l.rise) in
    let up = times_not_negative (k - m) l.rise r in
    omega (arith, ints, clamps)

-- ---- places

line_place-suc : (l : Line) (k : ℕ) → line_place l (suc k) ≡ line_place l k +ℤ half (line_speed l k +ℤ line_speed l (suc k) +ℤ l.rounding)
unfolding line_place
line_place-suc l k = refl

pub line_place-free : (l : Line) (k : ℕ) → pos 0 ≤ℤ l.rise → IsFree l k → line_place l k ≡ risen_place l k
unfolding line_place risen_place
line_place-free l zero r h = let none = zero_times (l.speed +ℤ half (l.rise +ℤ l.rounding)) in let nothing = zero_times l.rise in omega (arith, ints)
line_place-free l (suc k) r h =
    let before : line_place l k ≡ l.place +ℤ pos k *ℤ (l.speed +ℤ half (l.rise +ℤ l.rounding)) +ℤ pos (pairs k) *ℤ l.rise = line_place-free l k r (free_before l k r h) in
    let old = line_speed-free l k (free_before l k r h) in
    let new = line_speed-free l (suc k) h in
    let next = suc_times k l.rise in
    let way : half (line_speed l k +ℤ line_speed l (suc k) +ℤ l.rounding) ≡ (l.speed +ℤ pos k *ℤ l.rise) +ℤ half (l.rise +ℤ l.rounding) = half_double (l.speed +ℤ pos k *ℤ l.rise) (l.rise +ℤ l.rounding) _ (omega (arith, ints, old, new, next)) in
    let steady = suc_times k (l.speed +ℤ half (l.rise +ℤ l.rounding)) in
    let more : pos (pairs (suc k)) *ℤ l.rise ≡ pos (pairs k) *ℤ l.rise +ℤ pos k *ℤ l.rise = rw pairs_suc (sum_times (pairs k) k l.rise) in
    rw (before, way, steady, more) (omega (arith, ints))

-- the tick in which the speed meets its cap
line_place-bend : (l : Line) (m : ℕ) → pos 0 ≤ℤ l.rise → IsRising l m → line_place l (suc m) ≡ line_place l m +ℤ bend_way l m
unfolding bend_way
line_place-bend l m r h =
    let old = line_speed-free l m h.free in
    let new = line_speed-capped l m m r h.capped (omega arith) in
    rw (line_place-suc l m, old, new) refl

capped_sum : (l : Line) (x y : ℤ) → (x +ℤ y) +ℤ (l.cap +ℤ half l.rounding) ≡ x +ℤ (y +ℤ capped_way l)
unfolding capped_way
capped_sum l x y = omega (arith, ints)

pub line_place-capped : (l : Line) (m j : ℕ) → pos 0 ≤ℤ l.rise → IsRising l m → line_place l (suc (m + j)) ≡ line_place l m +ℤ bend_way l m +ℤ pos j *ℤ capped_way l
line_place-capped l m zero r h = let same : m + 0 ≡ m = omega arith in let none = zero_times (capped_way l) in let first = line_place-bend l m r h in rw (same, first, none) (omega (arith, ints))
line_place-capped l m (suc j) r h =
    let same : m + suc j ≡ suc (m + j) = omega arith in
    let before = line_place-capped l m j r h in
    let old = line_speed-capped l m (m + j) r h.capped (omega arith) in
    let new = line_speed-capped l m (suc (m + j)) r h.capped (omega arith) in
    let way : half (line_speed l (suc (m + j)) +ℤ line_speed l (suc (suc (m + j))) +ℤ l.rounding) ≡ l.cap +ℤ half l.rounding = half_double l.cap l.rounding _ (omega (arith, ints, old, new)) in
    let more = suc_times j (capped_way l) in
    rw (same, line_place-suc l (suc (m + j)), way, before, more) (capped_sum l (line_place l m +ℤ bend_way l m) (pos j *ℤ capped_way l))

-- ---- the number of ticks in which the speed rises freely

below_one : (q b : ℤ) → pos 1 ≤ℤ b → q ≤ℤ pos 0 → (q *ℤ b) ≤ℤ pos 0
below_one (pos zero) b h g = let none = zero_times b in omega (arith, ints)
below_one (pos (suc q)) b h g = absurd (omega (arith, ints, g))
below_one (negsuc q) (pos b) h g = omega (arith, ints)
below_one (negsuc q) (negsuc b) h g = absurd (omega (arith, ints, h))

rising_from : (l : Line) (q m : ℤ) → IsLineInRange l → m ≡ int_max q (pos 0) → (q *ℤ l.rise) ≤ℤ (l.cap -ℤ l.speed) → (l.cap -ℤ l.speed) <ℤ ((q +ℤ pos 1) *ℤ l.rise) → IsRising l (nat_abs m)
rising_from l (pos q) m r e low high =
    let same : m ≡ pos q = omega (arith, ints, clamps, e) in
    let next : (pos q +ℤ pos 1) *ℤ l.rise ≡ pos q *ℤ l.rise +ℤ pos 1 *ℤ l.rise = sum_times q 1 l.rise in
    let one = one_times l.rise in
    let more = suc_times q l.rise in
    rw same (record { free = λ some. omega (arith, ints, low); capped = omega (arith, ints, high) })
rising_from l (negsuc q) m r e low high =
    let same : m ≡ pos 0 = omega (arith, ints, clamps, e) in
    let rise = r.rise.low in
    let below = below_one (negsuc q +ℤ pos 1) l.rise rise (omega (arith, ints)) in
    let more = suc_times 0 l.rise in
    let none = zero_times l.rise in
    rw same (record { free = λ some. absurd (omega (arith, some)); capped = omega (arith, ints, high) })

pub rising_is : (l : Line) (m : ℤ) → IsLineInRange l → m ≡ int_max (quotient_floor (l.cap -ℤ l.speed) l.rise) (pos 0) → IsRising l (nat_abs m)
rising_is l m r e =
    let rise = r.rise.low in
    let q = quotient_floor-is (l.cap -ℤ l.speed) l.rise (omega (arith, ints)) in
    rising_from l (quotient_floor (l.cap -ℤ l.speed) l.rise) m r e q.product_le q.next_product_gt

quotient_small : (a b : ℤ) (n : ℕ) → pos 1 ≤ℤ b → a ≤ℤ pos n → quotient_floor a b ≤ℤ pos n
quotient_small (pos a) (pos b) n h g = let less : a / b ≤ a = div-le_self a b in omega (arith, ints)
quotient_small (negsuc a) b n h g = omega (arith, ints)
quotient_small (pos a) (negsuc b) n h g = absurd (omega (arith, ints, h))

pub rising_small : (l : Line) (m : ℤ) → IsLineInRange l → m ≡ int_max (quotient_floor (l.cap -ℤ l.speed) l.rise) (pos 0) → (pos 0 ≤ℤ m) × (nat_abs m ≤ 3_600_000)
rising_small l m r e =
    let rise = r.rise.low in
    let cap = r.cap.high in
    let speed = r.speed in
    let small = quotient_small (l.cap -ℤ l.speed) l.rise 3_600_000 rise (omega (arith, ints)) in
    (omega (arith, ints, clamps, e), omega (arith, ints, clamps, e))

-- ---- the place at a tick, before and after the bend

pub place_rising : (l : Line) (m k : ℕ) → IsLineInRange l → IsRising l m → k ≤ m → line_place l k ≡ risen_place l k
place_rising l m k r h below = let rise = r.rise.low in let up : pos 0 ≤ℤ l.rise = omega (arith, ints) in line_place-free l k up (free_below l k m up below h.free)

pub place_at_cap : (l : Line) (m k : ℕ) → IsLineInRange l → IsRising l m → m < k → line_place l k ≡ risen_place l m +ℤ bend_way l m +ℤ pos (k - m - 1) *ℤ capped_way l
place_at_cap l m k r h above =
    let rise = r.rise.low in
    let up : pos 0 ≤ℤ l.rise = omega (arith, ints) in
    let same : suc (m + (k - m - 1)) ≡ k = omega arith in
    let bent = line_place-capped l m (k - m - 1) up h in
    let risen = line_place-free l m up h.free in
    rw (same, risen) at bent
