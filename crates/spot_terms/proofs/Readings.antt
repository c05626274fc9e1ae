-- The reading of a fraction: there is one, and only one.
use Rattle.std.proofs.Common.{refl, zero, ◌≡◌, ℕ, suc, ◌+◌, ◌*◌, ◌/◌, ◌^◌, ◌<◌, ◌≤◌, ℤ, pos, negsuc, neg_ℤ, ◌-ℤ◌, ◌*ℤ◌, sym, ap, arith}
use Rattle.std.specs.Prelude.{nat_abs}
use Rattle.std.proofs.lemmas.Bool.{cases_lt}
use Rattle.std.proofs.Common.{inl, inr}
use Rattle.std.proofs.lemmas.Int.{ints}
use Rattle.std.proofs.Math.Nat.{pow-suc, zero-mul, div-mul-le_self, le-div_iff_mul-le}
use Rattle.spot_terms.specs.Decimal.{bottom, Fraction, IsReading, ReadingIsOne, EachHasReading}

-- two readings of one fraction have the same size
same_size : (places : ℕ) (f : Fraction) (r q : ℤ) → IsReading places f r → IsReading places f q → nat_abs r ≡ nat_abs q
same_size places f r q a b = omega (arith, a.away q b.near, b.away r a.near)

-- no whole number and its negative are both near
apart : (d p : ℕ) (t : ℤ) → d ≤ p → 0 < d → nat_abs (pos 2 *ℤ (pos p -ℤ t)) ≤ d → nat_abs (pos 2 *ℤ (neg_ℤ (pos p) -ℤ t)) ≤ d → ⊥
apart d p t big some a b = omega (arith, ints, a, b)

grows : (m d : ℕ) → d ≤ suc m * d
grows m d = grind arith

opposite : (d n m : ℕ) (t : ℤ) → 0 < d → n ≡ suc m → nat_abs (pos 2 *ℤ (pos (n * d) -ℤ t)) ≤ d → nat_abs (pos 2 *ℤ (neg_ℤ (pos (suc m * d)) -ℤ t)) ≤ d → ⊥
opposite d n m t some e a b = apart d (suc m * d) t (grows m d) some (rw e at a) b

pub ten_pos : (n : ℕ) → 0 < 10 ^ n
ten_pos zero = omega arith
ten_pos (suc n) = rw pow-suc (omega (arith, ten_pos n))

pub reads_one : ReadingIsOne
reads_one places f (pos n) (pos m) a b = ap pos (same_size places f (pos n) (pos m) a b)
reads_one places f (negsuc n) (negsuc m) a b = ap negsuc (omega (arith, same_size places f (negsuc n) (negsuc m) a b))
reads_one places f (pos n) (negsuc m) a b = absurd (opposite (bottom f) n m (f.top *ℤ pos (10 ^ places)) (ten_pos f.tens) (same_size places f (pos n) (negsuc m) a b) a.near b.near)
reads_one places f (negsuc n) (pos m) a b = absurd (opposite (bottom f) m n (f.top *ℤ pos (10 ^ places)) (ten_pos f.tens) (sym (same_size places f (negsuc n) (pos m) a b)) b.near a.near)

-- ---- the reading as a quotient

-- of the size t over d: the quotient of twice that and the bottom by twice the bottom
rounded : ℕ → ℕ → ℕ
rounded t d = (2 * t + d) / (2 * d)

quotient_low : (x n : ℕ) → x / n * n ≤ x
quotient_low x n = div-mul-le_self x n

pub quotient_high : (x n : ℕ) → 0 < n → x < (x / n + 1) * n
quotient_high x n h = elim (cases_lt x ((x / n + 1) * n)) [ inl l ↦ l | inr g ↦ absurd (omega (arith, (le-div_iff_mul-le {k = n} {x = x / n + 1} {y = x} h).1 g)) ]

rounded_near : (t d : ℕ) → 0 < d → (2 * (rounded t d * d) ≤ 2 * t + d) × (2 * t < 2 * (rounded t d * d) + d)
unfolding rounded
rounded_near t d h = let low = quotient_low (2 * t + d) (2 * d) in let high : 2 * t + d < ((2 * t + d) / (2 * d) + 1) * (2 * d) = quotient_high (2 * t + d) (2 * d) (omega arith) in
    let q : ℕ = (2 * t + d) / (2 * d) in
    (omega (arith, low), omega (arith, high))

-- a number that is near isn't farther from zero
rounded_most : (t d q : ℕ) → 0 < d → 2 * (q * d) ≤ 2 * t + d → q ≤ rounded t d
unfolding rounded
rounded_most t d q h e = (le-div_iff_mul-le {k = 2 * d} {x = q} {y = 2 * t + d} (omega arith)).1 (omega arith)

-- ---- the reading by that quotient, with the sign of the top

reading_of : ℤ → ℕ → ℤ
reading_of (pos t) d = pos (rounded t d)
reading_of (negsuc t) d = neg_ℤ (pos (rounded (suc t) d))

pub near_pos : (r t d : ℕ) → 2 * (r * d) ≤ 2 * t + d → 2 * t < 2 * (r * d) + d → nat_abs (pos 2 *ℤ (pos (r * d) -ℤ pos t)) ≤ d
near_pos r t d a b = omega (arith, ints, a, b)

pub near_neg : (r t d : ℕ) → 2 * (r * d) ≤ 2 * t + d → 2 * t < 2 * (r * d) + d → nat_abs (pos 2 *ℤ (neg_ℤ (pos (r * d)) -ℤ neg_ℤ (pos t))) ≤ d
near_neg r t d a b = omega (arith, ints, a, b)

pub most_pos : (q t d : ℕ) → nat_abs (pos 2 *ℤ (pos (q * d) -ℤ pos t)) ≤ d → 2 * (q * d) ≤ 2 * t + d
most_pos q t d a = omega (arith, ints, a)

pub most_other : (q t d : ℕ) → nat_abs (pos 2 *ℤ (neg_ℤ (pos (q * d)) -ℤ pos t)) ≤ d → 2 * (q * d) ≤ 2 * t + d
most_other q t d a = omega (arith, ints, a)

-- t over d, to the nearest
pub record IsNearest (d : ℕ) (t r : ℤ) : Type 0 where
  pub near : nat_abs (pos 2 *ℤ (r *ℤ pos d -ℤ t)) ≤ d
  pub away : (q : ℤ) → nat_abs (pos 2 *ℤ (q *ℤ pos d -ℤ t)) ≤ d → nat_abs q ≤ nat_abs r

pub size_of_neg : (r : ℕ) → nat_abs (neg_ℤ (pos r)) ≡ r
size_of_neg zero = refl
size_of_neg (suc r) = refl

pub times_neg : (r d : ℕ) → neg_ℤ (pos r) *ℤ pos d ≡ neg_ℤ (pos (r * d))
times_neg zero d = rw zero-mul refl
times_neg (suc r) d = refl

most_for : (t d : ℕ) → 0 < d → (q : ℤ) → nat_abs (pos 2 *ℤ (q *ℤ pos d -ℤ pos t)) ≤ d → nat_abs q ≤ rounded t d
most_for t d h (pos q) e = rounded_most t d q h (most_pos q t d e)
most_for t d h (negsuc q) e = rounded_most t d (suc q) h (most_other (suc q) t d e)

-- the same below zero
pub most_mirror : (q t d : ℕ) → nat_abs (pos 2 *ℤ (neg_ℤ (pos (q * d)) -ℤ neg_ℤ (pos t))) ≤ d → 2 * (q * d) ≤ 2 * t + d
most_mirror q t d a = omega (arith, ints, a)

pub most_against : (q t d : ℕ) → nat_abs (pos 2 *ℤ (pos (q * d) -ℤ neg_ℤ (pos t))) ≤ d → 2 * (q * d) ≤ 2 * t + d
most_against q t d a = omega (arith, ints, a)

most_below : (t d : ℕ) → 0 < d → (q : ℤ) → nat_abs (pos 2 *ℤ (q *ℤ pos d -ℤ neg_ℤ (pos t))) ≤ d → nat_abs q ≤ rounded t d
most_below t d h (pos q) e = rounded_most t d q h (most_against q t d e)
most_below t d h (negsuc q) e = rounded_most t d (suc q) h (most_mirror (suc q) t d e)

nearest : (d : ℕ) (t : ℤ) → 0 < d → (r : ℤ) × IsNearest d t r
nearest d (pos t) h = let k = rounded_near t d h in (pos (rounded t d), record { near = near_pos (rounded t d) t d k.0 k.1; away = most_for t d h })
nearest d (negsuc t) h = let k = rounded_near (suc t) d h in (
  neg_ℤ (pos (rounded (suc t) d)),
  record {
    near = rw times_neg (near_neg (rounded (suc t) d) (suc t) d k.0 k.1);
    away = λ q e. rw size_of_neg (most_below (suc t) d h q e);
  },
)

pub each_has : EachHasReading
each_has places f = let k = nearest (bottom f) (f.top *ℤ pos (10 ^ places)) (ten_pos f.tens) in (k.0, record { near = k.1.near; away = k.1.away })
