-- The reading of a decimal by its sign and its rounded size.
use Rattle.std.proofs.Common.{◌≡◌, ◌∙◌, ℕ, suc, ◌+◌, ◌*◌, ◌^◌, ◌<◌, ◌≤◌, ℤ, pos, negsuc, neg_ℤ, ◌-ℤ◌, ◌*ℤ◌, Bool, true, false, List, ◌++◌, length, Some, inl, inr, ap, sym, refl, subst, arith, if◌then◌else◌}
use Rattle.std.specs.Prelude.{nat_abs, FitsSigned}
use Rattle.std.proofs.lemmas.Int.{ints, to_z-of_z}
use mir.Syntax.{w128}
use mir.Val.{to_z, of_z}
use Rattle.std.specs.Str.Parse.{digits_value}
use Rattle.std.proofs.lemmas.Bool.{cases_lt}
use Rattle.std.proofs.lemmas.Nat.{pow-add}
use Rattle.std.proofs.Math.Nat.{mul-le-mul_left}
use Rattle.spot_terms.specs.Decimal.{Fraction, IsReading, Reads, scaled, signed}
use Rattle.spot_terms.proofs.Readings.{near_pos, near_neg, most_pos, most_other, most_mirror, most_against, size_of_neg, times_neg, reads_one}
use Rattle.spot_decimal.specs.Written.{IsNearest, IsNearestTo, IsWritten}

at_most : (t d r q : ℕ) → IsNearest t d r → 2 * (q * d) ≤ 2 * t + d → q ≤ r
at_most t d r q h e = elim (cases_lt r q) [
  | inl l ↦ let k : d * suc r ≤ d * q = mul-le-mul_left d l in absurd (omega (arith, k, h.high, e))
  | inr g ↦ g
]

away_pos : (t d r : ℕ) → IsNearest t d r → (q : ℤ) → nat_abs (pos 2 *ℤ (q *ℤ pos d -ℤ pos t)) ≤ d → nat_abs q ≤ r
away_pos t d r h (pos q) e = at_most t d r q h (most_pos q t d e)
away_pos t d r h (negsuc q) e = at_most t d r (suc q) h (most_other (suc q) t d e)

away_neg : (t d r : ℕ) → IsNearest t d r → (q : ℤ) → nat_abs (pos 2 *ℤ (q *ℤ pos d -ℤ neg_ℤ (pos t))) ≤ d → nat_abs q ≤ r
away_neg t d r h (pos q) e = at_most t d r q h (most_against q t d e)
away_neg t d r h (negsuc q) e = at_most t d r (suc q) h (most_mirror (suc q) t d e)

-- the nearest size with its sign is the reading
signed_reading : (minus : Bool) (top tens places r : ℕ) → IsNearest (top * 10 ^ places) (10 ^ tens) r → IsReading places (record { top = signed minus top; tens = tens }) (signed minus r)
signed_reading false top tens places r h = record {
  near = near_pos r (top * 10 ^ places) (10 ^ tens) h.low (omega (arith, h.high));
  away = away_pos (top * 10 ^ places) (10 ^ tens) r h;
}
signed_reading true top tens places r h = record {
  near = rw (times_neg r (10 ^ tens), times_neg top (10 ^ places)) (near_neg r (top * 10 ^ places) (10 ^ tens) h.low (omega (arith, h.high)));
  away = rw (size_of_neg r, times_neg top (10 ^ places)) (away_neg (top * 10 ^ places) (10 ^ tens) r h);
}

pub reading_is : (minus : Bool) (m tens : ℕ) (shrinks : Bool) (e places r : ℕ) → IsNearest (m * 10 ^ (places + (if shrinks then 0 else e))) (10 ^ (tens + (if shrinks then e else 0))) r → IsReading places (scaled minus m tens (shrinks, e)) (signed minus r)
reading_is minus m tens true e places r h = let z : places + 0 ≡ places = omega arith in signed_reading minus m (tens + e) places r (rw z at h)
reading_is minus m tens false e places r h =
    let z : tens + 0 ≡ tens = omega arith in
    let p : m * 10 ^ (places + e) ≡ m * 10 ^ e * 10 ^ places = omega (arith, ap (λ (k : ℕ). m * k) (pow-add 10 places e)) in
    signed_reading minus (m * 10 ^ e) tens places r (rw (z, p) at h)

reads : (text : List ℕ) (minus : Bool) (whole part : List ℕ) (shrinks : Bool) (size places r : ℕ) (k : IsWritten text minus whole part shrinks size) → IsNearestTo whole part shrinks k.exponent places r → Reads places text (signed minus r)
reads text minus whole part shrinks size places r k h = record {
  fraction = scaled minus (digits_value 10 (whole ++ part)) (length part) (shrinks, k.exponent);
  decimal = k.is;
  reading = reading_is minus (digits_value 10 (whole ++ part)) (length part) shrinks k.exponent places r h;
}

-- a text has one reading
pub reads_once : (places : ℕ) (text : List ℕ) (r q : ℤ) → Reads places text r → Reads places text q → r ≡ q
reads_once places text r q a b =
    let s : Some a.fraction ≡ Some b.fraction = sym a.decimal ∙ b.decimal in
    let e : a.fraction ≡ b.fraction = cc in
    reads_one places b.fraction r q (subst (λ (f : Fraction). IsReading places f r) e a.reading) b.reading

pub size_signed : (minus : Bool) (r : ℕ) → nat_abs (signed minus r) ≡ r
size_signed true r = size_of_neg r
size_signed false r = refl

pub signed_fits : (minus : Bool) (r : ℕ) → r ≤ 10 ^ 18 → FitsSigned w128 (signed minus r)
signed_fits true r h = omega (arith, ints, h)
signed_fits false r h = omega (arith, ints, h)

-- the number that is given, in 128 bits
pub answered : (text : List ℕ) (minus : Bool) (whole part : List ℕ) (shrinks : Bool) (size places r : ℕ) (z : ℤ) (k : IsWritten text minus whole part shrinks size) → IsNearestTo whole part shrinks k.exponent places r → r ≤ 10 ^ 18 → z ≡ signed minus r → Reads places text (to_z w128 (of_z w128 z)) × (nat_abs (to_z w128 (of_z w128 z)) ≤ 10 ^ 18)
answered text minus whole part shrinks size places r z k h few e =
    let same : to_z w128 (of_z w128 z) ≡ z = to_z-of_z w128 z (rw e (signed_fits minus r few)) in
    rw (same, e) (reads text minus whole part shrinks size places r k h, omega (arith, size_signed minus r, few))

-- it leaves no reading beyond the limit
pub none_beyond : (places : ℕ) (text : List ℕ) (r z : ℤ) → Reads places text r → Reads places text z → 10 ^ 18 < nat_abs r → nat_abs z ≤ 10 ^ 18 → ⊥
none_beyond places text r z a b big few = omega (arith, ap nat_abs (reads_once places text r z a b), big, few)

-- a reading beyond the limit
pub beyond : (text : List ℕ) (minus : Bool) (whole part : List ℕ) (shrinks : Bool) (size places : ℕ) (k : IsWritten text minus whole part shrinks size) → ((r : ℕ) × (IsNearestTo whole part shrinks k.exponent places r × (10 ^ 18 < r))) → (z : ℤ) × (Reads places text z × (10 ^ 18 < nat_abs z))
beyond text minus whole part shrinks size places k h = (signed minus h.0, (reads text minus whole part shrinks size places h.0 k h.1.0, omega (arith, size_signed minus h.0, h.1.1)))
