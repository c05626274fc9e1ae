-- Texts that are read exactly, and the checks of a number that they pass.
use Rattle.std.proofs.Common.{◌≡◌, ◌⊎◌, inl, inr, ℕ, zero, suc, ◌+◌, ◌*◌, ◌^◌, ◌<◌, ◌≤◌, ℤ, pos, negsuc, ◌-ℤ◌, ◌*ℤ◌, ◌<ℤ◌, ◌≤ℤ◌, Bool, true, false, not, ◌&&◌, ◌==◌, List, Option, Some, None, refl, sym, subst, arith}
use Rattle.std.specs.Prelude.{nat_abs}
use Rattle.std.proofs.lemmas.Int.{ints}
use Rattle.std.proofs.lemmas.Bool.{and_parts}
use Rattle.std.proofs.lemmas.Bool.Decides.{nat_tests}
use Rattle.spot_terms.specs.Decimal.{Fraction, fraction_of, IsReading, Reads}
use Rattle.spot_terms.proofs.Readings.{ten_pos, most_pos, most_other}
use Rattle.spot_claims.specs.Profile.{Number, is_bad_number, IsTooLarge, IsOutside, coordinate, size, angle, speed, step_number}
use Rattle.spot_decimal.proofs.Signs.{reads_once}

-- ---- a fraction that is a whole number of units

no_more : (q k d : ℕ) → 0 < d → 2 * (q * d) ≤ 2 * (k * d) + d → q ≤ k
no_more q zero d some h = at_zero q d some h
  where
    at_zero : (q d : ℕ) → 0 < d → 2 * (q * d) ≤ 2 * (zero * d) + d → q ≤ zero
    at_zero zero d some h = omega arith
    at_zero (suc q) d some h = absurd (grind arith)
no_more zero (suc k) d some h = omega arith
no_more (suc q) (suc k) d some h = omega (arith, no_more q k d some (grind arith))

not_farther : (k d : ℕ) → 0 < d → (q : ℤ) → nat_abs (pos 2 *ℤ (q *ℤ pos d -ℤ pos (k * d))) ≤ d → nat_abs q ≤ k
not_farther k d some (pos q) h = no_more q k d some (most_pos q (k * d) d h)
not_farther k d some (negsuc q) h = no_more (suc q) k d some (most_other (suc q) (k * d) d h)

no_distance : (n d : ℕ) → nat_abs (pos 2 *ℤ (pos n -ℤ pos n)) ≤ d
no_distance n d = omega (arith, ints)

whole_reading : (places t tens k : ℕ) → t * 10 ^ places ≡ k * 10 ^ tens → IsReading places (record { top = pos t; tens = tens }) (pos k)
whole_reading places t tens k e =
    let d : ℕ = 10 ^ tens in
    let P : ℕ → Type 0 = λ n. nat_abs (pos 2 *ℤ (pos (k * d) -ℤ pos n)) ≤ d in
    let Q : ℕ → Type 0 = λ n. (q : ℤ) → nat_abs (pos 2 *ℤ (q *ℤ pos d -ℤ pos n)) ≤ d → nat_abs q ≤ k in
    record {
      near = subst P (sym e) (no_distance (k * d) d);
      away = subst Q (sym e) (not_farther k d (ten_pos tens));
    }

-- ---- the test

abbrev is_whole : ℕ → ℕ → ℤ → ℕ → Bool
is_whole places k (pos t) tens = t * 10 ^ places == k * 10 ^ tens
is_whole places k (negsuc t) tens = false

abbrev is_exact : ℕ → ℕ → Option Fraction → Bool
is_exact places k None = false
is_exact places k (Some f) = is_whole places k f.top f.tens

-- the text is a decimal of at most 64 bytes, for k units and nothing beside
abbrev pub reads_as : ℕ → List ℕ → ℕ → Bool
reads_as places text k = not (is_bad_number text) && is_exact places k (fraction_of text)

from_top : (places k : ℕ) (text : List ℕ) (top : ℤ) (tens : ℕ) → fraction_of text ≡ Some (record { top = top; tens = tens }) → is_whole places k top tens ≡ true → Reads places text (pos k)
from_top places k text (pos t) tens e h = record { fraction = record { top = pos t; tens = tens }; decimal = e; reading = whole_reading places t tens k (grind (arith, nat_tests)) }
from_top places k text (negsuc t) tens e h = cc

from_some : (places k : ℕ) (text : List ℕ) (o : Option Fraction) → fraction_of text ≡ o → is_exact places k o ≡ true → Reads places text (pos k)
from_some places k text None e h = cc
from_some places k text (Some f) e h = from_top places k text f.top f.tens e h

not_first : (a b : Bool) → (not a && b) ≡ true → a ≡ false
not_first true b e = cc
not_first false b e = refl

pub exact_reads : (places k : ℕ) (text : List ℕ) → reads_as places text k ≡ true → Reads places text (pos k)
exact_reads places k text h = from_some places k text (fraction_of text) refl ((and_parts (not (is_bad_number text)) (is_exact places k (fraction_of text)) h).1)

pub exact_good : (places k : ℕ) (text : List ℕ) → reads_as places text k ≡ true → is_bad_number text ≡ false
exact_good places k text h = not_first (is_bad_number text) (is_exact places k (fraction_of text)) h

-- ---- in range

pub record Fits (n : Number) (text : List ℕ) : Type 0 where
  pub reading : ℕ
  pub good : is_bad_number text ≡ false
  pub reads : Reads n.places text (pos reading)
  pub low : n.least ≤ℤ pos reading
  pub high : pos reading ≤ℤ n.most
  pub small : reading ≤ 10 ^ 18

not_large : (a : ℕ) (z : ℤ) → pos a ≡ z → a ≤ 10 ^ 18 → 10 ^ 18 < nat_abs z → ⊥
not_large a z e h k =
    let P : ℤ → Type 0 = λ y. 10 ^ 18 < nat_abs y in
    let large : 10 ^ 18 < a = subst P (sym e) k in omega arith

not_outside : (a b : ℤ) (y : ℤ) → a ≤ℤ y → y ≤ℤ b → (y <ℤ a) ⊎ (b <ℤ y) → ⊥
not_outside a b y h k (inl l) = omega (arith, ints, h, k, l)
not_outside a b y h k (inr g) = omega (arith, ints, h, k, g)

pub in_range : (n : Number) (text : List ℕ) → Fits n text → IsTooLarge n.places text ⊎ IsOutside n text → ⊥
in_range n text f (inl large) = not_large f.reading large.reading (reads_once n.places text (pos f.reading) large.reading f.reads large.reads.reads) f.small large.large
in_range n text f (inr out) =
    let P : ℤ → Type 0 = λ y. (y <ℤ n.least) ⊎ (n.most <ℤ y) in
    not_outside n.least n.most (pos f.reading) f.low f.high (subst P (sym (reads_once n.places text (pos f.reading) out.reading f.reads out.reads.reads)) out.outside)

-- ---- the kinds of number

pub fits_coordinate : (text : List ℕ) (k : ℕ) → reads_as 6 text k ≡ true → k ≤ 10_000_000_000_000 → Fits coordinate text
fits_coordinate text k h few = record { reading = k; good = exact_good 6 k text h; reads = exact_reads 6 k text h; low = omega (arith, ints); high = omega (arith, ints); small = omega arith }

pub fits_size : (text : List ℕ) (k : ℕ) → reads_as 6 text k ≡ true → k ≤ 100_000_000 → Fits size text
fits_size text k h few = record { reading = k; good = exact_good 6 k text h; reads = exact_reads 6 k text h; low = omega (arith, ints); high = omega (arith, ints); small = omega arith }

pub fits_angle : (text : List ℕ) (k : ℕ) → reads_as 6 text k ≡ true → k ≤ 7_000_000 → Fits angle text
fits_angle text k h few = record { reading = k; good = exact_good 6 k text h; reads = exact_reads 6 k text h; low = omega (arith, ints); high = omega (arith, ints); small = omega arith }

pub fits_speed : (text : List ℕ) (k : ℕ) → reads_as 3 text k ≡ true → k ≤ 200_000 → Fits speed text
fits_speed text k h few = record { reading = k; good = exact_good 3 k text h; reads = exact_reads 3 k text h; low = omega (arith, ints); high = omega (arith, ints); small = omega arith }

pub fits_step : (text : List ℕ) (k : ℕ) → reads_as 0 text k ≡ true → k ≤ 1_000_000 → Fits step_number text
fits_step text k h few = record { reading = k; good = exact_good 0 k text h; reads = exact_reads 0 k text h; low = omega (arith, ints); high = omega (arith, ints); small = omega arith }
