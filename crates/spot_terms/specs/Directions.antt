-- The polynomial cosine and sine of an angle in µrad, the start velocities of a speed and an angle, and the box that
-- is computed for them.
use Rattle.std.specs.Prelude.{◌≡◌, ℕ, zero, suc, ◌+◌, ◌-◌, ◌*◌, ◌/◌, ◌%◌, ◌^◌, ◌==◌, ◌≤◌, if◌then◌else◌, ℤ, pos, neg_ℤ, ◌+ℤ◌, ◌-ℤ◌, ◌*ℤ◌, int_lt, nat_abs, nat_le, [], ◌∷◌, map, true, false, refl}
use Rattle.std.specs.Int.{int_pow}
use Rattle.spot_terms.specs.Whole.{square, quotient_floor, quotient_ceiling}
use Rattle.spot_terms.specs.declared.plain.VBox.{VBox}

unfoldable pub factorial : ℕ → ℕ
factorial zero = 1
factorial (suc n) = suc n * factorial n

-- (-1)^k · z
unfoldable pub alternating : ℕ → ℤ → ℤ
alternating k z = (if (k % 2) == 0 then z else neg_ℤ z)

-- ---- the exact polynomials, over one denominator

-- 10^240 · 40!
unfoldable pub denominator : ℕ
denominator = 10 ^ 240 * factorial 40

-- t^j · 10^(6(40 - j)) · 40! / j!
unfoldable pub exact_term : ℤ → ℕ → ℤ
exact_term t j = int_pow t j *ℤ pos (10 ^ (6 * (40 - j)) * (factorial 40 / factorial j))

-- the terms of t^odd, t^(2 + odd) and so on up to t^(2k + odd), added and taken away in turn
unfoldable pub polynomial : ℤ → ℕ → ℕ → ℤ
polynomial t odd zero = exact_term t odd
polynomial t odd (suc k) = polynomial t odd k +ℤ alternating (suc k) (exact_term t (2 * suc k + odd))

-- the cosine up to t^40, and the sine up to t^39
abbrev pub cosine : ℤ → ℤ
cosine t = polynomial t 0 20

abbrev pub sine : ℤ → ℤ
sine t = polynomial t 1 19

-- v is within 1 of the speed times p over the denominator
abbrev pub IsWithinOne : ℤ → ℤ → ℤ → Type 0
IsWithinOne v speed p = nat_abs (v *ℤ pos denominator -ℤ speed *ℤ p) ≤ denominator

-- a whole velocity within 1 of the speed times the cosine and the sine
pub record IsStartVelocity (speed angle vx vy : ℤ) : Type 0 where
  pub x : IsWithinOne vx speed (cosine angle)
  pub y : IsWithinOne vy speed (sine angle)

-- ---- the start box: each term from the one before, rounded down

-- odd is 0 for the cosine and 1 for the sine; z is the angle's square
unfoldable pub rough_term : ℕ → ℕ → ℕ → ℕ → ℕ
rough_term first odd z zero = first
rough_term first odd z (suc k) = rough_term first odd z k * z / (10 ^ 12 * ((2 * k + 1 + odd) * (2 * k + 2 + odd)))

-- the terms up to k, added and taken away in turn
unfoldable pub rough_sum : ℕ → ℕ → ℕ → ℕ → ℤ
rough_sum first odd z zero = pos first
rough_sum first odd z (suc k) = rough_sum first odd z k +ℤ alternating (suc k) (pos (rough_term first odd z (suc k)))

-- 10^18 times the cosine and the sine, nearly
abbrev pub rough_cosine : ℤ → ℤ
rough_cosine t = rough_sum (10 ^ 18) 0 (square t) 20

abbrev pub rough_sine : ℤ → ℤ
rough_sine t = let s = rough_sum (nat_abs t * 10 ^ 12) 1 (square t) 19 in (if int_lt t (pos 0) then neg_ℤ s else s)

-- the ends of a side of the box
abbrev pub least_speed : ℤ → ℤ → ℤ
least_speed speed part = quotient_floor (speed *ℤ part) (pos (10 ^ 18)) -ℤ pos 1

abbrev pub greatest_speed : ℤ → ℤ → ℤ
greatest_speed speed part = quotient_ceiling (speed *ℤ part) (pos (10 ^ 18)) +ℤ pos 1

unfoldable pub start_box : ℤ → ℤ → VBox
start_box speed angle = record {
  xlo = least_speed speed (rough_cosine angle);
  xhi = greatest_speed speed (rough_cosine angle);
  ylo = least_speed speed (rough_sine angle);
  yhi = greatest_speed speed (rough_sine angle);
}

-- ---- examples

row_slanted : start_box (pos 10000) (pos 785398) ≡ record { xlo = pos 7070; xhi = pos 7073; ylo = pos 7070; yhi = pos 7073 }
unfolding start_box rough_sum rough_term alternating
row_slanted = refl

row_still : start_box (pos 0) (pos 0) ≡ record { xlo = neg_ℤ (pos 1); xhi = pos 1; ylo = neg_ℤ (pos 1); yhi = pos 1 }
unfolding start_box rough_sum rough_term alternating
row_still = refl

row_cosine : cosine (pos 0) ≡ pos denominator
unfolding denominator factorial polynomial exact_term alternating
row_cosine = refl

row_sine : sine (pos 0) ≡ pos 0
unfolding denominator factorial polynomial exact_term alternating
row_sine = refl

-- the start velocities along x of 10 m/s at about an eighth of a turn are 7071 and 7072
row_velocities : map (λ v. nat_le (nat_abs (pos v *ℤ pos denominator -ℤ pos 10000 *ℤ cosine (pos 785398))) denominator) (7070 ∷ 7071 ∷ 7072 ∷ 7073 ∷ []) ≡ false ∷ true ∷ true ∷ false ∷ []
unfolding denominator factorial polynomial exact_term alternating
row_velocities = refl
