-- Decimal texts: the fraction that a text stands for, and its reading to the nearest whole number of units.
use Rattle.std.specs.Prelude.{◌≡◌, ℕ, ◌+◌, ◌*◌, ◌^◌, ◌≤◌, List, [], ◌∷◌, ◌++◌, length, Bool, true, false, ◌&&◌, ◌||◌, ◌==◌, nat_lt, ℤ, pos, neg_ℤ, nat_abs, ◌*ℤ◌, ◌-ℤ◌, Option, Some, None, option_map, option_and_then, if◌then◌else◌, codes, refl}
use Rattle.std.specs.List.{list_all}
use Rattle.std.specs.Char.{is_ascii_digit}
use Rattle.std.specs.Str.Parse.{digits_value}

-- ---- the text

-- top / 10^tens
pub record Fraction : Type 0 where
  pub top : ℤ
  pub tens : ℕ

abbrev pub bottom : Fraction → ℕ
bottom f = 10 ^ f.tens

-- what stands in front of the first of these bytes, and what stands behind it, if there is one
abbrev pub head_part : (ℕ → Bool) → List ℕ → List ℕ
head_part p [] = []
head_part p (c ∷ cs) = if p c then [] else c ∷ head_part p cs

abbrev pub tail_part : (ℕ → Bool) → List ℕ → Option (List ℕ)
tail_part p [] = None
tail_part p (c ∷ cs) = if p c then Some cs else tail_part p cs

-- an optional sign, and the rest: whether it is a minus
abbrev pub signed_part : List ℕ → Bool × List ℕ
signed_part [] = (false, [])
signed_part (c ∷ cs) = if c == 45 then (true, cs) else if c == 43 then (false, cs) else (false, c ∷ cs)

abbrev pub are_digits : List ℕ → Bool
are_digits cs = list_all is_ascii_digit cs

-- the number of digits, where there is no other byte
abbrev pub digits_of : List ℕ → Option ℕ
digits_of text = (if are_digits text then Some (digits_value 10 text) else None)

abbrev pub is_point : ℕ → Bool
is_point c = c == 46

abbrev pub is_exponent : ℕ → Bool
is_exponent c = (c == 101) || (c == 69)

-- digits with at most one point, and at least one digit: how many digits stand behind the point, and the number of all
abbrev pub digits_part : List ℕ → Option (ℕ × ℕ)
digits_part cs = let whole = head_part is_point cs in elim (tail_part is_point cs) [
  | None ↦ if are_digits whole && nat_lt 0 (length whole) then Some (0, digits_value 10 whole) else None
  | Some part ↦ if are_digits whole && are_digits part && nat_lt 0 (length whole + length part)
      then Some (length part, digits_value 10 (whole ++ part)) else None
]

-- an optional sign and at least one digit: whether it is negative, and its size
abbrev pub exponent_part : List ℕ → Option (Bool × ℕ)
exponent_part cs = let s = signed_part cs in
    if are_digits s.1 && nat_lt 0 (length s.1) then Some (s.0, digits_value 10 s.1) else None

abbrev pub signed : Bool → ℕ → ℤ
signed true n = neg_ℤ (pos n)
signed false n = pos n

-- m · 10^-places · 10^±e
abbrev pub scaled : Bool → ℕ → ℕ → Bool × ℕ → Fraction
scaled minus m places (false, e) = record { top = signed minus (m * 10 ^ e); tens = places }
scaled minus m places (true, e) = record { top = signed minus m; tens = places + e }

-- the fraction that a text stands for, where it is a decimal
unfoldable pub fraction_of : List ℕ → Option Fraction
fraction_of text = let s = signed_part text in
    option_and_then (λ d. option_map (λ e. scaled s.0 d.1 d.0 e)
    (elim (tail_part is_exponent s.1) [ None ↦ Some (false, 0) | Some cs ↦ exponent_part cs ]))
    (digits_part (head_part is_exponent s.1))

-- ---- the reading

-- r is a whole number of units 10^-places nearest to f, and of two that are equally near the one farther from zero
pub record IsReading (places : ℕ) (f : Fraction) (r : ℤ) : Type 0 where
  pub near : nat_abs (pos 2 *ℤ (r *ℤ pos (bottom f) -ℤ f.top *ℤ pos (10 ^ places))) ≤ bottom f
  pub away : (q : ℤ) → nat_abs (pos 2 *ℤ (q *ℤ pos (bottom f) -ℤ f.top *ℤ pos (10 ^ places))) ≤ bottom f → nat_abs q ≤ nat_abs r

-- the text is a decimal, and r is its reading with these places
pub record Reads (places : ℕ) (text : List ℕ) (r : ℤ) : Type 0 where
  pub fraction : Fraction
  pub decimal : fraction_of text ≡ Some fraction
  pub reading : IsReading places fraction r

-- ---- examples

row_tie : fraction_of (codes "0.0000005") ≡ Some (record { top = pos 5; tens = 7 })
unfolding fraction_of
row_tie = refl

row_minus : fraction_of (codes "-0.0000005") ≡ Some (record { top = neg_ℤ (pos 5); tens = 7 })
unfolding fraction_of
row_minus = refl

row_exponent : fraction_of (codes "1e-05") ≡ Some (record { top = pos 1; tens = 5 })
unfolding fraction_of
row_exponent = refl

row_point : fraction_of (codes ".") ≡ None
unfolding fraction_of
row_point = refl

-- a fraction has at most one reading
abbrev pub ReadingIsOne : Type 0
ReadingIsOne = (places : ℕ) (f : Fraction) (r q : ℤ) → IsReading places f r → IsReading places f q → r ≡ q

-- a fraction has a reading
abbrev pub EachHasReading : Type 0
EachHasReading = (places : ℕ) (f : Fraction) → (r : ℤ) × IsReading places f r
