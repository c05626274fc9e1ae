-- The parts of a decimal text, and the nearest whole number to a quotient.
use Rattle.std.specs.Prelude.{◌≡◌, ℕ, ◌+◌, ◌-◌, ◌*◌, ◌^◌, ◌<◌, ◌≤◌, List, ◌++◌, length, take, drop, min, Bool, true, false, Option, Some, None, if◌then◌else◌}
use Rattle.std.specs.Str.Parse.{digits_value}
use Rattle.spot_terms.specs.Decimal.{are_digits, digits_part, exponent_part, fraction_of, head_part, is_exponent, scaled, tail_part}

-- what stands before a place, and what stands behind it
abbrev pub head_to : Option ℕ → List ℕ → List ℕ
head_to None text = text
head_to (Some i) text = take i text

abbrev pub tail_from : Option ℕ → List ℕ → Option (List ℕ)
tail_from None text = None
tail_from (Some i) text = Some (drop (i + 1) text)

-- what stands behind the `e`, if there is one: whether the exponent is negative, and its size
abbrev pub power_part : Option (List ℕ) → Option (Bool × ℕ)
power_part None = Some (false, 0)
power_part (Some text) = exponent_part text

-- the exponent has this sign, and this is its size, or 1000 where that is less
pub record IsPowerWritten (tail : Option (List ℕ)) (minus : Bool) (size : ℕ) : Type 0 where
  pub exponent : ℕ
  pub is : power_part tail ≡ Some (minus, exponent)
  pub least : size ≡ min exponent 1000

-- the text is a decimal of these parts
pub record IsWritten (text : List ℕ) (minus : Bool) (whole part : List ℕ) (shrinks : Bool) (size : ℕ) : Type 0 where
  pub exponent : ℕ
  pub is : fraction_of text ≡ Some (scaled minus (digits_value 10 (whole ++ part)) (length part) (shrinks, exponent))
  pub least : size ≡ min exponent 1000
  pub whole_digits : are_digits whole ≡ true
  pub part_digits : are_digits part ≡ true
  pub short : length whole + length part ≤ length text

-- the number that the first digits write, with zeros behind the last
abbrev pub front : List ℕ → ℕ → ℕ
front digits places = digits_value 10 (take places digits) * 10 ^ (places - length digits)

-- a place moved by an exponent
abbrev pub kept : Bool → ℕ → ℕ → ℕ
kept shrinks place size = if shrinks then place - size else place + size

-- r is the whole number nearest to n / d, and of two the greater
pub record IsNearest (n d r : ℕ) : Type 0 where
  pub low : 2 * (r * d) ≤ 2 * n + d
  pub high : 2 * n + d < 2 * (r * d) + 2 * d

-- the same of digits, a point before the last of them, an exponent and places
abbrev pub IsNearestTo : List ℕ → List ℕ → Bool → ℕ → ℕ → ℕ → Type 0
IsNearestTo whole part shrinks e places r = IsNearest (digits_value 10 (whole ++ part) * 10 ^ (places + (if shrinks then 0 else e))) (10 ^ (length part + (if shrinks then e else 0))) r

-- the text is digits with a point among them maybe, and nothing else: how many stand behind the point, and the number of all
pub record IsPlain (text : List ℕ) (part value : ℕ) : Type 0 where
  pub digits : digits_part text ≡ Some (part, value)
  pub head : head_part is_exponent text ≡ text
  pub tail : tail_part is_exponent text ≡ None

-- r is a number of these digits behind the point in units 10^-places
pub record IsPlainSize (value part places r : ℕ) : Type 0 where
  pub few : part ≤ places
  pub same : r ≡ value * 10 ^ (places - part)
