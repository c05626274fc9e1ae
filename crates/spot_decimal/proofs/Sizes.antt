-- The tenths of a decimal are its first digits.
use Rattle.std.proofs.Common.{◌≡◌, ◌∙◌, ℕ, zero, suc, ◌+◌, ◌-◌, ◌*◌, ◌/◌, ◌^◌, ◌<◌, ◌≤◌, ◌⊎◌, inl, inr, min, Bool, true, false, List, ◌++◌, length, take, drop, ap, sym, refl, subst, arith, if◌then◌else◌, length-append, length-drop}
use Rattle.std.proofs.lemmas.Bool.{cases_lt}
use Rattle.std.proofs.lemmas.Nat.{pow-add}
use Rattle.std.proofs.lemmas.List.{take_all}
use Rattle.std.proofs.lemmas.Int.Digits.{digits_value-lt}
use Rattle.std.proofs.Math.Nat.{pow-le-pow_right, mul-le-mul_left}
use Rattle.std.specs.Str.Parse.{digits_value}
use Rattle.spot_terms.specs.Decimal.{are_digits}
use Rattle.spot_decimal.specs.Written.{front, kept, IsNearestTo}
use Rattle.spot_terms.proofs.Readings.{ten_pos}
use Rattle.spot_decimal.proofs.Fronts.{ten_next}
use Rattle.spot_decimal.proofs.Nearest.{IsTenths, nearest_tenths}
use Rattle.spot_decimal.proofs.Values.{digits_are, after_split, after_is, digits_back, digits_both}

-- the tenths of a decimal of these parts
abbrev IsTenthsOf : List ℕ → List ℕ → Bool → ℕ → ℕ → ℕ → Type 0
IsTenthsOf whole part shrinks e places t = IsTenths (digits_value 10 (whole ++ part) * 10 ^ (places + (if shrinks then 0 else e))) (10 ^ (length part + (if shrinks then e else 0))) t

past_ten : (t : ℕ) → 10 ^ 19 + 10 ≤ t → 10 ^ 18 < (t + 5) / 10
past_ten t h = omega (arith, h)

whole_of : (v w q p : ℕ) → p * q ≡ w * 10 → 0 < q → IsTenths (v * w) q (v * p)
whole_of v w q p e h = let f : v * (p * q) ≡ v * (w * 10) = ap (λ (k : ℕ). v * k) e in record { low = omega (arith, f); high = omega (arith, f, h) }

-- all digits are kept, with zeros behind them
tenths_whole : (v a b z : ℕ) → z + b ≡ a + 1 → IsTenths (v * 10 ^ a) (10 ^ b) (v * 10 ^ z)
tenths_whole v a b z e = whole_of v (10 ^ a) (10 ^ b) (10 ^ z) (sym (pow-add 10 z b) ∙ (ap (λ (k : ℕ). 10 ^ k) e ∙ ten_next a)) (ten_pos b)

cut_of : (f r p w d : ℕ) → d ≡ p * (w * 10) → r < p → 0 < w → IsTenths ((f * p + r) * w) d f
cut_of f r p w d e h pos = let g : w * suc r ≤ w * p = mul-le-mul_left w h in
    let k : f * d ≡ f * (p * (w * 10)) = ap (λ (x : ℕ). f * x) e in
    record { low = omega (arith, k); high = omega (arith, k, e, g, pos) }

-- some digits are kept
tenths_cut : (f r a m : ℕ) → r < 10 ^ m → IsTenths ((f * 10 ^ m + r) * 10 ^ a) (10 ^ (m + (a + 1))) f
tenths_cut f r a m h = cut_of f r (10 ^ m) (10 ^ a) (10 ^ (m + (a + 1))) (pow-add 10 m (a + 1) ∙ ap (λ (k : ℕ). 10 ^ m * k) (ten_next a)) h (ten_pos a)

none_of : (v p w d : ℕ) → p * (w * 10) ≤ d → v < p → 0 < w → IsTenths (v * w) d 0
none_of v p w d e h pos = let g : w * suc v ≤ w * p = mul-le-mul_left w h in record { low = omega arith; high = omega (arith, e, g, pos) }

-- none is kept
tenths_none : (v a b m : ℕ) → v < 10 ^ m → m + (a + 1) ≤ b → IsTenths (v * 10 ^ a) (10 ^ b) 0
tenths_none v a b m h e =
    let big : 10 ^ (m + (a + 1)) ≤ 10 ^ b = pow-le-pow_right (omega arith) e in
    none_of v (10 ^ m) (10 ^ a) (10 ^ b) (omega (arith, big, pow-add 10 m (a + 1), ap (λ (k : ℕ). 10 ^ m * k) (ten_next a))) h (ten_pos a)

value_below : (ds : List ℕ) → are_digits ds ≡ true → digits_value 10 ds < 10 ^ length ds
value_below ds h = digits_value-lt 10 ds (digits_are ds h)

value_cut : (k : ℕ) (ds : List ℕ) → digits_value 10 ds ≡ digits_value 10 (take k ds) * 10 ^ (length ds - k) + digits_value 10 (drop k ds)
value_cut k ds = let e : length (drop k ds) ≡ length ds - k = length-drop k ds in after_split 0 k ds ∙ (after_is (digits_value 10 (take k ds)) (drop k ds) ∙ rw e refl)

front_short : (k : ℕ) (ds : List ℕ) → k < length ds → front ds k ≡ digits_value 10 (take k ds)
front_short k ds h = let e : k - length ds ≡ 0 = omega arith in rw e (omega arith)

front_long : (k : ℕ) (ds : List ℕ) → length ds ≤ k → front ds k ≡ digits_value 10 ds * 10 ^ (k - length ds)
front_long k ds h = rw take_all refl

tenths_short : (a b k : ℕ) (ds : List ℕ) → are_digits ds ≡ true → k < length ds → k + b ≡ length ds + (a + 1) → IsTenths (digits_value 10 ds * 10 ^ a) (10 ^ b) (front ds k)
tenths_short a b k ds h l e =
    let left : b ≡ (length ds - k) + (a + 1) = omega (arith, e, l) in
    let size : length (drop k ds) ≡ length ds - k = length-drop k ds in
    let small : digits_value 10 (drop k ds) < 10 ^ (length ds - k) = rw size at (value_below (drop k ds) (digits_back k ds h)) in
    rw (front_short k ds l, value_cut k ds, left) (tenths_cut (digits_value 10 (take k ds)) (digits_value 10 (drop k ds)) a (length ds - k) small)

tenths_long : (a b k : ℕ) (ds : List ℕ) → length ds ≤ k → k + b ≡ length ds + (a + 1) → IsTenths (digits_value 10 ds * 10 ^ a) (10 ^ b) (front ds k)
tenths_long a b k ds l e = rw (front_long k ds l) (tenths_whole (digits_value 10 ds) a b (k - length ds) (omega (arith, e, l)))

front_tenths : (a b k : ℕ) (ds : List ℕ) → are_digits ds ≡ true → k + b ≡ length ds + (a + 1) → IsTenths (digits_value 10 ds * 10 ^ a) (10 ^ b) (front ds k)
front_tenths a b k ds h e = elim (cases_lt k (length ds)) [ inl l ↦ tenths_short a b k ds h l e | inr g ↦ tenths_long a b k ds g e ]

front_none : (a b : ℕ) (ds : List ℕ) → are_digits ds ≡ true → length ds + (a + 1) ≤ b → IsTenths (digits_value 10 ds * 10 ^ a) (10 ^ b) (front ds 0)
front_none a b ds h e = let z : front ds 0 ≡ 0 = omega arith in rw z (tenths_none (digits_value 10 ds) a b (length ds) (value_below ds h) e)

-- with an exponent that is less than none
tenths_less : (whole part : List ℕ) (e places : ℕ) → are_digits (whole ++ part) ≡ true → IsTenths (digits_value 10 (whole ++ part) * 10 ^ places) (10 ^ (length part + e)) (front (whole ++ part) (length whole + places + 1 - e))
tenths_less whole part e places h =
    let both : length (whole ++ part) ≡ length whole + length part = length-append whole part in
    elim (cases_lt (length whole + places + 1) e) [
      | inl l ↦ let z : length whole + places + 1 - e ≡ 0 = omega arith in rw z (front_none places (length part + e) (whole ++ part) h (omega (arith, both, l)))
      | inr g ↦ front_tenths places (length part + e) (length whole + places + 1 - e) (whole ++ part) h (omega (arith, both, g))
    ]

-- the tenths of a decimal
tenths_are : (whole part : List ℕ) (shrinks : Bool) (e places : ℕ) → are_digits (whole ++ part) ≡ true → IsTenthsOf whole part shrinks e places (front (whole ++ part) (kept shrinks (length whole + places + 1) e))
tenths_are whole part true e places h = let z : places + 0 ≡ places = omega arith in rw z (tenths_less whole part e places h)
tenths_are whole part false e places h =
    let both : length (whole ++ part) ≡ length whole + length part = length-append whole part in
    front_tenths (places + e) (length part + 0) (length whole + places + 1 + e) (whole ++ part) h (omega (arith, both))

-- ---- an exponent of 1000 stands for all that are greater

none_or_some : (v : ℕ) → (v ≡ 0) ⊎ (1 ≤ v)
none_or_some zero = inl refl
none_or_some (suc v) = inr (omega arith)

past_limit : (v z : ℕ) → 20 ≤ z → 1 ≤ v → v * 10 ^ z < 10 ^ 19 + 10 → ⊥
past_limit v z far some h =
    let big : 10 ^ 20 ≤ 10 ^ z = pow-le-pow_right (omega arith) far in
    let more : 10 ^ z * 1 ≤ 10 ^ z * v = mul-le-mul_left (10 ^ z) some in
    omega (arith, big, more, h)

-- more zeros are the same where there is nothing in front of them
front_same : (ds : List ℕ) (j k : ℕ) → length ds + 20 ≤ j → j ≤ k → front ds j < 10 ^ 19 + 10 → front ds k ≡ front ds j
front_same ds j k far le h =
    let a = front_long j ds (omega (arith, far)) in
    let b = front_long k ds (omega (arith, far, le)) in
    elim (none_or_some (digits_value 10 ds)) [
      | inl z ↦ b ∙ (ap (λ (v : ℕ). v * 10 ^ (k - length ds)) z ∙ (omega arith ∙ (sym (ap (λ (v : ℕ). v * 10 ^ (j - length ds)) z) ∙ sym a)))
      | inr s ↦ absurd (past_limit (digits_value 10 ds) (j - length ds) (omega (arith, far)) s (omega (arith, a, h)))
    ]

front_more : (ds : List ℕ) (j k : ℕ) → length ds ≤ j → j ≤ k → front ds j ≤ front ds k
front_more ds j k far le =
    let a = front_long j ds far in
    let b = front_long k ds (omega (arith, far, le)) in
    let p : 10 ^ (j - length ds) ≤ 10 ^ (k - length ds) = pow-le-pow_right (omega arith) (omega (arith, le)) in
    omega (arith, a, b, mul-le-mul_left (digits_value 10 ds) p)

capped_same : (ds : List ℕ) (shrinks : Bool) (point size e : ℕ) → point ≤ 1000 → length ds ≤ 900 → size ≡ min e 1000 → front ds (kept shrinks point size) < 10 ^ 19 + 10 → front ds (kept shrinks point e) ≡ front ds (kept shrinks point size)
capped_same ds true point size e near short s h = ap (λ (k : ℕ). front ds k) (omega (arith, near, s))
capped_same ds false point size e near short s h = elim (cases_lt 1000 e) [
  | inl l ↦ front_same ds (point + size) (point + e) (omega (arith, l, s, short)) (omega (arith, l, s)) h
  | inr g ↦ ap (λ (k : ℕ). front ds k) (omega (arith, g, s))
]

capped_less : (ds : List ℕ) (shrinks : Bool) (point size e : ℕ) → point ≤ 1000 → length ds ≤ 900 → size ≡ min e 1000 → front ds (kept shrinks point size) ≤ front ds (kept shrinks point e)
capped_less ds true point size e near short s = let k : point - size ≡ point - e = omega (arith, near, s) in rw k (omega arith)
capped_less ds false point size e near short s = elim (cases_lt 1000 e) [
  | inl l ↦ front_more ds (point + size) (point + e) (omega (arith, l, s, short)) (omega (arith, l, s))
  | inr g ↦ let k : point + size ≡ point + e = omega (arith, g, s) in rw k (omega arith)
]

-- ---- the rounded size

-- the parts of a decimal, as `size_of` takes them
pub record IsSized (whole part : List ℕ) (size e places : ℕ) : Type 0 where
  pub whole_digits : are_digits whole ≡ true
  pub part_digits : are_digits part ≡ true
  pub short : length whole + length part ≤ 64
  pub few : places ≤ 6
  pub least : size ≡ min e 1000

pub size_some : (whole part : List ℕ) (shrinks : Bool) (size e places t : ℕ) → IsSized whole part size e places → t ≡ front (whole ++ part) (kept shrinks (length whole + places + 1) size) → t < 10 ^ 19 + 10 → IsNearestTo whole part shrinks e places ((t + 5) / 10)
size_some whole part shrinks size e places t h is fits =
    let both : length (whole ++ part) ≡ length whole + length part = length-append whole part in
    let all = digits_both whole part h.whole_digits h.part_digits in
    let same = capped_same (whole ++ part) shrinks (length whole + places + 1) size e (omega (arith, h.short, h.few)) (omega (arith, both, h.short)) h.least (omega (arith, is, fits)) in
    let k : IsTenthsOf whole part shrinks e places t = subst (λ (x : ℕ). IsTenthsOf whole part shrinks e places x) (same ∙ sym is) (tenths_are whole part shrinks e places all) in
    nearest_tenths _ _ t k

pub size_none : (whole part : List ℕ) (shrinks : Bool) (size e places : ℕ) → IsSized whole part size e places → 10 ^ 19 + 10 ≤ front (whole ++ part) (kept shrinks (length whole + places + 1) size) → (r : ℕ) × (IsNearestTo whole part shrinks e places r × (10 ^ 18 < r))
size_none whole part shrinks size e places h past =
    let both : length (whole ++ part) ≡ length whole + length part = length-append whole part in
    let all = digits_both whole part h.whole_digits h.part_digits in
    let t = front (whole ++ part) (kept shrinks (length whole + places + 1) e) in
    let less = capped_less (whole ++ part) shrinks (length whole + places + 1) size e (omega (arith, h.short, h.few)) (omega (arith, both, h.short)) h.least in
    ((t + 5) / 10, (nearest_tenths _ _ t (tenths_are whole part shrinks e places all), past_ten t (omega (arith, less, past))))
