-- Digits, and the numbers of few digits.
use Rattle.std.proofs.Common.{◌≡◌, ◌∙◌, ℕ, ◌<◌, ◌≤◌, ◌^◌, ◌+◌, ◌⊎◌, Bool, true, false, List, [], ◌∷◌, length, take, get_or, arith, refl, ◌&&◌}
use Rattle.std.proofs.Math.Nat.{pow-le-pow_right}
use Rattle.std.proofs.lemmas.Int.Digits.{digits_value-lt}
use Rattle.std.proofs.lemmas.Bool.Decides.{nat_tests}
use Rattle.std.proofs.lemmas.List.Folds.{list_all_more}
use Rattle.std.specs.List.{list_all}
use Rattle.std.specs.Int.{IsInRange}
use Rattle.std.specs.Char.{is_ascii_digit, digit_value}
use Rattle.std.specs.Str.Parse.{AllDigits, digits_value}

few_digits : (ds : List ℕ) → AllDigits 10 ds → length ds ≤ 9 → digits_value 10 ds < 10 ^ 9
few_digits ds h few = let p : 10 ^ length ds ≤ 10 ^ 9 = pow-le-pow_right (omega arith) few in omega (arith, p, digits_value-lt 10 ds h)

value_is : (c : ℕ) → is_ascii_digit c ≡ true → digit_value c < 10
value_is c h = grind (arith, nat_tests)

digits_step : (t : Bool) (c : ℕ) (cs : List ℕ) → is_ascii_digit c ≡ t → (t && list_all is_ascii_digit cs) ≡ true → (is_ascii_digit c ≡ true) × (list_all is_ascii_digit cs ≡ true)
digits_step true c cs e h = (e, h)
digits_step false c cs e h = cc

-- the two words for digits
all_digits : (ds : List ℕ) → list_all is_ascii_digit ds ≡ true → AllDigits 10 ds
all_digits [] h = tt
all_digits (c ∷ cs) h = let k = digits_step (is_ascii_digit c) c cs refl h in (value_is c k.0, all_digits cs k.1)

pub few_value : (ds : List ℕ) → list_all is_ascii_digit ds ≡ true → length ds ≤ 9 → digits_value 10 ds < 10 ^ 9
few_value ds h few = few_digits ds (all_digits ds h) few

pub digit_test : (c : ℕ) → IsInRange 48 57 c → is_ascii_digit c ≡ true
digit_test c h = let low = h.0 in let high = h.1 in grind (arith, nat_tests)

pub other_test : (c : ℕ) → (c < 48) ⊎ (57 < c) → is_ascii_digit c ≡ false
other_test c h = grind (arith, nat_tests)

pub more_digits : (ds : List ℕ) (i : ℕ) → i < length ds → list_all is_ascii_digit (take i ds) ≡ true → IsInRange 48 57 (get_or ds i 0) → list_all is_ascii_digit (take (i + 1) ds) ≡ true
more_digits ds i h before digit = let this = digit_test (get_or ds i 0) digit in list_all_more is_ascii_digit ds i 0 h ∙ cc
