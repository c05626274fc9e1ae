-- Values of digits.
use Rattle.std.proofs.Common.{rules, ◌≡◌, ◌∙◌, ℕ, zero, suc, ◌+◌, ◌-◌, ◌*◌, ◌^◌, ◌<◌, ◌≤◌, true, List, [], ◌∷◌, ◌++◌, length, take, drop, get_or, ap, refl, arith}
use Rattle.std.proofs.lemmas.List.{take_more}
use Rattle.std.proofs.lemmas.Bool.{and_parts, and_from}
use Rattle.std.proofs.lemmas.Str.Parse.{IsNumeralModel, numerals_by_value, digit_at}
use Rattle.std.proofs.lemmas.Str.{digit_value_digit}
use Rattle.std.proofs.Math.Nat.{pow-suc}
use Rattle.std.specs.Char.{digit_value, is_ascii_digit}
use Rattle.std.specs.Str.Parse.{digits_value, digits_value_after, AllDigits}
use Rattle.spot_terms.specs.Decimal.{are_digits}

own : IsNumeralModel (λ ds. are_digits ds ≡ true) (digits_value 10)
own = numerals_by_value _ (search rules)

pub digits_are : (ds : List ℕ) → are_digits ds ≡ true → AllDigits 10 ds
digits_are ds h = own.to ds h

pub digit_here : (ds : List ℕ) (i : ℕ) → are_digits ds ≡ true → i < length ds → (digit_value (get_or ds i 0) + 48 ≡ get_or ds i 0) × (get_or ds i 0 ≤ 57)
digit_here ds i h l = let r = digit_at ds i (digits_are ds h) l in (digit_value_digit (get_or ds i 0) r, omega (arith, r.1))

pub digits_front : (n : ℕ) (ds : List ℕ) → are_digits ds ≡ true → are_digits (take n ds) ≡ true
digits_front zero ds h = refl
digits_front (suc n) [] h = refl
digits_front (suc n) (d ∷ ds) h = let k = and_parts (is_ascii_digit d) (are_digits ds) h in and_from (is_ascii_digit d) (are_digits (take n ds)) k.0 (digits_front n ds k.1)

pub after_append : (n : ℕ) (xs ys : List ℕ) → digits_value_after 10 n (xs ++ ys) ≡ digits_value_after 10 (digits_value_after 10 n xs) ys
after_append n [] ys = refl
after_append n (x ∷ xs) ys = after_append (n * 10 + digit_value x) xs ys

pub after_more : (n : ℕ) (ds : List ℕ) (i : ℕ) → i < length ds → digits_value_after 10 n (take (i + 1) ds) ≡ digits_value_after 10 n (take i ds) * 10 + digit_value (get_or ds i 0)
after_more n ds i h = ap (λ (z : List ℕ). digits_value_after 10 n z) (take_more ds i 0 h) ∙ after_append n (take i ds) (get_or ds i 0 ∷ [])

pub after_least : (n : ℕ) (ds : List ℕ) → n ≤ digits_value_after 10 n ds
after_least n [] = omega arith
after_least n (d ∷ ds) = omega (arith, after_least (n * 10 + digit_value d) ds)

-- the digits so far, and those that follow
pub after_split : (n i : ℕ) (ds : List ℕ) → digits_value_after 10 n ds ≡ digits_value_after 10 (digits_value_after 10 n (take i ds)) (drop i ds)
after_split n zero ds = refl
after_split n (suc i) [] = refl
after_split n (suc i) (d ∷ ds) = after_split (n * 10 + digit_value d) i ds

-- what is left below a number is too much with one more digit
pub after_past : (n i m : ℕ) (ds : List ℕ) → i < length ds → m < digits_value_after 10 n (take i ds) → m * 10 + 10 ≤ digits_value_after 10 n ds
after_past n i m ds h big = omega (arith, after_split n (i + 1) ds, after_least (digits_value_after 10 n (take (i + 1) ds)) (drop (i + 1) ds), after_more n ds i h, big)

pub after_is : (n : ℕ) (ds : List ℕ) → digits_value_after 10 n ds ≡ n * 10 ^ length ds + digits_value 10 ds
after_is n [] = omega arith
after_is n (d ∷ ds) = let e : 10 ^ length (d ∷ ds) ≡ 10 ^ length ds * 10 = pow-suc 10 (length ds) in
    let a = after_is (n * 10 + digit_value d) ds in
    let b = after_is (0 * 10 + digit_value d) ds in
    rw e (omega (arith, a, b))

-- the front of two lists
pub take_both : (n : ℕ) (xs ys : List ℕ) → take n (xs ++ ys) ≡ take n xs ++ take (n - length xs) ys
take_both zero [] ys = refl
take_both (suc n) [] ys = let e : suc n - 0 ≡ suc n = omega arith in rw e refl
take_both zero (x ∷ xs) ys = let e : 0 - length (x ∷ xs) ≡ 0 = omega arith in rw e refl
take_both (suc n) (x ∷ xs) ys = let e : suc n - length (x ∷ xs) ≡ n - length xs = omega arith in rw e (ap (λ (z : List ℕ). x ∷ z) (take_both n xs ys))

pub digits_back : (n : ℕ) (ds : List ℕ) → are_digits ds ≡ true → are_digits (drop n ds) ≡ true
digits_back zero ds h = h
digits_back (suc n) [] h = refl
digits_back (suc n) (d ∷ ds) h = digits_back n ds (and_parts (is_ascii_digit d) (are_digits ds) h).1

pub digits_both : (xs ys : List ℕ) → are_digits xs ≡ true → are_digits ys ≡ true → are_digits (xs ++ ys) ≡ true
digits_both [] ys h k = k
digits_both (x ∷ xs) ys h k = let p = and_parts (is_ascii_digit x) (are_digits xs) h in and_from (is_ascii_digit x) (are_digits (xs ++ ys)) p.0 (digits_both xs ys p.1 k)
