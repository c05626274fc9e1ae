-- Numerals: their bytes are digits, and their number is read back. Where `decimal` writes all digits, it writes these.
use Rattle.std.proofs.Common.{◌≡◌, ℕ, zero, suc, ◌+◌, ◌*◌, ◌/◌, ◌%◌, ◌^◌, ◌<◌, [], ◌∷◌, length, Bool, true, false, cond, ℤ, pos, negsuc, refl, ◌∙◌, ap, arith}
use Rattle.std.specs.Prelude.{◌==◌, decimal}
use Rattle.std.specs.Char.{digit_value}
use Rattle.std.specs.Fmt.{digits, digits_onto, digit_glyph, signed_decimal}
use Rattle.std.specs.Str.Parse.{digits_value, digits_value_after, AllDigits}
use Rattle.std.proofs.lemmas.Bool.Decides.{nat_tests}
use Rattle.spot_terms.specs.Report.{Text, digits_before, numeral, whole}
use Rattle.spot_terms.proofs.Orders.{zero_of_true, positive_of_false}

-- ---- digits

digit_back : (d : ℕ) → d < 10 → digit_value (48 + d) ≡ d
digit_back d h = grind (arith, nat_tests)

glyph_back : (d : ℕ) → d < 10 → digit_glyph false d ≡ 48 + d
glyph_back d h = grind (arith, nat_tests)

-- ---- the number of a numeral

reads_before : (k n : ℕ) (text : Text) → n < k → digits_value 10 (digits_before k n text) ≡ digits_value_after 10 n text
reads_before zero n text h = absurd (omega arith)
reads_before (suc k) n text h = by (λ m t l. reads_before k m t l) ((n / 10) == 0) refl
  where
    last_is : digit_value (48 + n % 10) ≡ n % 10
    last_is = digit_back (n % 10) (omega arith)

    by : ((m : ℕ) (t : Text) → m < k → digits_value 10 (digits_before k m t) ≡ digits_value_after 10 m t)
        → (b : Bool) → ((n / 10) == 0) ≡ b → digits_value 10 (elim b [ true ↦ (48 + n % 10) ∷ text | false ↦ digits_before k (n / 10) ((48 + n % 10) ∷ text) ]) ≡ digits_value_after 10 n text
    by further true e =
        let front : n / 10 ≡ 0 = zero_of_true (n / 10) e in
        let same : 0 * 10 + digit_value (48 + n % 10) ≡ n = omega (arith, last_is, front) in
        ap (λ (m : ℕ). digits_value_after 10 m text) same
    by further false e =
        let some : 0 < n / 10 = positive_of_false (n / 10) e in
        let same : n / 10 * 10 + digit_value (48 + n % 10) ≡ n = omega (arith, last_is) in
        further (n / 10) ((48 + n % 10) ∷ text) (omega (arith, some)) ∙ ap (λ (m : ℕ). digits_value_after 10 m text) same

digits_stay : (k n : ℕ) (text : Text) → AllDigits 10 text → AllDigits 10 (digits_before k n text)
digits_stay zero n text all = all
digits_stay (suc k) n text all = by ((n / 10) == 0) (digits_stay k (n / 10) ((48 + n % 10) ∷ text) (last, all))
  where
    last : digit_value (48 + n % 10) < 10
    last = let e = digit_back (n % 10) (omega arith) in omega (arith, e)

    by : (b : Bool) → AllDigits 10 (digits_before k (n / 10) ((48 + n % 10) ∷ text)) → AllDigits 10 (elim b [ true ↦ (48 + n % 10) ∷ text | false ↦ digits_before k (n / 10) ((48 + n % 10) ∷ text) ])
    by true further = (last, all)
    by false further = further

stays_some : (k n : ℕ) (text : Text) → 0 < length text → 0 < length (digits_before k n text)
stays_some zero n text h = h
stays_some (suc k) n text h = by ((n / 10) == 0) (stays_some k (n / 10) ((48 + n % 10) ∷ text) (omega arith))
  where
    by : (b : Bool) → 0 < length (digits_before k (n / 10) ((48 + n % 10) ∷ text)) → 0 < length {A = ℕ} (elim b [ true ↦ (48 + n % 10) ∷ text | false ↦ digits_before k (n / 10) ((48 + n % 10) ∷ text) ])
    by true further = omega arith
    by false further = further

some_before : (k n : ℕ) (text : Text) → 0 < length (digits_before (suc k) n text)
some_before k n text = by ((n / 10) == 0)
  where
    by : (b : Bool) → 0 < length {A = ℕ} (elim b [ true ↦ (48 + n % 10) ∷ text | false ↦ digits_before k (n / 10) ((48 + n % 10) ∷ text) ])
    by true = omega arith
    by false = stays_some k (n / 10) ((48 + n % 10) ∷ text) (omega arith)

pub numeral_digits : (n : ℕ) → AllDigits 10 (numeral n)
unfolding numeral
numeral_digits n = digits_stay (suc n) n [] tt

pub numeral_some : (n : ℕ) → 0 < length (numeral n)
unfolding numeral
numeral_some n = some_before n n []

pub numeral_back : (n : ℕ) → digits_value 10 (numeral n) ≡ n
unfolding numeral
numeral_back n = reads_before (suc n) n [] (omega arith)

-- ---- what `decimal` writes

same_digits : (j k n : ℕ) (text : Text) → n < 10 ^ suc j → n < suc k → digits_onto (suc j) 10 false n text ≡ digits_before (suc k) n text
same_digits zero k n text p q = by ((n / 10) == 0) refl
  where
    by : (b : Bool) → ((n / 10) == 0) ≡ b → cond b (digit_glyph false (n % 10) ∷ text) (digits_onto 0 10 false (n / 10) (digit_glyph false (n % 10) ∷ text)) ≡ elim b [ true ↦ (48 + n % 10) ∷ text | false ↦ digits_before k (n / 10) ((48 + n % 10) ∷ text) ]
    by true e = ap (λ (c : ℕ). c ∷ text) (glyph_back (n % 10) (omega arith))
    by false e = let some : 0 < n / 10 = positive_of_false (n / 10) e in absurd (omega (arith, some))
same_digits (suc j) zero n text p q = by ((n / 10) == 0) refl
  where
    by : (b : Bool) → ((n / 10) == 0) ≡ b → cond b (digit_glyph false (n % 10) ∷ text) (digits_onto (suc j) 10 false (n / 10) (digit_glyph false (n % 10) ∷ text)) ≡ elim b [ true ↦ (48 + n % 10) ∷ text | false ↦ digits_before 0 (n / 10) ((48 + n % 10) ∷ text) ]
    by true e = ap (λ (c : ℕ). c ∷ text) (glyph_back (n % 10) (omega arith))
    by false e = let some : 0 < n / 10 = positive_of_false (n / 10) e in absurd (omega (arith, some))
same_digits (suc j) (suc k) n text p q = by (λ m t a b. same_digits j k m t a b) ((n / 10) == 0) refl
  where
    by : ((m : ℕ) (t : Text) → m < 10 ^ suc j → m < suc k → digits_onto (suc j) 10 false m t ≡ digits_before (suc k) m t)
        → (b : Bool) → ((n / 10) == 0) ≡ b → cond b (digit_glyph false (n % 10) ∷ text) (digits_onto (suc j) 10 false (n / 10) (digit_glyph false (n % 10) ∷ text)) ≡ elim b [ true ↦ (48 + n % 10) ∷ text | false ↦ digits_before (suc k) (n / 10) ((48 + n % 10) ∷ text) ]
    by further true e = ap (λ (c : ℕ). c ∷ text) (glyph_back (n % 10) (omega arith))
    by further false e =
        let some : 0 < n / 10 = positive_of_false (n / 10) e in
        ap (λ (c : ℕ). digits_onto (suc j) 10 false (n / 10) (c ∷ text)) (glyph_back (n % 10) (omega arith)) ∙ further (n / 10) ((48 + n % 10) ∷ text) (omega arith) (omega (arith, some))

pub numeral_is_decimal : (n : ℕ) → n < 10 ^ 64 → decimal n ≡ numeral n
unfolding numeral digits
numeral_is_decimal n h = same_digits 63 n n [] h (omega arith)

pub whole_is_signed : (z : ℤ) → Rattle.std.specs.Prelude.nat_abs z < 10 ^ 64 → signed_decimal z ≡ whole z
whole_is_signed (pos n) h = numeral_is_decimal n h
whole_is_signed (negsuc n) h = ap (λ (t : Text). 45 ∷ t) (numeral_is_decimal (suc n) h)
