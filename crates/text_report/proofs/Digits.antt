-- How many digits numbers have, and the words of whole numbers by them.
use Rattle.std.proofs.Common.{◌≡◌, ◌∙◌, ℕ, ◌+◌, ◌/◌, ◌^◌, ◌<◌, ◌≤◌, [], ◌∷◌, ◌++◌, ℤ, pos, negsuc, suc, ◌≤ℤ◌, ◌<ℤ◌, length, ap, append_assoc, arith}
use Rattle.std.specs.Prelude.{decimal, nat_abs}
use Rattle.std.proofs.lemmas.Fmt.{length-decimal-le}
use Rattle.std.proofs.lemmas.Int.{ints}
use Rattle.itoa.proofs.Decimal.{length_one, length_two, length_pair}
use Rattle.spot_terms.specs.Report.{Text, whole}
use Rattle.spot_terms.proofs.Numerals.{numeral_is_decimal}

pub length_three : (n : ℕ) → 100 ≤ n → n < 1_000 → length (decimal n) ≡ 3
length_three n low high = length_pair n low (omega arith) ∙ ap (λ (k : ℕ). k + 2) (length_one (n / 100) (omega arith))

pub length_of_thousands : (n : ℕ) → 1_000 ≤ n → n < 10_000 → length (decimal n) ≡ 4
length_of_thousands n low high = length_pair n (omega arith) (omega arith) ∙ ap (λ (k : ℕ). k + 2) (length_two (n / 100) (omega arith) (omega arith))

pub at_most_19 : (n : ℕ) → n ≤ 2 ^ 63 → length (decimal n) ≤ 19
at_most_19 n small = length-decimal-le 19 n (omega arith) (omega arith) (omega arith)

-- a whole number behind a blank, by its size
pub natural_behind : (now text old : Text) (z : ℤ) → pos 0 ≤ℤ z → nat_abs z < 2 ^ 64 → text ≡ old ++ 32 ∷ [] → now ≡ text ++ decimal (nat_abs z) → now ≡ old ++ 32 ∷ whole z
natural_behind now text old (pos n) from small front all =
    all ∙ (ap (λ (t : Text). t ++ decimal n) front ∙ (append_assoc old (32 ∷ []) (decimal n) ∙ ap (λ (t : Text). old ++ 32 ∷ t) (numeral_is_decimal n (omega (arith, small)))))
natural_behind now text old (negsuc n) from small front all = absurd (grind (arith, ints, from))

pub negative_behind : (now text old : Text) (z : ℤ) → z <ℤ pos 0 → nat_abs z < 2 ^ 64 → text ≡ old ++ 32 ∷ 45 ∷ [] → now ≡ text ++ decimal (nat_abs z) → now ≡ old ++ 32 ∷ whole z
negative_behind now text old (pos n) below small front all = absurd (grind (arith, ints, below))
negative_behind now text old (negsuc n) below small front all =
    all ∙ (ap (λ (t : Text). t ++ decimal (suc n)) front ∙ (append_assoc old (32 ∷ 45 ∷ []) (decimal (suc n)) ∙ ap (λ (t : Text). old ++ 32 ∷ 45 ∷ t) (numeral_is_decimal (suc n) (omega (arith, small)))))
