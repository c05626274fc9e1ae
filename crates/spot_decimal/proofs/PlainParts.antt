-- Plain decimals: their parts, their bounds and their readings.
use Rattle.std.proofs.Common.{◌≡◌, ◌∙◌, ℕ, zero, suc, ◌+◌, ◌-◌, ◌*◌, ◌^◌, ◌<◌, ◌≤◌, Bool, true, false, List, [], ◌∷◌, ◌++◌, length, length-take, take, drop, get_or, Some, None, ℤ, ap, refl, sym, arith}
use Rattle.std.specs.Prelude.{nat_abs}
use Rattle.std.proofs.lemmas.Bool.{and_parts, lt-ltb}
use Rattle.std.proofs.lemmas.Bool.Decides.{nat_tests}
use Rattle.std.proofs.lemmas.Int.{to_z-of_z}
use mir.Syntax.{w128}
use mir.Val.{to_z, of_z}
use Rattle.std.proofs.lemmas.Nat.{pow-add}
use Rattle.std.proofs.Math.Nat.{pow-le-pow_right, mul-le-mul_left}
use Rattle.std.specs.Char.{is_ascii_digit}
use Rattle.std.specs.Str.Parse.{digits_value, digits_value_after}
use Rattle.spot_terms.specs.Decimal.{Reads, are_digits, digits_part, head_part, is_exponent, is_point, scaled, signed, signed_part, tail_part}
use Rattle.spot_terms.proofs.Readings.{ten_pos}
use Rattle.spot_decimal.specs.Written.{IsNearest, IsPlain, IsPlainSize}
use Rattle.spot_decimal.proofs.Fronts.{ten_next}
use Rattle.spot_decimal.proofs.Signs.{reading_is, signed_fits, size_signed}
use Rattle.spot_decimal.proofs.Texts.{IsParted, with_parts}
use Rattle.spot_decimal.proofs.Values.{after_append}

no_point : (c : ℕ) → is_ascii_digit c ≡ true → is_point c ≡ false
no_point c h = grind (arith, nat_tests)

no_exponent : (c : ℕ) → is_ascii_digit c ≡ true → is_exponent c ≡ false
no_exponent c h = grind (arith, nat_tests)

-- digits hold no mark
unmarked : (p : ℕ → Bool) (ds : List ℕ) → ((c : ℕ) → is_ascii_digit c ≡ true → p c ≡ false) → are_digits ds ≡ true → (head_part p ds ≡ ds) × (tail_part p ds ≡ None)
unmarked p [] f h = (refl, refl)
unmarked p (d ∷ ds) f h =
    let k = and_parts (is_ascii_digit d) (are_digits ds) h in
    let r = unmarked p ds f k.1 in
    let e = f d k.0 in
    (rw e (ap (λ (z : List ℕ). d ∷ z) r.0), rw e r.1)

-- digits, a mark
marked : (p : ℕ → Bool) (n : ℕ) (ds : List ℕ) → ((c : ℕ) → is_ascii_digit c ≡ true → p c ≡ false) → n < length ds → are_digits (take n ds) ≡ true → p (get_or ds n 0) ≡ true → (head_part p ds ≡ take n ds) × (tail_part p ds ≡ Some (drop (n + 1) ds))
marked p zero [] f l h m = absurd (omega (arith, l))
marked p zero (d ∷ ds) f l h m = (rw m refl, rw m refl)
marked p (suc n) [] f l h m = absurd (omega (arith, l))
marked p (suc n) (d ∷ ds) f l h m =
    let k = and_parts (is_ascii_digit d) (are_digits (take n ds)) h in
    let r = marked p n ds f (omega (arith, l)) k.1 m in
    let e = f d k.0 in
    let s : suc n + 1 ≡ suc (n + 1) = omega arith in
    (rw e (ap (λ (z : List ℕ). d ∷ z) r.0), rw (s, e) r.1)

-- digits, a byte that is no mark, digits
passed : (p : ℕ → Bool) (n : ℕ) (ds : List ℕ) → ((c : ℕ) → is_ascii_digit c ≡ true → p c ≡ false) → n < length ds → are_digits (take n ds) ≡ true → p (get_or ds n 0) ≡ false → are_digits (drop (n + 1) ds) ≡ true → (head_part p ds ≡ ds) × (tail_part p ds ≡ None)
passed p zero [] f l h m g = absurd (omega (arith, l))
passed p zero (d ∷ ds) f l h m g =
    let r = unmarked p ds f g in
    (rw m (ap (λ (z : List ℕ). d ∷ z) r.0), rw m r.1)
passed p (suc n) [] f l h m g = absurd (omega (arith, l))
passed p (suc n) (d ∷ ds) f l h m g =
    let k = and_parts (is_ascii_digit d) (are_digits (take n ds)) h in
    let s : suc n + 1 ≡ suc (n + 1) = omega arith in
    let r = passed p n ds f (omega (arith, l)) k.1 m (rw s at g) in
    let e = f d k.0 in
    (rw e (ap (λ (z : List ℕ). d ∷ z) r.0), rw e r.1)

whole_part : (ds : List ℕ) (value : ℕ) → are_digits ds ≡ true → 0 < length ds → value ≡ digits_value_after 10 0 ds → head_part is_point ds ≡ ds → tail_part is_point ds ≡ None → digits_part ds ≡ Some (0, value)
whole_part ds value h l e a b = let t = lt-ltb 0 (length ds) l in rw (b, a, h, t, digits_part) (ap (λ (v : ℕ). Some (0, v)) (sym e))

-- digits alone
pub plain_whole : (ds : List ℕ) (value : ℕ) → are_digits ds ≡ true → 0 < length ds → value ≡ digits_value_after 10 0 ds → IsPlain ds 0 value
plain_whole ds value h l e =
    let a = unmarked is_point ds no_point h in
    let b = unmarked is_exponent ds no_exponent h in
    record { digits = whole_part ds value h l e a.0 a.1; head = b.0; tail = b.1 }

split_part : (ds whole part : List ℕ) (value : ℕ) → are_digits whole ≡ true → are_digits part ≡ true → 0 < length whole + length part → value ≡ digits_value 10 (whole ++ part) → head_part is_point ds ≡ whole → tail_part is_point ds ≡ Some part → digits_part ds ≡ Some (length part, value)
split_part ds whole part value h k l e a b = let t = lt-ltb 0 (length whole + length part) l in rw (b, a, h, k, t, digits_part) (ap (λ (v : ℕ). Some (length part, v)) (sym e))

-- digits, a point, digits
pub plain_parts : (ds : List ℕ) (n before value : ℕ) → 0 < n → n < length ds → are_digits (take n ds) ≡ true → get_or ds n 0 ≡ 46 → are_digits (drop (n + 1) ds) ≡ true → before ≡ digits_value_after 10 0 (take n ds) → value ≡ digits_value_after 10 before (drop (n + 1) ds) → IsPlain ds (length (drop (n + 1) ds)) value
plain_parts ds n before value some l h m g e f =
    let a = marked is_point n ds no_point l h (rw m refl) in
    let b = passed is_exponent n ds no_exponent l h (rw m refl) g in
    let v : value ≡ digits_value 10 (take n ds ++ drop (n + 1) ds) = f ∙ (ap (λ (k : ℕ). digits_value_after 10 k (drop (n + 1) ds)) e ∙ sym (after_append 0 (take n ds) (drop (n + 1) ds))) in
    let c : 0 < length (take n ds) + length (drop (n + 1) ds) = omega (arith, some, l, length-take n ds) in
    record { digits = split_part ds (take n ds) (drop (n + 1) ds) value h g c v a.0 a.1; head = b.0; tail = b.1 }

-- ---- the reading

nearest_plain : (value part places r : ℕ) → IsPlainSize value part places r → IsNearest (value * 10 ^ (places + 0)) (10 ^ (part + 0)) r
nearest_plain value part places r h =
    let a : places + 0 ≡ places = omega arith in
    let b : part + 0 ≡ part = omega arith in
    let c : places ≡ places - part + part = omega (arith, h.few) in
    let p : 10 ^ places ≡ 10 ^ (places - part) * 10 ^ part = ap (λ (k : ℕ). 10 ^ k) c ∙ pow-add 10 (places - part) part in
    let q : r * 10 ^ part ≡ value * 10 ^ places = rw h.same (omega (arith, ap (λ (k : ℕ). value * k) p)) in
    let t = ten_pos part in
    record { low = rw (a, b) (omega (arith, q)); high = rw (a, b) (omega (arith, q, t)) }

reads_plain : (text rest : List ℕ) (part value places r : ℕ) → rest ≡ (signed_part text).1 → IsPlain rest part value → IsPlainSize value part places r → Reads places text (signed (signed_part text).0 r)
reads_plain text rest part value places r s h k = let p : IsParted text rest rest None = record { rest_is = s; head_is = sym h.head; tail_is = sym h.tail } in
    record {
      fraction = scaled (signed_part text).0 value part (false, 0);
      decimal = with_parts text rest rest None (part, value) (false, 0) p h.digits refl;
      reading = reading_is (signed_part text).0 value part false 0 places r (nearest_plain value part places r k);
    }

-- the number that is given, in 128 bits
pub plain_answered : (text rest : List ℕ) (minus : Bool) (part value places r : ℕ) (z : ℤ) → minus ≡ (signed_part text).0 → rest ≡ (signed_part text).1 → IsPlain rest part value → IsPlainSize value part places r → r ≤ 10 ^ 18 → z ≡ signed minus r → Reads places text (to_z w128 (of_z w128 z)) × (nat_abs (to_z w128 (of_z w128 z)) ≤ 10 ^ 18)
plain_answered text rest minus part value places r z m s h k few e =
    let same : to_z w128 (of_z w128 z) ≡ z = to_z-of_z w128 z (rw e (signed_fits minus r few)) in
    rw (same, e) (rw m (reads_plain text rest part value places r s h k), omega (arith, size_signed minus r, few))

-- ---- bounds

-- one more digit
pub small_more : (start value i d : ℕ) → value + 1 ≤ (start + 1) * 10 ^ i → d ≤ 9 → value * 10 + d + 1 ≤ (start + 1) * 10 ^ (i + 1)
small_more start value i d h few = omega (arith, h, few, ap (λ (k : ℕ). (start + 1) * k) (ten_next i))

-- the room for what follows
pub small_end : (start i n : ℕ) → i ≤ n → (start + 1) * 10 ^ i ≤ (start + 1) * 10 ^ n
small_end start i n h = mul-le-mul_left (start + 1) (pow-le-pow_right (omega arith) h)

-- the room behind the first digits and the point
pub small_behind : (value n m k : ℕ) → value + 1 ≤ (0 + 1) * 10 ^ n → n + m ≤ k → (value + 1) * 10 ^ m ≤ 10 ^ k
small_behind value n m k h l =
    let a : 10 ^ m * (value + 1) ≤ 10 ^ m * 10 ^ n = mul-le-mul_left (10 ^ m) (omega (arith, h)) in
    let b : 10 ^ (n + m) ≤ 10 ^ k = pow-le-pow_right (omega arith) l in
    omega (arith, a, b, pow-add 10 n m)
