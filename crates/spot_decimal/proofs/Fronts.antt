-- The number that the first digits of two lists write, with zeros behind them.
use Rattle.std.proofs.Common.{◌≡◌, ◌∙◌, ℕ, ◌+◌, ◌-◌, ◌*◌, ◌^◌, ◌<◌, ◌≤◌, List, ◌++◌, length, take, ap, refl, arith, length-append}
use Rattle.std.proofs.lemmas.Nat.{pow-add}
use Rattle.std.proofs.Math.Nat.{pow-le-pow_right, mul-le-mul_left}
use Rattle.std.specs.Str.Parse.{digits_value, digits_value_after}
use Rattle.spot_terms.proofs.Readings.{ten_pos}
use Rattle.spot_decimal.specs.Written.{front}
use Rattle.spot_decimal.proofs.Values.{after_append, after_least, take_both}

pub ten_next : (a : ℕ) → 10 ^ (a + 1) ≡ 10 ^ a * 10
ten_next a = pow-add 10 a 1

-- a number that is too great is too great with one zero or more
pub zeros_past : (start value i zeros m : ℕ) → value ≡ start * 10 ^ i → i < zeros → m < value → m * 10 + 10 ≤ start * 10 ^ zeros
zeros_past start value i zeros m e h big =
    let p : 10 ^ (i + 1) ≤ 10 ^ zeros = pow-le-pow_right (omega arith) (omega (arith, h)) in
    let q : start * 10 ^ (i + 1) ≤ start * 10 ^ zeros = mul-le-mul_left start p in
    omega (arith, q, e, big, ap (λ (k : ℕ). start * k) (ten_next i))

pub zeros_next : (start value i : ℕ) → value ≡ start * 10 ^ i → value * 10 ≡ start * 10 ^ (i + 1)
zeros_next start value i e = omega (arith, e, ap (λ (k : ℕ). start * k) (ten_next i))

zeros_least : (n z : ℕ) → n ≤ n * 10 ^ z
zeros_least n z = let h : n * 1 ≤ n * 10 ^ z = mul-le-mul_left n (omega (arith, ten_pos z)) in omega (arith, h)

-- in two lists
pub front_is : (whole part : List ℕ) (places behind : ℕ) → behind ≡ places - length whole → front (whole ++ part) places ≡ digits_value_after 10 (digits_value 10 (take places whole)) (take behind part) * 10 ^ (behind - length part)
front_is whole part places behind e =
    let z : places - length (whole ++ part) ≡ behind - length part = omega (arith, e, length-append whole part) in
    rw (z, e) (ap (λ (v : ℕ). v * 10 ^ (places - length whole - length part)) (ap (λ (ds : List ℕ). digits_value 10 ds) (take_both places whole part) ∙ after_append 0 (take places whole) (take (places - length whole) part)))

pub whole_past : (whole part : List ℕ) (places behind m : ℕ) → behind ≡ places - length whole → m ≤ digits_value 10 (take places whole) → m ≤ front (whole ++ part) places
whole_past whole part places behind m e h = let v = digits_value_after 10 (digits_value 10 (take places whole)) (take behind part) in
    omega (arith, front_is whole part places behind e, after_least (digits_value 10 (take places whole)) (take behind part), zeros_least v (behind - length part), h)

pub part_past : (whole part : List ℕ) (places behind m : ℕ) → behind ≡ places - length whole → m ≤ digits_value_after 10 (digits_value 10 (take places whole)) (take behind part) → m ≤ front (whole ++ part) places
part_past whole part places behind m e h = let v = digits_value_after 10 (digits_value 10 (take places whole)) (take behind part) in
    omega (arith, front_is whole part places behind e, zeros_least v (behind - length part), h)

-- the first digits of two lists, the values so far, and how many zeros follow
pub record IsCut (whole part first second : List ℕ) (places behind : ℕ) : Type 0 where
  pub behind_is : behind ≡ places - length whole
  pub first_is : first ≡ take places whole
  pub second_is : second ≡ take behind part

value_of_first : (whole part first second : List ℕ) (places behind v : ℕ) → IsCut whole part first second places behind → v ≡ digits_value_after 10 0 first → v ≡ digits_value 10 (take places whole)
value_of_first whole part first second places behind v h e = e ∙ ap (λ (ds : List ℕ). digits_value 10 ds) h.first_is

value_of_both : (whole part first second : List ℕ) (places behind v w : ℕ) → IsCut whole part first second places behind → v ≡ digits_value_after 10 0 first → w ≡ digits_value_after 10 v second → w ≡ digits_value_after 10 (digits_value 10 (take places whole)) (take behind part)
value_of_both whole part first second places behind v w h e f = f ∙ (ap (λ (n : ℕ). digits_value_after 10 n second) (value_of_first whole part first second places behind v h e) ∙ ap (λ (ds : List ℕ). digits_value_after 10 (digits_value 10 (take places whole)) ds) h.second_is)

pub front_by : (whole part first second : List ℕ) (places behind count v w : ℕ) → IsCut whole part first second places behind → count ≡ behind - length part → v ≡ digits_value_after 10 0 first → w ≡ digits_value_after 10 v second → front (whole ++ part) places ≡ w * 10 ^ count
front_by whole part first second places behind count v w h z e f = rw (z, value_of_both whole part first second places behind v w h e f) (front_is whole part places behind h.behind_is)

pub past_first : (whole part first second : List ℕ) (places behind m : ℕ) → IsCut whole part first second places behind → m ≤ digits_value_after 10 0 first → m ≤ front (whole ++ part) places
past_first whole part first second places behind m h e = whole_past whole part places behind m h.behind_is (omega (arith, e, value_of_first whole part first second places behind (digits_value_after 10 0 first) h refl))

pub past_second : (whole part first second : List ℕ) (places behind v m : ℕ) → IsCut whole part first second places behind → v ≡ digits_value_after 10 0 first → m ≤ digits_value_after 10 v second → m ≤ front (whole ++ part) places
past_second whole part first second places behind v m h e f = part_past whole part places behind m h.behind_is (omega (arith, f, value_of_both whole part first second places behind v (digits_value_after 10 v second) h e refl))
