-- What the reading of a text says of the checks of a number.
use Rattle.std.proofs.Common.{◌≡◌, ◌∙◌, ◌⊎◌, inl, inr, ◌↔◌, ℕ, ◌*◌, ◌^◌, ◌≤◌, ℤ, pos, List, length, Bool, false, true, not, IsTrue, is_none, nat_lt, ◌||◌, Option, Some, None, IfSome, IfNone, refl, sym, subst, arith, nat_abs, ◌<ℤ◌, ◌≤ℤ◌, ap}
use Rattle.std.proofs.lemmas.Int.{ints, to_z-of_z}
use mir.Val.{to_z, of_z}
use mir.Syntax.{w64, w128}
use Rattle.std.proofs.lemmas.Bool.Decides.{nat_tests}
use Rattle.spot_terms.specs.Decimal.{Fraction, Reads, fraction_of}
use Rattle.spot_claims.specs.Profile.{Number, IsTooLarge, IsOutside, IsUneven, is_bad_number}
use Rattle.spot_terms.specs.Whole.{Within}
use Rattle.scenario.specs.Has.{IsGood}
use Rattle.spot_terms.proofs.Orders.{at_most_or_above}
use Rattle.spot_decimal.proofs.Signs.{reads_once}

not_large : (places : ℕ) (text : List ℕ) (z : ℤ) → Reads places text z → nat_abs z ≤ 10 ^ 18 → IsTooLarge places text → ⊥
not_large places text z h few large =
    let P : ℤ → Type 0 = λ r. nat_abs r ≤ 10 ^ 18 in
    let few2 : nat_abs large.reading ≤ 10 ^ 18 = subst P (reads_once places text z large.reading h large.reads.reads) few in
    let past = large.large in omega arith

outside_of : (n : Number) (text : List ℕ) (z : ℤ) (b : Bool) → Reads n.places text z → nat_abs z ≤ 10 ^ 18 → (((z <ℤ n.least) ⊎ (n.most <ℤ z)) → IsTrue b) → IsTooLarge n.places text ⊎ IsOutside n text → IsTrue b
outside_of n text z b h few past (inl large) = absurd (not_large n.places text z h few large)
outside_of n text z b h few past (inr out) =
    let P : ℤ → Type 0 = λ r. (r <ℤ n.least) ⊎ (n.most <ℤ r) in
    past (subst P (reads_once n.places text out.reading z out.reads.reads h) out.outside)

-- a number of this size as the code holds it
pub held_is : (z : ℤ) → nat_abs z ≤ 10 ^ 18 → to_z w128 (of_z w128 z) ≡ z
held_is z few = to_z-of_z w128 z (omega (arith, ints))

pub outside_ok : (n : Number) (text : List ℕ) (places : ℕ) (z : ℤ) (b : Bool) → places ≡ n.places → length text ≤ 64 → Reads places text z → nat_abs z ≤ 10 ^ 18
    → (IsTrue b ↔ ((to_z w128 (of_z w128 z) <ℤ n.least) ⊎ (n.most <ℤ to_z w128 (of_z w128 z)))) → IsTrue b ↔ (IsTooLarge n.places text ⊎ IsOutside n text)
outside_ok n text places z b e short h few past =
    let P : ℤ → Type 0 = λ r. (r <ℤ n.least) ⊎ (n.most <ℤ r) in
    let Q : ℕ → Type 0 = λ p. Reads p text z in
    let g : Reads n.places text z = subst Q e h in
    (λ t. inr (record { reading = z; reads = record { short = short; reads = g }; outside = subst P (held_is z few) (past.0 t) }), outside_of n text z b g few (λ o. past.1 (subst P (sym (held_is z few)) o)))

pub step_none : (o : Option ℕ) (text : List ℕ) (z : ℤ) → length text ≤ 64 → Reads 6 text z → nat_abs z ≤ 10 ^ 18 → IfNone o ((k : ℕ) → 1 ≤ k → k ≤ 1000 → to_z w128 (of_z w128 z) ≡ pos (1000 * k) → ⊥) → IfNone o (IsTrue (is_bad_number text) ⊎ IsUneven text)
step_none None text z short h few none = inr (record { reading = z; reads = record { short = short; reads = h }; uneven = λ k a b e. none k a b (held_is z few ∙ e) })
step_none (Some k) text z short h few none = tt

pub step_some : (o : Option ℕ) (text : List ℕ) (z : ℤ) → Reads 6 text z → nat_abs z ≤ 10 ^ 18 → IfSome o (λ k. (1 ≤ k) × (k ≤ 1000) × (to_z w128 (of_z w128 z) ≡ pos (1000 * k))) → IfSome o (λ k. IsUneven text → ⊥)
step_some None text z h few some = tt
step_some (Some k) text z h few some = λ u. u.uneven k some.0 some.1 (reads_once 6 text u.reading z u.reads.reads h ∙ (sym (held_is z few) ∙ some.2))

-- ---- the reading of a good number

low_of : (n : Number) (text : List ℕ) (z : ℤ) → length text ≤ 64 → Reads n.places text z → (IsTooLarge n.places text ⊎ IsOutside n text → ⊥) → n.least ≤ℤ z
low_of n text z short h fits = elim (at_most_or_above n.least z) [
  | inl l ↦ l
  | inr out ↦ absurd (fits (inr (record { reading = z; reads = record { short = short; reads = h }; outside = inl out })))
]

high_of : (n : Number) (text : List ℕ) (z : ℤ) → length text ≤ 64 → Reads n.places text z → (IsTooLarge n.places text ⊎ IsOutside n text → ⊥) → z ≤ℤ n.most
high_of n text z short h fits = elim (at_most_or_above z n.most) [
  | inl l ↦ l
  | inr out ↦ absurd (fits (inr (record { reading = z; reads = record { short = short; reads = h }; outside = inr out })))
]

short_of : (n : ℕ) (b : Bool) → (nat_lt 64 n || b) ≡ false → n ≤ 64
short_of n b h = grind (arith, nat_tests)

-- a good number is in its range
pub within_of : (n : Number) (text : List ℕ) (z : ℤ) → IsGood n text → Reads n.places text z → Within n.least n.most z
within_of n text z good h =
    let short : length text ≤ 64 = short_of (length text) (is_none (fraction_of text)) good.good in
    record { low = low_of n text z short h good.fits; high = high_of n text z short h good.fits }

-- the same as the code holds it in fewer bits
pub held_less : (z : ℤ) → nat_abs z ≤ 10 ^ 18 → to_z w64 (of_z w64 (to_z w128 (of_z w128 z))) ≡ z
held_less z few = ap (λ y. to_z w64 (of_z w64 y)) (held_is z few) ∙ to_z-of_z w64 z (omega (arith, ints))

pub within_ok : (n : Number) (text : List ℕ) (places : ℕ) (z : ℤ) → places ≡ n.places → length text ≤ 64 → Reads places text z → nat_abs z ≤ 10 ^ 18 → IsGood n text
    → Within n.least n.most (to_z w64 (of_z w64 (to_z w128 (of_z w128 z))))
within_ok n text places z e short h few good =
    let P : ℤ → Type 0 = λ r. Within n.least n.most r in
    let Q : ℕ → Type 0 = λ p. Reads p text z in
    let g : Reads n.places text z = subst Q e h in
    subst P (sym (held_less z few)) (record { low = low_of n text z short g good.fits; high = high_of n text z short g good.fits })

pub step_held : (z : ℤ) → Within (pos 0) (pos 1_000_000) z → pos (nat_abs (to_z w64 (of_z w64 z))) ≡ z
step_held z w =
    let low = w.low in
    let high = w.high in
    let same : to_z w64 (of_z w64 z) ≡ z = to_z-of_z w64 z (omega (arith, ints, low, high)) in
    ap (λ y. pos (nat_abs y)) same ∙ whole z low
  where
    whole : (z : ℤ) → pos 0 ≤ℤ z → pos (nat_abs z) ≡ z
    whole z low = omega (arith, ints)

pub abs_held : (z : ℤ) (a m : ℕ) → nat_abs z ≤ m → m ≤ 10 ^ 18 → a ≡ nat_abs (to_z w64 (of_z w64 z)) → a ≤ m
abs_held z a m few k e =
    let same : to_z w64 (of_z w64 z) ≡ z = to_z-of_z w64 z (omega (arith, ints)) in
    let s : a ≡ nat_abs z = e ∙ ap nat_abs same in omega arith

pub held_in : (z : ℤ) (m : ℕ) → nat_abs z ≤ m → m ≤ 10 ^ 18 → to_z w64 (of_z w64 z) ≡ z
held_in z m few k = to_z-of_z w64 z (omega (arith, ints))

-- ---- a number that is no fault

good_of : (text : List ℕ) (o : Option Fraction) → fraction_of text ≡ o → (f : Fraction) → o ≡ Some f → length text ≤ 64 → is_bad_number text ≡ false
good_of text None e f s short = cc
good_of text (Some g) e f s short = rw e (short_false (length text) short)
  where
    short_false : (n : ℕ) → n ≤ 64 → (nat_lt 64 n || false) ≡ false
    short_false n h = grind (arith, nat_tests)

not_both : (b : Bool) → not b ≡ true → b ≡ true → ⊥
not_both true t p = cc
not_both false t p = cc

pub good_ok : (n : Number) (text : List ℕ) (places : ℕ) (z : ℤ) (b : Bool) → places ≡ n.places → length text ≤ 64 → Reads places text z → nat_abs z ≤ 10 ^ 18
    → (IsTrue b ↔ ((to_z w128 (of_z w128 z) <ℤ n.least) ⊎ (n.most <ℤ to_z w128 (of_z w128 z)))) → IsTrue (not b) → IsGood n text
good_ok n text places z b e short h few past in_range = record {
  good = good_of text (fraction_of text) refl h.fraction h.decimal short;
  fits = λ out. not_both b in_range ((outside_ok n text places z b e short h few past).1 out);
}
