-- The fraction of a text by its parts.
use Rattle.std.proofs.Common.{◌≡◌, ◌∙◌, ℕ, ◌+◌, ◌≤◌, Bool, true, false, List, [], ◌∷◌, ◌==◌, if◌then◌else◌, length, Option, Some, None, unwrap_or, Bor, ap, sym, refl, arith}
use Rattle.std.specs.Option.{option_copied}
use Rattle.spot_terms.specs.Decimal.{fraction_of, scaled, signed_part, head_part, tail_part, is_exponent, is_point, digits_part}
use Rattle.spot_decimal.specs.Written.{power_part}
use Rattle.spot_decimal.proofs.Cuts.{tail_length, cut_short}

-- the text begins with a sign, and what follows is cut at its first `e`
pub record IsParted (text rest head : List ℕ) (tail : Option (List ℕ)) : Type 0 where
  pub rest_is : rest ≡ (signed_part text).1
  pub head_is : head ≡ head_part is_exponent rest
  pub tail_is : tail ≡ tail_part is_exponent rest

no_digits : (text : List ℕ) → digits_part (head_part is_exponent (signed_part text).1) ≡ None → fraction_of text ≡ None
unfolding fraction_of
no_digits text e = rw e refl

no_power : (text : List ℕ) (d : ℕ × ℕ) → digits_part (head_part is_exponent (signed_part text).1) ≡ Some d → power_part (tail_part is_exponent (signed_part text).1) ≡ None → fraction_of text ≡ None
unfolding fraction_of
no_power text d e p = rw (e, p) refl

is_scaled : (text : List ℕ) (d : ℕ × ℕ) (x : Bool × ℕ) → digits_part (head_part is_exponent (signed_part text).1) ≡ Some d → power_part (tail_part is_exponent (signed_part text).1) ≡ Some x → fraction_of text ≡ Some (scaled (signed_part text).0 d.1 d.0 x)
unfolding fraction_of
is_scaled text d x e p = rw (e, p) refl

head_of : (text rest head : List ℕ) (tail : Option (List ℕ)) → IsParted text rest head tail → head_part is_exponent (signed_part text).1 ≡ head
head_of text rest head tail h = ap (λ (z : List ℕ). head_part is_exponent z) (sym h.rest_is) ∙ sym h.head_is

tail_of : (text rest head : List ℕ) (tail : Option (List ℕ)) → IsParted text rest head tail → tail_part is_exponent (signed_part text).1 ≡ tail
tail_of text rest head tail h = ap (λ (z : List ℕ). tail_part is_exponent z) (sym h.rest_is) ∙ sym h.tail_is

pub without_digits : (text rest head : List ℕ) (tail : Option (List ℕ)) → IsParted text rest head tail → digits_part head ≡ None → fraction_of text ≡ None
without_digits text rest head tail h e = no_digits text (ap digits_part (head_of text rest head tail h) ∙ e)

pub without_power : (text rest head : List ℕ) (tail : Option (List ℕ)) (d : ℕ × ℕ) → IsParted text rest head tail → digits_part head ≡ Some d → power_part tail ≡ None → fraction_of text ≡ None
without_power text rest head tail d h e p = no_power text d (ap digits_part (head_of text rest head tail h) ∙ e) (ap power_part (tail_of text rest head tail h) ∙ p)

pub with_parts : (text rest head : List ℕ) (tail : Option (List ℕ)) (d : ℕ × ℕ) (x : Bool × ℕ) → IsParted text rest head tail → digits_part head ≡ Some d → power_part tail ≡ Some x → fraction_of text ≡ Some (scaled (signed_part text).0 d.1 d.0 x)
with_parts text rest head tail d x h e p = is_scaled text d x (ap digits_part (head_of text rest head tail h) ∙ e) (ap power_part (tail_of text rest head tail h) ∙ p)

abbrev sign_of : Bool → Bool → ℕ → List ℕ → Bool × List ℕ
sign_of minus plus c cs = if minus then (true, cs) else if plus then (false, cs) else (false, c ∷ cs)

sign_step : (minus plus : Bool) (c : ℕ) (cs : List ℕ) → length (sign_of minus plus c cs).1 ≤ length (c ∷ cs)
sign_step true plus c cs = omega arith
sign_step false true c cs = omega arith
sign_step false false c cs = omega arith

sign_short : (text : List ℕ) → length (signed_part text).1 ≤ length text
sign_short [] = omega arith
sign_short (c ∷ cs) = sign_step (c == 45) (c == 43) c cs

-- what is in front of the exponent is no longer than the text
pub head_short : (text rest head : List ℕ) (tail : Option (List ℕ)) → IsParted text rest head tail → length head ≤ length text
head_short text rest head tail h = omega (arith, ap length h.head_is, ap length h.rest_is, sign_short text, cut_short is_exponent rest)

part_length : (tail : Option (Bor (List ℕ))) (none part : Bor (List ℕ)) → none.now ≡ [] → part ≡ unwrap_or tail none → length part.now ≡ tail_length (option_copied tail)
part_length None none part e p = ap (λ (z : Bor (List ℕ)). length z.now) p ∙ ap length e
part_length (Some x) none part e p = ap (λ (z : Bor (List ℕ)). length z.now) p

-- the digits before and behind the point are no more than the text
pub digits_short : (text head : List ℕ) (tail : Option (Bor (List ℕ))) (none part : Bor (List ℕ)) → none.now ≡ [] → part ≡ unwrap_or tail none → head ≡ head_part is_point text → option_copied tail ≡ tail_part is_point text → length head + length part.now ≤ length text
digits_short text head tail none part e p h t = omega (arith, part_length tail none part e p, ap length h, ap tail_length t, cut_short is_point text)
