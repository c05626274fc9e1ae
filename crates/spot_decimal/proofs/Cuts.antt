-- A text cut at its first mark.
use Rattle.std.proofs.Common.{◌≡◌, ◌∙◌, ℕ, suc, ◌+◌, ◌<◌, ◌≤◌, Bool, true, false, cond, not, nat_lt, List, [], ◌∷◌, length, take, drop, Option, Some, None, ap, sym, refl, arith}
use Rattle.std.proofs.lemmas.List.{take_all}
use Rattle.std.proofs.lemmas.Bool.{ltb-true, ltb-false}
use Rattle.std.specs.List.{position, position_or_len}
use Rattle.spot_terms.specs.Decimal.{head_part, tail_part}
use Rattle.spot_decimal.specs.Written.{head_to, tail_from}

one_more : (n : ℕ) → 1 + n ≡ suc n
one_more n = omega arith

head_step : (b : Bool) (x n : ℕ) (xs ys : List ℕ) → take n xs ≡ ys → take (cond (not b) (1 + n) 0) (x ∷ xs) ≡ cond b [] (x ∷ ys)
head_step true x n xs ys e = refl
head_step false x n xs ys e = rw one_more (ap (λ (z : List ℕ). x ∷ z) e)

-- the front of a text before a mark
head_taken : (p : ℕ → Bool) (xs : List ℕ) → take (position_or_len p xs) xs ≡ head_part p xs
head_taken p [] = refl
head_taken p (x ∷ xs) = head_step (p x) x (position_or_len p xs) xs (head_part p xs) (head_taken p xs)

tail_step : (b : Bool) (x n : ℕ) (xs : List ℕ) (t : Option (List ℕ)) → (n < length xs → t ≡ Some (drop (n + 1) xs)) → cond (not b) (1 + n) 0 < length (x ∷ xs) → cond b (Some xs) t ≡ Some (drop (cond (not b) (1 + n) 0 + 1) (x ∷ xs))
tail_step true x n xs t e h = refl
tail_step false x n xs t e h = let s : 1 + n + 1 ≡ suc (n + 1) = omega arith in rw s (e (omega (arith, h)))

tail_dropped : (p : ℕ → Bool) (xs : List ℕ) → position_or_len p xs < length xs → tail_part p xs ≡ Some (drop (position_or_len p xs + 1) xs)
tail_dropped p [] h = absurd (omega (arith, h))
tail_dropped p (x ∷ xs) h = tail_step (p x) x (position_or_len p xs) xs (tail_part p xs) (tail_dropped p xs) h

none_step : (b : Bool) (x n : ℕ) (xs : List ℕ) (t : Option (List ℕ)) → (length xs ≤ n → t ≡ None) → length (x ∷ xs) ≤ cond (not b) (1 + n) 0 → cond b (Some xs) t ≡ None
none_step true x n xs t e h = absurd (omega (arith, h))
none_step false x n xs t e h = e (omega (arith, h))

no_tail : (p : ℕ → Bool) (xs : List ℕ) → length xs ≤ position_or_len p xs → tail_part p xs ≡ None
no_tail p [] h = refl
no_tail p (x ∷ xs) h = none_step (p x) x (position_or_len p xs) xs (tail_part p xs) (no_tail p xs) h

head_at : (p : ℕ → Bool) (n : ℕ) (xs : List ℕ) (t : Bool) → take n xs ≡ head_part p xs → nat_lt n (length xs) ≡ t → head_to (cond t (Some n) None) xs ≡ head_part p xs
head_at p n xs true e h = e
head_at p n xs false e h = sym (take_all n xs (ltb-false n (length xs) h)) ∙ e

-- a cut at the first mark
pub head_is : (p : ℕ → Bool) (xs : List ℕ) → head_to (position p xs) xs ≡ head_part p xs
head_is p xs = head_at p (position_or_len p xs) xs (nat_lt (position_or_len p xs) (length xs)) (head_taken p xs) refl

tail_at : (n : ℕ) (xs : List ℕ) (t : Option (List ℕ)) (b : Bool) → (n < length xs → t ≡ Some (drop (n + 1) xs)) → (length xs ≤ n → t ≡ None) → nat_lt n (length xs) ≡ b → tail_from (cond b (Some n) None) xs ≡ t
tail_at n xs t true e f h = sym (e (ltb-true n (length xs) h))
tail_at n xs t false e f h = sym (f (ltb-false n (length xs) h))

pub tail_is : (p : ℕ → Bool) (xs : List ℕ) → tail_from (position p xs) xs ≡ tail_part p xs
tail_is p xs = tail_at (position_or_len p xs) xs (tail_part p xs) (nat_lt (position_or_len p xs) (length xs)) (tail_dropped p xs) (no_tail p xs) refl

-- the length of what stands behind a mark
abbrev pub tail_length : Option (List ℕ) → ℕ
tail_length None = 0
tail_length (Some xs) = length xs

short_step : (b : Bool) (x : ℕ) (xs ys : List ℕ) (t : Option (List ℕ)) → length ys + tail_length t ≤ length xs → length (cond b [] (x ∷ ys)) + tail_length (cond b (Some xs) t) ≤ length (x ∷ xs)
short_step true x xs ys t h = omega arith
short_step false x xs ys t h = omega (arith, h)

pub cut_short : (p : ℕ → Bool) (xs : List ℕ) → length (head_part p xs) + tail_length (tail_part p xs) ≤ length xs
cut_short p [] = omega arith
cut_short p (x ∷ xs) = short_step (p x) x xs (head_part p xs) (tail_part p xs) (cut_short p xs)
