-- Two lists in step, by the places of their items.
use Rattle.std.proofs.Common.{ℕ, zero, suc, ◌≡◌, ◌<◌, List, [], ◌∷◌, map, length, get_or, ℤ, pos, ◌≤ℤ◌, arith}
use Rattle.spot_terms.specs.Lists.{Pairwise}

abbrev pub AtMost : List ℤ → List ℤ → Type 0
AtMost xs ys = Pairwise (λ x y. x ≤ℤ y) xs ys

pub at_most_from : (xs ys : List ℤ) → length xs ≡ length ys → ((k : ℕ) → k < length xs → get_or xs k (pos 0) ≤ℤ get_or ys k (pos 0)) → AtMost xs ys
at_most_from [] [] e h = tt
at_most_from [] (y ∷ ys) e h = absurd (omega (arith, e))
at_most_from (x ∷ xs) [] e h = absurd (omega (arith, e))
at_most_from (x ∷ xs) (y ∷ ys) e h = (h zero (omega arith), at_most_from xs ys (omega (arith, e)) (λ k l. h (suc k) (omega (arith, l))))

pub at_most_at : (xs ys : List ℤ) (k : ℕ) → k < length xs → AtMost xs ys → get_or xs k (pos 0) ≤ℤ get_or ys k (pos 0)
at_most_at [] ys k l h = absurd (omega (arith, l))
at_most_at (x ∷ xs) [] k l h = absurd h
at_most_at (x ∷ xs) (y ∷ ys) zero l h = h.0
at_most_at (x ∷ xs) (y ∷ ys) (suc k) l h = at_most_at xs ys k (omega (arith, l)) h.1

-- each item of a list that f makes stands for what it was made of
pub from_map : {A B C : Type 0} (f : A → B) (R : B → C → Type 0) (xs : List A) (ys : List C) → Pairwise R (map f xs) ys → Pairwise (λ x y. R (f x) y) xs ys
from_map f R [] [] h = tt
from_map f R [] (y ∷ ys) h = h
from_map f R (x ∷ xs) [] h = h
from_map f R (x ∷ xs) (y ∷ ys) h = (h.0, from_map f R xs ys h.1)

pub to_map : {A B C : Type 0} (f : A → B) (R : B → C → Type 0) (xs : List A) (ys : List C) → Pairwise (λ x y. R (f x) y) xs ys → Pairwise R (map f xs) ys
to_map f R [] [] h = tt
to_map f R [] (y ∷ ys) h = h
to_map f R (x ∷ xs) [] h = h
to_map f R (x ∷ xs) (y ∷ ys) h = (h.0, to_map f R xs ys h.1)
