-- How many of a list pass a test.
use Rattle.std.proofs.Common.{◌≡◌, ◌∙◌, ℕ, zero, suc, ◌+◌, ◌<◌, ◌≤◌, List, [], ◌∷◌, length, get_or, Bool, true, false, cond, refl, ap, arith}
use Rattle.std.specs.List.{count_by}
use Rattle.std.specs.List.Sorted.{IsPermutation, IsPartitionPoint}
use Rattle.std.proofs.lemmas.List.Sorted.{sum_by-IsPermutation}
use Rattle.std.proofs.lemmas.List.Sums.{sum_by-cons}

pub count_cons : {X : Type 0} (p : X → Bool) (x : X) (xs : List X) (b : Bool) → p x ≡ b → count_by p (x ∷ xs) ≡ cond b 1 0 + count_by p xs
count_cons p x xs b e = sum_by-cons (λ y. cond (p y) 1 0) x xs ∙ ap (λ t. cond t 1 0 + count_by p xs) e

pub count_permutation : {X : Type 0} (p : X → Bool) (xs ys : List X) → IsPermutation xs ys → count_by p ys ≡ count_by p xs
count_permutation p xs ys h = sum_by-IsPermutation (λ x. cond (p x) 1 0) xs ys h

-- ---- those in front of a place, and none behind it

pub count_none : {X : Type 0} (p : X → Bool) (xs : List X) → ((k : ℕ) (d : X) → k < length xs → p (get_or xs k d) ≡ false) → count_by p xs ≡ 0
count_none p [] h = refl
count_none p (x ∷ xs) h = count_cons p x xs false (h 0 x (omega arith)) ∙ (ap (λ n. 0 + n) (count_none p xs (λ k d l. h (suc k) d (omega arith))) ∙ refl)

pub count_front : {X : Type 0} (p : X → Bool) (xs : List X) (i : ℕ) → i ≤ length xs → ((k : ℕ) (d : X) → k < i → p (get_or xs k d) ≡ true) → ((k : ℕ) (d : X) → i ≤ k → k < length xs → p (get_or xs k d) ≡ false) → count_by p xs ≡ i
count_front p [] i h front back = omega arith
count_front p (x ∷ xs) zero h front back = count_none p (x ∷ xs) (λ k d l. back k d (omega arith) l)
count_front p (x ∷ xs) (suc i) h front back =
    let rest = count_front p xs i (omega arith) (λ k d l. front (suc k) d (omega arith)) (λ k d a l. back (suc k) d (omega arith) (omega arith)) in
    let head = count_cons p x xs true (front 0 x (omega arith)) in omega (arith, rest, head)

pub count_point : {X : Type 0} (p : X → Bool) (xs : List X) (i : ℕ) → i ≤ length xs → IsPartitionPoint (λ y. p y ≡ true) (λ y. p y ≡ false) xs i → count_by p xs ≡ i
count_point p xs i h point = count_front p xs i h (λ k d l. point.0 k d (omega arith) l) (λ k d a l. point.1 k d a l)
