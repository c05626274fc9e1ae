-- Sums over the numbers below one.
use Rattle.std.proofs.Common.{◌≡◌, ◌∙◌, refl, subst, arith, ℕ, suc, ◌+◌, List, [], ◌∷◌, ◌++◌, sum_by}
use Rattle.std.proofs.lemmas.List.Sums.{sum_by-cons}
use Rattle.spot_terms.specs.Lists.{numbers_below}

sum_push : (f : ℕ → ℕ) (xs : List ℕ) (n : ℕ) → sum_by f (xs ++ n ∷ []) ≡ sum_by f xs + f n
sum_push f [] n = sum_by-cons f n [] ∙ omega arith
sum_push f (x ∷ xs) n =
    let a = sum_by-cons f x (xs ++ n ∷ []) in
    let b = sum_push f xs n in
    let c = sum_by-cons f x xs in
    omega (arith, a, b, c)

sum_below : (f : ℕ → ℕ) (n : ℕ) → sum_by f (numbers_below (suc n)) ≡ sum_by f (numbers_below n) + f n
unfolding numbers_below
sum_below f n = sum_push f (numbers_below n) n

-- of one number more
pub sum_next : (f : ℕ → ℕ) (n m : ℕ) → m ≡ n + 1 → sum_by f (numbers_below m) ≡ sum_by f (numbers_below n) + f n
sum_next f n m e = subst (λ (k : ℕ). sum_by f (numbers_below k) ≡ sum_by f (numbers_below n) + f n) (omega (arith, e)) (sum_below f n)

-- of none
pub sum_none : (f : ℕ → ℕ) → sum_by f (numbers_below 0) ≡ 0
unfolding numbers_below
sum_none f = refl
