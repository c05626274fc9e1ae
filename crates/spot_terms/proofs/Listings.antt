-- The numbers of which something holds have one list.
use Rattle.std.proofs.Common.{◌≡◌, inl, inr, ℕ, ◌≤◌, ◌<◌, arith, refl, sym, List, [], ◌∷◌}
use Rattle.spot_terms.specs.Lists.{Includes, Rises, Lists}
use Rattle.spot_terms.proofs.ListLemmas.{all_included}

-- the first of a list that rises is at most each item
first_le : (x : ℕ) (xs : List ℕ) (z : ℕ) → Rises (x ∷ xs) → Includes (x ∷ xs) z → x ≤ z
first_le x xs z r (inl e) = omega arith
first_le x xs z r (inr i) = let h : x < z = all_included (λ y. x < y) xs z r.0 i in omega arith

-- lists that rise and have the same first item and the same items have the same items behind it
rest_included : (x : ℕ) (xs : List ℕ) (y : ℕ) (ys : List ℕ) (z : ℕ) → Rises (x ∷ xs) → x ≡ y → Includes xs z → Includes (y ∷ ys) z → Includes ys z
rest_included x xs y ys z r e i (inl f) = let h : x < z = all_included (λ w. x < w) xs z r.0 i in absurd (omega arith)
rest_included x xs y ys z r e i (inr j) = j

-- lists that rise and have the same items are equal
pub rising_one : (xs ys : List ℕ) → Rises xs → Rises ys → ((z : ℕ) → Includes xs z → Includes ys z) → ((z : ℕ) → Includes ys z → Includes xs z) → xs ≡ ys
rising_one [] [] r s f g = refl
rising_one [] (y ∷ ys) r s f g = absurd (g y (inl refl))
rising_one (x ∷ xs) [] r s f g = absurd (f x (inl refl))
rising_one (x ∷ xs) (y ∷ ys) r s f g =
    let low : x ≤ y = first_le x xs y r (g y (inl refl)) in
    let high : y ≤ x = first_le y ys x s (f x (inl refl)) in
    let first : x ≡ y = omega arith in
    let rest : xs ≡ ys = rising_one xs ys r.1 s.1 (λ z i. rest_included x xs y ys z r first i (f z (inr i))) (λ z i. rest_included y ys x xs z s (sym first) i (g z (inr i))) in
    cc

-- two lists of the numbers of which P holds are equal
pub lists_one : (P : ℕ → Type 0) (xs ys : List ℕ) → Lists P xs → Lists P ys → xs ≡ ys
lists_one P xs ys l m = rising_one xs ys l.rises m.rises (λ z i. m.all z (l.each z i)) (λ z i. l.all z (m.each z i))
