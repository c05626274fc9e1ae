-- The order of points in a sorted list.
use Rattle.std.proofs.Common.{◌≡◌, ℕ, zero, suc, ◌+◌, ◌≤◌, ◌<◌, arith, refl, sym, ap, subst, List, [], ◌∷◌, length, get_or, take, false, is_lt, int_cmp}
use Rattle.std.specs.Ordering.{ordering_then}
use Rattle.std.specs.List.{refill, AllByRecursion}
use Rattle.std.specs.List.Sorted.{IsPermutation, apply_swaps}
use Rattle.std.proofs.lemmas.List.Sorted.{IsPermutation-sym}
use Rattle.std.proofs.lemmas.Grind.{get_or_moved}
use Rattle.spot_terms.specs.Lists.{Includes}
use Rattle.spot_terms.proofs.ListLemmas.{includes_at}
use Rattle.spot_terms.proofs.Places.{all_by_index}
use Rattle.std.proofs.lemmas.Int.{ints}
use Rattle.std.proofs.lemmas.List.{take-append-le}
use lib.IntN.{ℤ}
use lib.Signed.{◌≤ℤ◌}
use Rattle.spot_terms.specs.declared.plain.Pt.{Pt}
use Rattle.spot_terms.proofs.Orders.{at_most_trans}
use Rattle.convex_poly.specs.Chains.{IsInOrder}

x_order : (a b c d : ℤ) → is_lt (ordering_then (int_cmp a b) (int_cmp c d)) ≡ false → b ≤ℤ a
x_order a b c d h = grind (arith, ints)

y_order : (a b c d : ℤ) → is_lt (ordering_then (int_cmp a b) (int_cmp c d)) ≡ false → b ≡ a → d ≤ℤ c
y_order a b c d h e = grind (arith, ints)

pub in_order : (p q : Pt) → is_lt (ordering_then (int_cmp p.x q.x) (int_cmp p.y q.y)) ≡ false → IsInOrder q p
in_order p q h = record { by_x = x_order p.x q.x p.y q.y h; by_y = y_order p.x q.x p.y q.y h }

pub in_order_on : (p q r : Pt) → IsInOrder p q → IsInOrder q r → IsInOrder p r
in_order_on p q r a b = record {
  by_x = at_most_trans p.x q.x r.x a.by_x b.by_x;
  by_y = λ e. at_most_trans p.y q.y r.y (a.by_y (pinned p.x q.x r.x a.by_x b.by_x e)) (b.by_y (pinned_right p.x q.x r.x a.by_x b.by_x e));
}
  where
    pinned : (z w u : ℤ) → z ≤ℤ w → w ≤ℤ u → z ≡ u → z ≡ w
    pinned z w u h k e = omega (arith, ints)

    pinned_right : (z w u : ℤ) → z ≤ℤ w → w ≤ℤ u → z ≡ u → w ≡ u
    pinned_right z w u h k e = omega (arith, ints)

take_all : (xs : List Pt) (n : ℕ) → n ≡ length xs → take n xs ≡ xs
take_all [] zero h = refl
take_all [] (suc n) h = absurd (omega arith)
take_all (x ∷ xs) zero h = absurd (omega arith)
take_all (x ∷ xs) (suc n) h = ap (λ l. x ∷ l) (take_all xs n (omega arith))

pub refill_whole : (n : ℕ) (xs ws : List Pt) → length ws ≡ n → refill n xs ws ≡ ws
refill_whole n xs ws h =
    let le : n ≤ length ws = omega arith in
    rw take-append-le (take_all ws n (sym h))

-- neighbours in order give all in order
pub all_in_order : (xs : List Pt) → ((k : ℕ) (d : Pt) → k + 1 < length xs → IsInOrder (get_or xs k d) (get_or xs (k + 1) d)) → (i n : ℕ) (d : Pt) → i + (n + 1) < length xs → IsInOrder (get_or xs i d) (get_or xs (i + (n + 1)) d)
all_in_order xs h i zero d l = subst (λ m. IsInOrder (get_or xs i d) (get_or xs m d)) (omega arith) (h i d (omega arith))
all_in_order xs h i (suc n) d l =
    in_order_on (get_or xs i d) (get_or xs (i + (n + 1)) d) (get_or xs (i + (suc n + 1)) d) (all_in_order xs h i n d (omega arith))
    (subst (λ m. IsInOrder (get_or xs (i + (n + 1)) d) (get_or xs m d)) (omega arith) (h (i + (n + 1)) d (omega arith)))

-- a permutation has the same items
pub permuted_in : (xs ys : List Pt) → IsPermutation xs ys → AllByRecursion (Includes xs) ys
permuted_in xs ys p = subst (λ z. AllByRecursion (Includes xs) z) (sym p.is)
    (all_by_index (Includes xs) (apply_swaps xs p.moves) (λ k d l. let (j, m, e) = (get_or_moved xs p.moves k d p.below l).1 in subst (Includes xs) (sym e) (includes_at xs j d m)))

pub permuted_all : (xs ys : List Pt) → IsPermutation xs ys → AllByRecursion (Includes ys) xs
permuted_all xs ys p = permuted_in ys xs (IsPermutation-sym xs ys p)
