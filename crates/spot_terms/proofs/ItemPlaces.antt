-- Items of lists at their places, where the list is changed, grows or is cut off.
use Rattle.std.proofs.Common.{◌≡◌, ℕ, zero, suc, ◌<◌, ◌⊎◌, inl, inr, arith, refl, sym, subst, List, [], ◌∷◌, ◌++◌, map, length, take, drop}
use Rattle.std.specs.Prelude.{slice_get, slice_set, Some, None}
use Rattle.std.proofs.lemmas.List.{append-nil, drop_all, take_all}
use Rattle.std.proofs.lemmas.Option.{none-some, same_Some}
use Rattle.spot_terms.proofs.Places.{compare3}
use Rattle.spot_terms.specs.Lists.{Includes}

-- ---- a list with one item changed

-- at the place that was changed
get_set_same : {X : Type 0} (xs : List X) (i : ℕ) (x : X) → i < length xs → slice_get (slice_set xs i x) i ≡ Some x
get_set_same [] i x h = absurd (omega arith)
get_set_same (y ∷ xs) zero x h = refl
get_set_same (y ∷ xs) (suc i) x h = get_set_same xs i x (omega arith)

-- at another place
get_set_other : {X : Type 0} (xs : List X) (i j : ℕ) (x : X) → (i < j) ⊎ (j < i) → slice_get (slice_set xs i x) j ≡ slice_get xs j
get_set_other [] i j x h = refl
get_set_other (y ∷ xs) zero zero x h = elim h [ inl l ↦ absurd (omega arith) | inr l ↦ absurd (omega arith) ]
get_set_other (y ∷ xs) zero (suc j) x h = refl
get_set_other (y ∷ xs) (suc i) zero x h = refl
get_set_other (y ∷ xs) (suc i) (suc j) x h = get_set_other xs i j x (elim h [ inl l ↦ inl (omega arith) | inr l ↦ inr (omega arith) ])

-- the item at place j is the new one, or the one that was item_at
pub get_set_either : {X : Type 0} (xs : List X) (i j : ℕ) (x : X) → i < length xs → ((j ≡ i) × (slice_get (slice_set xs i x) j ≡ Some x)) ⊎ (((i < j) ⊎ (j < i)) × (slice_get (slice_set xs i x) j ≡ slice_get xs j))
get_set_either xs i j x h = compare3 j i
    (λ l. inr (inr l, get_set_other xs i j x (inr l)))
    (λ e. inl (e, subst (λ (k : ℕ). slice_get (slice_set xs i x) k ≡ Some x) (sym e) (get_set_same xs i x h)))
    (λ l. inr (inl l, get_set_other xs i j x (inl l)))

-- ---- one more item

-- an item of the front
pub get_front : {X : Type 0} (xs ys : List X) (i : ℕ) → i < length xs → slice_get (xs ++ ys) i ≡ slice_get xs i
get_front [] ys i h = absurd (omega arith)
get_front (x ∷ xs) ys zero h = refl
get_front (x ∷ xs) ys (suc i) h = get_front xs ys i (omega arith)

-- the item that was added
pub get_last : {X : Type 0} (xs : List X) (i : ℕ) (x : X) → i ≡ length xs → slice_get (xs ++ x ∷ []) i ≡ Some x
get_last [] zero x e = refl
get_last [] (suc i) x e = absurd (omega (arith, e))
get_last (y ∷ xs) zero x e = absurd (omega (arith, e))
get_last (y ∷ xs) (suc i) x e = get_last xs i x (omega (arith, e))

-- an item is one of the front, or the one that was added
pub get_either : {X : Type 0} (xs : List X) (i : ℕ) (x y : X) → slice_get (xs ++ x ∷ []) i ≡ Some y → (slice_get xs i ≡ Some y) ⊎ ((i ≡ length xs) × (y ≡ x))
get_either [] zero x y e = inr (refl, sym (same_Some x y e))
get_either [] (suc i) x y e = absurd (none-some y e)
get_either (z ∷ xs) zero x y e = inl e
get_either (z ∷ xs) (suc i) x y e = elim (get_either xs i x y e) [ inl h ↦ inl h | inr h ↦ inr (let k = h.0 in omega (arith, k), h.1) ]

-- ---- a list that is cut off

-- what the front has, the list has
pub get_take : {X : Type 0} (xs : List X) (n i : ℕ) (x : X) → slice_get (take n xs) i ≡ Some x → (i < n) × (slice_get xs i ≡ Some x)
get_take [] zero i x h = absurd (none-some x h)
get_take [] (suc n) i x h = absurd (none-some x h)
get_take (y ∷ xs) zero i x h = absurd (none-some x h)
get_take (y ∷ xs) (suc n) zero x h = (omega arith, h)
get_take (y ∷ xs) (suc n) (suc i) x h = let (l, e) = get_take xs n i x h in (omega (arith, l), e)

-- and the front has what the list has item_at
pub get_of_take : {X : Type 0} (xs : List X) (n i : ℕ) (x : X) → i < n → slice_get xs i ≡ Some x → slice_get (take n xs) i ≡ Some x
get_of_take xs zero i x l h = absurd (omega (arith, l))
get_of_take [] (suc n) i x l h = h
get_of_take (y ∷ xs) (suc n) zero x l h = h
get_of_take (y ∷ xs) (suc n) (suc i) x l h = get_of_take xs n i x (omega (arith, l)) h

-- each place below the length has an item
pub item_at : {X : Type 0} (xs : List X) (i : ℕ) → i < length xs → (x : X) × (slice_get xs i ≡ Some x)
item_at [] i h = absurd (omega arith)
item_at (x ∷ xs) zero h = (x, refl)
item_at (x ∷ xs) (suc i) h = item_at xs i (omega arith)

-- a list whose items were all written anew
pub written : {X : Type 0} (n : ℕ) (xs ys : List X) → n ≡ length ys → length xs ≡ length ys → take n (xs ++ drop (length xs) ys) ≡ xs
written n xs ys e f = subst (λ (z : List _). take n (xs ++ z) ≡ xs) (sym (drop_all (length xs) ys (omega (arith, f)))) (subst (λ (z : List _). take n z ≡ xs) (sym (append-nil xs)) (take_all n xs (omega (arith, e, f))))

-- ---- an item and the list

pub got_included : {X : Type 0} (xs : List X) (k : ℕ) (x : X) → slice_get xs k ≡ Some x → Includes xs x
got_included [] k x h = cc
got_included (y ∷ ys) zero x h = let e : x ≡ y = cc in inl e
got_included (y ∷ ys) (suc k) x h = inr (got_included ys k x h)

pub got_below : {X : Type 0} (xs : List X) (k : ℕ) (x : X) → slice_get xs k ≡ Some x → k < length xs
got_below [] k x h = cc
got_below (y ∷ ys) zero x h = omega arith
got_below (y ∷ ys) (suc k) x h = let b = got_below ys k x h in omega (arith, b)

-- what stands at a place of a list of images
pub image_at : {X Y : Type 0} (f : X → Y) (xs : List X) (j : ℕ) (y : Y) → slice_get (map f xs) j ≡ Some y → (x : X) × (slice_get xs j ≡ Some x) × (f x ≡ y)
image_at f [] j y e = absurd (let g : None ≡ Some y = e in cc)
image_at f (x ∷ xs) zero y e = (x, refl, let g : Some (f x) ≡ Some y = e in cc)
image_at f (x ∷ xs) (suc j) y e = image_at f xs j y e
