-- The item at a place of a list, and the list from there on.
use Rattle.std.proofs.Common.{◌≡◌, ◌∙◌, ◌⊎◌, inl, inr, ap, refl, sym, ◌++◌, take, ℕ, zero, suc, ◌+◌, ◌<◌, List, [], ◌∷◌, length, drop, get_or, set, subst, add-one}
use Rattle.std.proofs.lemmas.List.{take_more}
use Rattle.std.proofs.lemmas.Option.{slice_get_read, get_or_from_slice_get}
use Rattle.std.specs.Prelude.{Some, slice_get}
use Rattle.std.specs.List.{AllByRecursion}
use Rattle.spot_terms.specs.Lists.{Includes, Pairwise}
use Rattle.spot_terms.proofs.Unique.{some_injective}
use Rattle.spot_terms.proofs.ItemPlaces.{got_below}

pub drop_at : {X : Type 0} (xs : List X) (k m : ℕ) (x : X) → m ≡ k + 1 → slice_get xs k ≡ Some x → drop k xs ≡ x ∷ drop m xs
drop_at xs k m x e h = rw (e, add-one) (at xs k x h)
  where
    at : {X : Type 0} (xs : List X) (k : ℕ) (x : X) → slice_get xs k ≡ Some x → drop k xs ≡ x ∷ drop (suc k) xs
    at [] k x h = cc
    at (y ∷ ys) zero x h = cc
    at (y ∷ ys) (suc k) x h = at ys k x h

pub all_got : {X : Type 0} (P : X → Type 0) (xs : List X) (k : ℕ) (x : X) → AllByRecursion P xs → slice_get xs k ≡ Some x → P x
all_got P [] k x a h = cc
all_got P (y ∷ ys) zero x a h = subst P (some_injective y x h) a.0
all_got P (y ∷ ys) (suc k) x a h = all_got P ys k x a.1 h

pub get_set_same : {X : Type 0} (xs : List X) (k : ℕ) (old x : X) → slice_get xs k ≡ Some old → slice_get (set xs k x) k ≡ Some x
get_set_same [] k old x h = cc
get_set_same (y ∷ ys) zero old x h = refl
get_set_same (y ∷ ys) (suc k) old x h = get_set_same ys k old x h

pub get_set_other : {X : Type 0} (xs : List X) (j k : ℕ) (x : X) → (j ≡ k → ⊥) → slice_get (set xs k x) j ≡ slice_get xs j
get_set_other [] j k x h = refl
get_set_other (y ∷ ys) zero zero x h = absurd (h refl)
get_set_other (y ∷ ys) zero (suc k) x h = refl
get_set_other (y ∷ ys) (suc j) zero x h = refl
get_set_other (y ∷ ys) (suc j) (suc k) x h = get_set_other ys j k x (λ e. h (ap (λ (n : ℕ). suc n) e))

-- the item that was read at a place
pub read_at : {X : Type 0} (xs : List X) (k : ℕ) (x : X) → k < length xs → x ≡ get_or xs k x → slice_get xs k ≡ Some x
read_at xs k x h e = slice_get_read xs (length xs) k x refl h e

-- ---- places of lists that grow or are taken from

pub take_at : {X : Type 0} (xs : List X) (k m : ℕ) (x : X) → m ≡ k + 1 → slice_get xs k ≡ Some x → take m xs ≡ take k xs ++ x ∷ []
take_at xs k m x e h = let l = got_below xs k x h in rw e (take_more xs k x l ∙ ap (λ y. take k xs ++ y ∷ []) (get_or_from_slice_get xs k x x h))

pub get_pushed : {X : Type 0} (xs : List X) (x y : X) (k : ℕ) → slice_get (xs ++ x ∷ []) k ≡ Some y → (slice_get xs k ≡ Some y) ⊎ ((k ≡ length xs) × (y ≡ x))
get_pushed [] x y zero h = inr (refl, cc)
get_pushed [] x y (suc k) h = cc
get_pushed (z ∷ zs) x y zero h = inl h
get_pushed (z ∷ zs) x y (suc k) h = elim (get_pushed zs x y k h) [ inl g ↦ inl g | inr g ↦ inr (ap (λ (n : ℕ). suc n) g.0, g.1) ]

pub same_at : {X : Type 0} (xs : List X) (k : ℕ) (x y : X) → slice_get xs k ≡ Some x → slice_get xs k ≡ Some y → x ≡ y
same_at xs k x y h g = cc

pub place_of_item : {X : Type 0} (xs : List X) (x : X) → Includes xs x → (k : ℕ) × (slice_get xs k ≡ Some x)
place_of_item [] x i = absurd i
place_of_item (y ∷ ys) x (inl e) = (0, ap (λ z. Some z) (sym e))
place_of_item (y ∷ ys) x (inr i) = let (k, h) = place_of_item ys x i in (suc k, h)

-- the partner of the item at a place
pub partner_at : {X Y : Type 0} (R : X → Y → Type 0) (xs : List X) (ys : List Y) (k : ℕ) (x : X) (y : Y) → Pairwise R xs ys → slice_get xs k ≡ Some x → slice_get ys k ≡ Some y → R x y
partner_at R [] ys k x y p h g = cc
partner_at R (a ∷ xs) [] k x y p h g = absurd p
partner_at R (a ∷ xs) (b ∷ ys) zero x y p h g = subst (R x) (some_injective b y g) (subst (λ z. R z b) (some_injective a x h) p.0)
partner_at R (a ∷ xs) (b ∷ ys) (suc k) x y p h g = partner_at R xs ys k x y p.1 h g

pub same_lengths : {X Y : Type 0} (R : X → Y → Type 0) (xs : List X) (ys : List Y) → Pairwise R xs ys → length ys ≡ length xs
same_lengths R [] [] p = refl
same_lengths R [] (y ∷ ys) p = absurd p
same_lengths R (x ∷ xs) [] p = absurd p
same_lengths R (x ∷ xs) (y ∷ ys) p = ap (λ (n : ℕ). suc n) (same_lengths R xs ys p.1)
