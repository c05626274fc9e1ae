-- Lists in which no item stands twice, and where what such lists are made of comes from.
use Rattle.std.proofs.Common.{◌≡◌, ◌⊎◌, inl, inr, Bool, true, false, cond, List, [], ◌∷◌, ◌++◌, filter, refl, sym, subst}
use Rattle.std.specs.List.{flat_map}
use Rattle.spot_terms.specs.Lists.{Includes, AreDistinct}
use Rattle.spot_terms.proofs.ListLemmas.{includes_back, includes_either, includes_front}
use Rattle.spot_terms.proofs.Members.{in_flat_map}

-- ---- where an item comes from

-- what one item adds to the items that pass a test
one_kept : {X : Type 0} (test : X → Bool) (y : X) (ys : List X) (x : X) (b : Bool) → Includes (cond b (y ∷ filter test ys) (filter test ys)) x → (x ≡ y) ⊎ Includes (filter test ys) x
one_kept test y ys x true h = h
one_kept test y ys x false h = inr h

pub from_filter : {X : Type 0} (test : X → Bool) (xs : List X) (x : X) → Includes (filter test xs) x → Includes xs x
from_filter test [] x h = absurd h
from_filter test (y ∷ xs) x h = elim (one_kept test y xs x (test y) h) [ inl e ↦ inl e | inr k ↦ inr (from_filter test xs x k) ]

-- ---- lists made of others

pub distinct_append : {X : Type 0} (xs ys : List X) → AreDistinct xs → AreDistinct ys → ((x : X) → Includes xs x → Includes ys x → ⊥) → AreDistinct (xs ++ ys)
distinct_append [] ys d e apart = e
distinct_append (x ∷ xs) ys d e apart = (λ h. elim (includes_either xs ys x h) [ inl k ↦ d.0 k | inr k ↦ apart x (inl refl) k ], distinct_append xs ys d.1 e (λ y h k. apart y (inr h) k))

-- where no two items have one in common
pub distinct_flat_map : {X Y : Type 0} (f : X → List Y) (xs : List X) → AreDistinct xs → ((x : X) → AreDistinct (f x)) → ((x y : X) (z : Y) → Includes (f x) z → Includes (f y) z → x ≡ y) → AreDistinct (flat_map f xs)
distinct_flat_map f [] d each one = tt
distinct_flat_map f (x ∷ xs) d each one =
    let P : _ → Type 0 = λ y. Includes xs y in
    distinct_append (f x) (flat_map f xs) (each x) (distinct_flat_map f xs d.1 each one) (λ z h k. let from = in_flat_map f xs z k in d.0 (subst P (sym (one x from.0 z h from.2)) from.1))

one_more : {X : Type 0} (x : X) (xs : List X) (b : Bool) → (Includes xs x → ⊥) → AreDistinct xs → AreDistinct (cond b (x ∷ xs) xs)
one_more x xs true absent d = (absent, d)
one_more x xs false absent d = d

pub distinct_filter : {X : Type 0} (test : X → Bool) (xs : List X) → AreDistinct xs → AreDistinct (filter test xs)
distinct_filter test [] d = tt
distinct_filter test (x ∷ xs) d = one_more x (filter test xs) (test x) (λ h. d.0 (from_filter test xs x h)) (distinct_filter test xs d.1)

-- ---- the parts of such a list

pub apart_append : {X : Type 0} (xs ys : List X) (x : X) → AreDistinct (xs ++ ys) → Includes xs x → Includes ys x → ⊥
apart_append [] ys x d h k = absurd h
apart_append (z ∷ xs) ys x d (inl s) k = let P : _ → Type 0 = λ y. Includes (xs ++ ys) y in d.0 (subst P s (includes_back xs ys x k))
apart_append (z ∷ xs) ys x d (inr h) k = apart_append xs ys x d.1 h k

pub distinct_front : {X : Type 0} (xs ys : List X) → AreDistinct (xs ++ ys) → AreDistinct xs
distinct_front [] ys d = tt
distinct_front (x ∷ xs) ys d = (λ h. d.0 (includes_front xs ys x h), distinct_front xs ys d.1)

pub distinct_back : {X : Type 0} (xs ys : List X) → AreDistinct (xs ++ ys) → AreDistinct ys
distinct_back [] ys d = d
distinct_back (x ∷ xs) ys d = distinct_back xs ys d.1
