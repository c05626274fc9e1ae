-- What is in a list.
use Rattle.std.proofs.Common.{◌≡◌, ◌∙◌, ◌⊎◌, inl, inr, ℕ, zero, suc, ◌+◌, ◌<◌, ◌≤◌, List, [], ◌∷◌, ◌++◌, length, take, get_or, map, Option, Some, None, Bool, true, false, refl, sym, ap, subst, arith, IsTrue, ◌↔◌}
use Rattle.std.specs.List.{AllByRecursion, filter, filter_map, list_any, list_all, find}
use Rattle.std.proofs.lemmas.List.{take_more, take_all}
use Rattle.spot_terms.specs.Lists.{Includes, At, Pairwise}
use Rattle.spot_terms.proofs.ListLemmas.{includes_back, includes_either, includes_map, includes_taken, pairwise_push}

pub in_last : {X : Type 0} (xs : List X) (x : X) → Includes (xs ++ x ∷ []) x
in_last xs x = includes_back xs (x ∷ []) x (inl refl)

pub in_more : {X : Type 0} (xs : List X) (x d : X) → Includes (xs ++ x ∷ []) d → Includes xs d ⊎ (d ≡ x)
in_more xs x d h = elim (includes_either xs (x ∷ []) d h) [ inl k ↦ inl k | inr k ↦ elim k [ inl e ↦ inr e | inr n ↦ absurd n ] ]

in_filter_map_by : {X Y : Type 0} (f : X → Option Y) (x : X) (xs : List X) (y : Y) (o : Option Y) → f x ≡ o → Includes (filter_map f (x ∷ xs)) y → (f x ≡ Some y) ⊎ Includes (filter_map f xs) y
in_filter_map_by f x xs y None e h = inr (rw e at h)
in_filter_map_by f x xs y (Some z) e h = of_cons (rw e at h)
  where
    of_cons : (y ≡ z) ⊎ Includes (filter_map f xs) y → (f x ≡ Some y) ⊎ Includes (filter_map f xs) y
    of_cons (inl s) = inl (e ∙ ap Some (sym s))
    of_cons (inr k) = inr k

pub in_filter_map : {X Y : Type 0} (f : X → Option Y) (xs : List X) (y : Y) → Includes (filter_map f xs) y → (x : X) × Includes xs x × (f x ≡ Some y)
in_filter_map f [] y h = absurd h
in_filter_map f (x ∷ xs) y h = elim (in_filter_map_by f x xs y (f x) refl h) [
  | inl e ↦ (x, inl refl, e)
  | inr k ↦ let rest = in_filter_map f xs y k in (rest.0, inr rest.1, rest.2)
]

-- ---- a test that one of a list passes

any_cons : {X : Type 0} (p : X → Bool) (y : X) (ys : List X) (b : Bool) → p y ≡ b → list_any p ys ≡ true → list_any p (y ∷ ys) ≡ true
any_cons p y ys true e h = rw e refl
any_cons p y ys false e h = rw e h

any_head : {X : Type 0} (p : X → Bool) (y : X) (ys : List X) → p y ≡ true → list_any p (y ∷ ys) ≡ true
any_head p y ys e = rw e refl

pub any_in : {X : Type 0} (p : X → Bool) (xs : List X) (x : X) → Includes xs x → p x ≡ true → list_any p xs ≡ true
any_in p [] x h e = absurd h
any_in p (y ∷ ys) x (inl s) e = any_head p y ys (ap p (sym s) ∙ e)
any_in p (y ∷ ys) x (inr h) e = any_cons p y ys (p y) refl (any_in p ys x h e)

none_cons : {X : Type 0} (p : X → Bool) (y : X) (ys : List X) → p y ≡ false → list_any p ys ≡ false → list_any p (y ∷ ys) ≡ false
none_cons p y ys e h = rw e h

pub none_in : {X : Type 0} (p : X → Bool) (xs : List X) → ((x : X) → Includes xs x → p x ≡ false) → list_any p xs ≡ false
none_in p [] h = refl
none_in p (y ∷ ys) h = none_cons p y ys (h y (inl refl)) (none_in p ys (λ x k. h x (inr k)))

-- ---- by place

pub item_in : {X : Type 0} (xs : List X) (i : ℕ) (d : X) → i < length xs → Includes xs (get_or xs i d)
item_in [] i d h = absurd (omega arith)
item_in (x ∷ xs) zero d h = inl refl
item_in (x ∷ xs) (suc i) d h = inr (item_in xs i d (omega arith))

pub any_at : {X : Type 0} {Y : Type 0} (f : Y → X) (p : X → Bool) (xs : List Y) (i : ℕ) (d : Y) → i < length xs → p (f (get_or xs i d)) ≡ true → list_any p (map f xs) ≡ true
any_at f p xs i d h e = any_in p (map f xs) (f (get_or xs i d)) (includes_map f xs (get_or xs i d) (item_in xs i d h)) e

not_all_head : {X : Type 0} (p : X → Bool) (y : X) (ys : List X) → p y ≡ false → list_all p (y ∷ ys) ≡ false
not_all_head p y ys e = rw e refl

not_all_tail : {X : Type 0} (p : X → Bool) (y : X) (ys : List X) (b : Bool) → p y ≡ b → list_all p ys ≡ false → list_all p (y ∷ ys) ≡ false
not_all_tail p y ys true e h = rw e h
not_all_tail p y ys false e h = rw e refl

pub not_all_in : {X : Type 0} (p : X → Bool) (xs : List X) (x : X) → Includes xs x → p x ≡ false → list_all p xs ≡ false
not_all_in p [] x h e = absurd h
not_all_in p (y ∷ ys) x (inl s) e = not_all_head p y ys (ap p (sym s) ∙ e)
not_all_in p (y ∷ ys) x (inr h) e = not_all_tail p y ys (p y) refl (not_all_in p ys x h e)

pub not_all_at : {X : Type 0} {Y : Type 0} (f : Y → X) (p : X → Bool) (xs : List Y) (i : ℕ) (d : Y) → i < length xs → p (f (get_or xs i d)) ≡ false → list_all p (map f xs) ≡ false
not_all_at f p xs i d h e = not_all_in p (map f xs) (f (get_or xs i d)) (includes_map f xs (get_or xs i d) (item_in xs i d h)) e

pub same_count : (b : Bool) (m n k : ℕ) → m ≡ n → (IsTrue b ↔ (m ≡ k)) → IsTrue b ↔ (n ≡ k)
same_count b m n k e h = (λ t. sym e ∙ h.0 t, λ s. h.1 (e ∙ s))

pub at_map : {X Y : Type 0} (f : X → Y) (xs : List X) (k : ℕ) (d : X) (y : Y) → At (map f xs) k y → (k < length xs) × (y ≡ f (get_or xs k d))
at_map f [] k d y h = absurd h
at_map f (x ∷ xs) zero d y h = (omega arith, h)
at_map f (x ∷ xs) (suc k) d y h = let r = at_map f xs k d y h in (omega (arith, r.0), r.1)

pub map_at : {X Y : Type 0} (f : X → Y) (xs : List X) (k : ℕ) (d : X) → k < length xs → At (map f xs) k (f (get_or xs k d))
map_at f [] k d h = absurd (omega arith)
map_at f (x ∷ xs) zero d h = refl
map_at f (x ∷ xs) (suc k) d h = map_at f xs k d (omega arith)

-- ---- the first that passes a test

abbrev pub first_of : {X : Type 0} → List X → Option X
first_of [] = None
first_of (x ∷ xs) = Some x

find_yes : {X : Type 0} (p : X → Bool) (x : X) (xs : List X) (b : Bool) → p x ≡ b → find p xs ≡ first_of (filter p xs) → find p (x ∷ xs) ≡ first_of (filter p (x ∷ xs))
find_yes p x xs true e h = rw e refl
find_yes p x xs false e h = rw e h

pub find_first : {X : Type 0} (p : X → Bool) (xs : List X) → find p xs ≡ first_of (filter p xs)
find_first p [] = refl
find_first p (x ∷ xs) = find_yes p x xs (p x) refl (find_first p xs)

empty_first : {X : Type 0} (xs : List X) → ((x : X) → Includes xs x → ⊥) → first_of xs ≡ None
empty_first [] h = refl
empty_first (x ∷ xs) h = absurd (h x (inl refl))

pub find_nothing : {X : Type 0} (p : X → Bool) (xs : List X) → ((x : X) → Includes (filter p xs) x → ⊥) → find p xs ≡ None
find_nothing p xs h = find_first p xs ∙ empty_first (filter p xs) h

first_in : {X : Type 0} (xs : List X) (x : X) → first_of xs ≡ Some x → Includes xs x
first_in [] x e = cc
first_in (y ∷ ys) x e = inl (let s : y ≡ x = cc in sym s)

pub found_in : {X : Type 0} (p : X → Bool) (xs : List X) (x : X) → find p xs ≡ Some x → Includes (filter p xs) x
found_in p xs x e = first_in (filter p xs) x (sym (find_first p xs) ∙ e)

pub each_taken : {X : Type 0} (P : X → Type 0) (xs : List X) (i : ℕ) (d : X) → i < length xs → ((x : X) → Includes (take i xs) x → P x) → P (get_or xs i d) → (x : X) → Includes (take (i + 1) xs) x → P x
each_taken P xs i d h before at = λ x listed. elim (includes_taken xs i d x h listed) [ inl l ↦ before x l | inr s ↦ subst P (sym s) at ]

-- ---- two lists in step

pub pair_taken : {A B : Type 0} (R : A → B → Type 0) (xs : List A) (ys zs : List B) (i : ℕ) (d : A) (y : B) → i < length xs → zs ≡ ys ++ y ∷ [] → Pairwise R (take i xs) ys → R (get_or xs i d) y → Pairwise R (take (i + 1) xs) zs
pair_taken R xs ys zs i d y h e p k =
    let P : List _ → Type 0 = λ l. Pairwise R l zs in
    let Q : List _ → Type 0 = λ l. Pairwise R (take i xs ++ get_or xs i d ∷ []) l in
    subst P (sym (take_more xs i d h)) (subst Q (sym e) (pairwise_push R (take i xs) ys (get_or xs i d) y p k))

-- behind one more pair
pub pair_behind : {A B : Type 0} (R : A → B → Type 0) (s : A) (xs : List A) (ys zs : List B) (i : ℕ) (d : A) (y : B) → i < length xs → zs ≡ ys ++ y ∷ [] → Pairwise R (s ∷ take i xs) ys → R (get_or xs i d) y → Pairwise R (s ∷ take (i + 1) xs) zs
pair_behind R s xs ys zs i d y h e p k =
    let P : List _ → Type 0 = λ l. Pairwise R (s ∷ l) zs in
    let Q : List _ → Type 0 = λ l. Pairwise R (s ∷ (take i xs ++ get_or xs i d ∷ [])) l in
    subst P (sym (take_more xs i d h)) (subst Q (sym e) (pairwise_push R (s ∷ take i xs) ys (get_or xs i d) y p k))

pub pair_end : {A B : Type 0} (R : A → B → Type 0) (xs : List A) (ys : List B) (i : ℕ) → length xs ≤ i → Pairwise R (take i xs) ys → Pairwise R xs ys
pair_end R xs ys i h p = let P : List _ → Type 0 = λ l. Pairwise R l ys in subst P (take_all i xs h) p

pub each_more : {A : Type 0} (P : A → Type 0) (xs ys : List A) (x : A) → ys ≡ xs ++ x ∷ [] → AllByRecursion P xs → P x → AllByRecursion P ys
each_more P xs ys x e h k = let Q : List _ → Type 0 = λ l. AllByRecursion P l in subst Q (sym e) (each_last P xs x h k)
  where
    each_last : {A : Type 0} (P : A → Type 0) (xs : List A) (x : A) → AllByRecursion P xs → P x → AllByRecursion P (xs ++ x ∷ [])
    each_last P [] x h k = (k, tt)
    each_last P (y ∷ xs) x h k = (h.0, each_last P xs x h.1 k)
