-- What is in a list, and lists in step.
use Rattle.std.proofs.Common.{◌≡◌, ◌∙◌, ◌⊎◌, inl, inr, ℕ, zero, suc, ◌+◌, ◌<◌, ◌≤◌, Bool, true, false, cond, List, [], ◌∷◌, ◌++◌, map, filter, take, length, refl, sym, ap, subst, arith, add-zero, zero-add}
use Rattle.std.proofs.lemmas.Bool.{cases_lt}
use Rattle.std.proofs.lemmas.List.{take_more}
use Rattle.std.specs.Prelude.{slice_index_or}
use Rattle.std.specs.List.{flat_map, AllByRecursion}
use Rattle.spot_terms.specs.Lists.{Includes, Pairwise, numbers_below, numbers_from}

-- ---- Includes

pub includes_front : {X : Type 0} (xs ys : List X) (x : X) → Includes xs x → Includes (xs ++ ys) x
includes_front [] ys x i = absurd i
includes_front (y ∷ xs) ys x (inl e) = inl e
includes_front (y ∷ xs) ys x (inr i) = inr (includes_front xs ys x i)

pub includes_back : {X : Type 0} (xs ys : List X) (x : X) → Includes ys x → Includes (xs ++ ys) x
includes_back [] ys x i = i
includes_back (y ∷ xs) ys x i = inr (includes_back xs ys x i)

pub includes_either : {X : Type 0} (xs ys : List X) (x : X) → Includes (xs ++ ys) x → Includes xs x ⊎ Includes ys x
includes_either [] ys x i = inr i
includes_either (y ∷ xs) ys x (inl e) = inl (inl e)
includes_either (y ∷ xs) ys x (inr i) = elim (includes_either xs ys x i) [ inl h ↦ inl (inr h) | inr h ↦ inr h ]

-- an item of the first i + 1 is one of the first i, or the item at place i
pub includes_taken : {X : Type 0} (xs : List X) (i : ℕ) (d x : X) → i < length xs → Includes (take (i + 1) xs) x → Includes (take i xs) x ⊎ (x ≡ slice_index_or xs i d)
includes_taken xs i d x h k = elim (includes_either (take i xs) (slice_index_or xs i d ∷ []) x (subst (λ (l : List _). Includes l x) (take_more xs i d h) k)) [
  | inl front ↦ inl front
  | inr last ↦ elim last [ inl e ↦ inr e | inr none ↦ absurd none ]
]

pub includes_map : {X Y : Type 0} (f : X → Y) (xs : List X) (x : X) → Includes xs x → Includes (map f xs) (f x)
includes_map f [] x i = absurd i
includes_map f (y ∷ xs) x (inl e) = inl (ap f e)
includes_map f (y ∷ xs) x (inr i) = inr (includes_map f xs x i)

pub includes_flat_map : {X Y : Type 0} (f : X → List Y) (xs : List X) (x : X) (y : Y) → Includes xs x → Includes (f x) y → Includes (flat_map f xs) y
includes_flat_map f [] x y i j = absurd i
includes_flat_map f (z ∷ xs) x y (inl e) j = includes_front (f z) (flat_map f xs) y (subst (λ k. Includes (f k) y) e j)
includes_flat_map f (z ∷ xs) x y (inr i) j = includes_back (f z) (flat_map f xs) y (includes_flat_map f xs x y i j)

last_or_before : (n k : ℕ) → k < suc n → (k < n) ⊎ (k ≡ n)
last_or_before n k h = elim (cases_lt k n) [ inl l ↦ inl l | inr g ↦ inr (omega arith) ]

pub includes_below : (n k : ℕ) → k < n → Includes (numbers_below n) k
unfolding numbers_below
includes_below zero k h = absurd (omega arith)
includes_below (suc n) k h = elim (last_or_before n k h) as (λ _. Includes (numbers_below n ++ n ∷ []) k) [
  | inl l ↦ includes_front (numbers_below n) (n ∷ []) k (includes_below n k l)
  | inr e ↦ includes_back (numbers_below n) (n ∷ []) k (inl e)
]

pub includes_filter : {X : Type 0} (test : X → Bool) (xs : List X) (x : X) → test x ≡ true → Includes xs x → Includes (filter test xs) x
includes_filter test [] x h i = absurd i
includes_filter test (y ∷ xs) x h (inl e) = let q : test y ≡ true = sym (ap test e) ∙ h in rw q (inl e)
includes_filter test (y ∷ xs) x h (inr i) =
    let rest : Includes (filter test xs) x = includes_filter test xs x h i in
    elim (test y) as (λ t. Includes (cond t (y ∷ filter test xs) (filter test xs)) x) [ true ↦ inr rest | false ↦ rest ]

pub all_included : {X : Type 0} (P : X → Type 0) (xs : List X) (x : X) → AllByRecursion P xs → Includes xs x → P x
all_included P [] x a i = absurd i
all_included P (y ∷ xs) x a (inl e) = subst P (sym e) a.0
all_included P (y ∷ xs) x a (inr i) = all_included P xs x a.1 i

-- what holds of each item holds of all
pub all_of : {X : Type 0} (P : X → Type 0) (xs : List X) → ((x : X) → Includes xs x → P x) → AllByRecursion P xs
all_of P [] h = tt
all_of P (x ∷ xs) h = (h x (inl refl), all_of P xs (λ y i. h y (inr i)))

-- a list one longer includes all that it included
pub all_later : {X : Type 0} (u : X) (us vs : List X) → AllByRecursion (Includes vs) us → AllByRecursion (Includes (u ∷ vs)) us
all_later u [] vs h = tt
all_later u (x ∷ us) vs h = (inr h.0, all_later u us vs h.1)

-- each item of a list is in it
pub includes_itself : {X : Type 0} (vs : List X) → AllByRecursion (Includes vs) vs
includes_itself [] = tt
includes_itself (v ∷ vs) = (inl refl, all_later v vs vs (includes_itself vs))

-- the item at a place
pub includes_at : {X : Type 0} (xs : List X) (k : ℕ) (d : X) → k < length xs → Includes xs (slice_index_or xs k d)
includes_at [] k d l = absurd (omega (arith, l))
includes_at (x ∷ xs) zero d l = inl refl
includes_at (x ∷ xs) (suc k) d l = inr (includes_at xs k d (omega (arith, l)))

-- ---- numbers

from-push : (n count : ℕ) → numbers_from n (suc count) ≡ numbers_from n count ++ (n + count) ∷ []
from-push n zero = rw add-zero refl
from-push n (suc count) =
    let rest : numbers_from (n + 1) (suc count) ≡ numbers_from (n + 1) count ++ (n + 1 + count) ∷ [] = from-push (n + 1) count in
    let last : n + 1 + count ≡ n + suc count = omega arith in
    ap (λ (xs : List ℕ). n ∷ xs) (rw last at rest)

pub below-from : (n : ℕ) → numbers_below n ≡ numbers_from 0 n
unfolding numbers_below
below-from zero = refl
below-from (suc n) = let before = below-from n in rw before (rw zero-add at (sym (from-push 0 n)))

-- ---- Pairwise

-- an item has its partner
pub partner : {X Y : Type 0} (R : X → Y → Type 0) (xs : List X) (ys : List Y) (x : X) → Pairwise R xs ys → Includes xs x → (y : Y) × Includes ys y × R x y
partner R [] ys x p i = absurd i
partner R (z ∷ xs) [] x p i = absurd p
partner R (z ∷ xs) (y ∷ ys) x p (inl e) = (y, inl refl, subst (λ k. R k y) (sym e) p.0)
partner R (z ∷ xs) (y ∷ ys) x p (inr i) = let (w, j, r) = partner R xs ys x p.1 i in (w, inr j, r)

-- the items of a place
pub pairwise_at : {X Y : Type 0} (R : X → Y → Type 0) (xs : List X) (ys : List Y) (k : ℕ) (d : X) (e : Y) → k < length xs → Pairwise R xs ys → R (slice_index_or xs k d) (slice_index_or ys k e)
pairwise_at R [] ys k d e l p = absurd (omega (arith, l))
pairwise_at R (x ∷ xs) [] k d e l p = absurd p
pairwise_at R (x ∷ xs) (y ∷ ys) zero d e l p = p.0
pairwise_at R (x ∷ xs) (y ∷ ys) (suc k) d e l p = pairwise_at R xs ys k d e (omega (arith, l)) p.1

-- what follows for each pair
pub pairwise_each : {X Y : Type 0} (R S : X → Y → Type 0) (xs : List X) (ys : List Y) → ((x : X) (y : Y) → R x y → S x y) → Pairwise R xs ys → Pairwise S xs ys
pairwise_each R S [] [] h p = tt
pairwise_each R S [] (y ∷ ys) h p = absurd p
pairwise_each R S (x ∷ xs) [] h p = absurd p
pairwise_each R S (x ∷ xs) (y ∷ ys) h p = (h x y p.0, pairwise_each R S xs ys h p.1)

-- one more pair at the end
pub pairwise_push : {X Y : Type 0} (R : X → Y → Type 0) (xs : List X) (ys : List Y) (x : X) (y : Y) → Pairwise R xs ys → R x y → Pairwise R (xs ++ x ∷ []) (ys ++ y ∷ [])
pairwise_push R [] [] x y p r = (r, tt)
pairwise_push R [] (b ∷ ys) x y p r = absurd p
pairwise_push R (a ∷ xs) [] x y p r = absurd p
pairwise_push R (a ∷ xs) (b ∷ ys) x y p r = (p.0, pairwise_push R xs ys x y p.1 r)

-- in step with what a function gives
pub pairwise_map : {X Y Z : Type 0} (R : X → Y → Type 0) (f : X → Z) (g : Y → Z) (xs : List X) (ys : List Y) → ((x : X) (y : Y) → R x y → f x ≡ g y) → Pairwise R xs ys → map f xs ≡ map g ys
pairwise_map R f g [] [] h p = refl
pairwise_map R f g [] (b ∷ ys) h p = absurd p
pairwise_map R f g (a ∷ xs) [] h p = absurd p
pairwise_map R f g (a ∷ xs) (b ∷ ys) h p = let e : f a ≡ g b = h a b p.0 in let t : map f xs ≡ map g ys = pairwise_map R f g xs ys h p.1 in cc

-- a list beside what is made of each item
pub beside_map : {X Y : Type 0} (R : X → Y → Type 0) (f : X → Y) (xs : List X) → ((x : X) → Includes xs x → R x (f x)) → Pairwise R xs (map f xs)
beside_map R f [] h = tt
beside_map R f (x ∷ xs) h = (h x (inl refl), beside_map R f xs (λ y i. h y (inr i)))

-- ---- lists one behind the other

pub all_append : {X : Type 0} (P : X → Type 0) (xs ys : List X) → AllByRecursion P xs → AllByRecursion P ys → AllByRecursion P (xs ++ ys)
all_append P [] ys h k = k
all_append P (x ∷ xs) ys h k = (h.0, all_append P xs ys h.1 k)

pub pairwise_append : {X Y : Type 0} (R : X → Y → Type 0) (xs xs' : List X) (ys ys' : List Y) → Pairwise R xs ys → Pairwise R xs' ys' → Pairwise R (xs ++ xs') (ys ++ ys')
pairwise_append R [] xs' [] ys' p q = q
pairwise_append R [] xs' (y ∷ ys) ys' p q = absurd p
pairwise_append R (x ∷ xs) xs' [] ys' p q = absurd p
pairwise_append R (x ∷ xs) xs' (y ∷ ys) ys' p q = (p.0, pairwise_append R xs xs' ys ys' p.1 q)

-- ---- lengths

pub pairwise_length : {X Y : Type 0} (R : X → Y → Type 0) (xs : List X) (ys : List Y) → Pairwise R xs ys → length xs ≡ length ys
pairwise_length R [] [] h = refl
pairwise_length R [] (y ∷ ys) h = absurd h
pairwise_length R (x ∷ xs) [] h = absurd h
pairwise_length R (x ∷ xs) (y ∷ ys) h = let k = pairwise_length R xs ys h.1 in omega (arith, k)

pub numbers_from_length : (m n : ℕ) → length (numbers_from m n) ≡ n
numbers_from_length m zero = refl
numbers_from_length m (suc n) = omega (arith, numbers_from_length (m + 1) n)

pub filter_short : {X : Type 0} (test : X → Bool) (xs : List X) → length (filter test xs) ≤ length xs
filter_short test [] = omega arith
filter_short test (x ∷ xs) = let r = filter_short test xs in let k = one_at_most (test x) x (filter test xs) in omega (arith, r, k)
  where
    one_at_most : {X : Type 0} (b : Bool) (x : X) (xs : List X) → length (cond b (x ∷ xs) xs) ≤ length xs + 1
    one_at_most true x xs = omega arith
    one_at_most false x xs = omega arith
