-- Items of lists by their places.
use Rattle.std.proofs.Common.{◌≡◌, ℕ, zero, suc, ◌+◌, ◌≤◌, ◌<◌, arith, refl, sym, subst, List, [], ◌∷◌, length, get_or, inl, inr}
use Rattle.std.specs.List.{AllByRecursion}
use Rattle.spot_terms.specs.Lists.{Includes}
use Rattle.spot_terms.proofs.Orders.{below_or_here, below_equal_or_above}

-- a read within a list is one read, whatever stands for a read past the end
pub same_index : {X : Type 0} (vs : List X) (i k : ℕ) (d e : X) → k < length vs → k ≡ i → get_or vs k d ≡ get_or vs i e
same_index [] i k d e h g = absurd (omega arith)
same_index (u ∷ vs) zero zero d e h g = refl
same_index (u ∷ vs) (suc i) (suc k) d e h g = same_index vs i k d e (omega arith) (omega arith)
same_index (u ∷ vs) zero (suc k) d e h g = absurd (omega arith)
same_index (u ∷ vs) (suc i) zero d e h g = absurd (omega arith)

pub all_by_index : {X : Type 0} (P : X → Type 0) (xs : List X) → ((k : ℕ) (d : X) → k < length xs → P (get_or xs k d)) → AllByRecursion P xs
all_by_index P [] h = tt
all_by_index P (x ∷ xs) h = (h 0 x (omega arith), all_by_index P xs (λ k d l. h (suc k) d (omega arith)))

pub all_at : {X : Type 0} (P : X → Type 0) (xs : List X) (k : ℕ) (d : X) → AllByRecursion P xs → k < length xs → P (get_or xs k d)
all_at P [] k d h l = absurd (omega arith)
all_at P (x ∷ xs) zero d h l = h.0
all_at P (x ∷ xs) (suc k) d h l = all_at P xs k d h.1 (omega arith)

pub all_map : {X : Type 0} (P Q : X → Type 0) (f : (x : X) → P x → Q x) (xs : List X) → AllByRecursion P xs → AllByRecursion Q xs
all_map P Q f [] h = tt
all_map P Q f (x ∷ xs) h = (f x h.0, all_map P Q f xs h.1)

-- the place of an item
pub place_of : {X : Type 0} (vs : List X) (u d : X) → Includes vs u → (k : ℕ) × (k < length vs) × (get_or vs k d ≡ u)
place_of [] u d i = absurd i
place_of (v ∷ vs) u d (inl e) = (0, omega arith, sym e)
place_of (v ∷ vs) u d (inr i) = let (k, l, e) = place_of vs u d i in (suc k, omega arith, e)

pub compare3 : {P : Type 0} (k i : ℕ) → (k < i → P) → (k ≡ i → P) → (i < k → P) → P
compare3 k i f g h = elim (below_equal_or_above k i) [ inl l ↦ f l | inr m ↦ elim m [ inl e ↦ g e | inr r ↦ h r ] ]

-- what holds of the items below place i, and of the one at i, holds below i + 1
pub below_and_here : {X : Type 0} (P : X → Type 0) (xs : List X) (i : ℕ) (d : X) → i < length xs → ((k : ℕ) (e : X) → k < i → P (get_or xs k e)) → P (get_or xs i d) → (k : ℕ) (e : X) → k < i + 1 → P (get_or xs k e)
below_and_here P xs i d inside below here k e l = elim (below_or_here k i l) [
  | inl low ↦ below k e low
  | inr same ↦ subst P (sym (same_index xs i k e d (omega (arith, same, inside)) same)) here
]

-- what holds of the items at all places holds of each item
pub all_places : {X : Type 0} (P : X → Type 0) (xs : List X) (i : ℕ) → length xs ≤ i → ((k : ℕ) (e : X) → k < i → P (get_or xs k e)) → (x : X) → Includes xs x → P x
all_places P xs i h all x j = let (k, l, e) = place_of xs x x j in subst P e (all k x (omega (arith, l, h)))
