-- Where the items of joined and mapped lists come from.
use Rattle.std.proofs.Common.{◌≡◌, inl, inr, List, [], ◌∷◌, map, refl}
use Rattle.std.specs.List.{flat_map, AllByRecursion}
use Rattle.spot_terms.specs.Lists.{Includes}
use Rattle.spot_terms.proofs.ListLemmas.{includes_either}

-- an item of a mapped list was made of one of the list
pub in_map : {X Y : Type 0} (f : X → Y) (xs : List X) (y : Y) → Includes (map f xs) y → (x : X) × Includes xs x × (y ≡ f x)
in_map f [] y i = absurd i
in_map f (x ∷ xs) y (inl e) = (x, inl refl, e)
in_map f (x ∷ xs) y (inr i) = let (z, j, e) = in_map f xs y i in (z, inr j, e)

-- an item of the lists made of the items is in one of them
pub in_flat_map : {X Y : Type 0} (f : X → List Y) (xs : List X) (y : Y) → Includes (flat_map f xs) y → (x : X) × Includes xs x × Includes (f x) y
in_flat_map f [] y i = absurd i
in_flat_map f (x ∷ xs) y i = elim (includes_either (f x) (flat_map f xs) y i) [
  | inl j ↦ (x, inl refl, j)
  | inr j ↦ let (z, k, l) = in_flat_map f xs y j in (z, inr k, l)
]

-- what holds of each item made holds of the mapped list
pub all_in_map : {X Y : Type 0} (P : Y → Type 0) (f : X → Y) (xs : List X) → ((x : X) → Includes xs x → P (f x)) → AllByRecursion P (map f xs)
all_in_map P f [] h = tt
all_in_map P f (x ∷ xs) h = (h x (inl refl), all_in_map P f xs (λ y i. h y (inr i)))
