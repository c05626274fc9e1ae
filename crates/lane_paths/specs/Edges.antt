-- Lengths along edges.
use Rattle.std.specs.Prelude.{◌≡◌, ℕ, ◌+◌, ◌≤◌, List, [], ◌∷◌, length, Option, Some, None, slice_get}

-- from number `from` to number `to` it is `gap` further
pub record Edge : Type 0 where
  pub from : ℕ
  pub to : ℕ
  pub gap : ℕ

-- from one of the lengths in the list some edges of which P holds lead to number i, and in all it is m; each sum on the
-- way is at most the limit
pub data IsPathLength (P : Edge → Type 0) (limit : ℕ) (first : List (Option ℕ)) : ℕ → ℕ → Type 0 where
  at_first : (i m : ℕ) → slice_get first i ≡ Some (Some m) → IsPathLength P limit first i m
  by_edge : (e : Edge) (m : ℕ) → P e → IsPathLength P limit first e.from m → m + e.gap ≤ limit → IsPathLength P limit first e.to (m + e.gap)

-- number i has a length that is at most m
abbrev pub HasAtMost : List (Option ℕ) → ℕ → ℕ → Type 0
HasAtMost lengths i m = (k : ℕ) × (slice_get lengths i ≡ Some (Some k)) × (k ≤ m)

-- the edge makes no length less, up to the limit
abbrev pub IsSettled : ℕ → List (Option ℕ) → Edge → Type 0
IsSettled limit lengths e = (m : ℕ) → slice_get lengths e.from ≡ Some (Some m) → m + e.gap ≤ limit → HasAtMost lengths e.to (m + e.gap)

-- the lengths after are made of those before, along edges of which P holds, and none is greater
pub record ArePathLengths (P : Edge → Type 0) (limit : ℕ) (before after : List (Option ℕ)) : Type 0 where
  pub reached : (i m : ℕ) → slice_get after i ≡ Some (Some m) → IsPathLength P limit before i m
  pub kept : (i m : ℕ) → slice_get before i ≡ Some (Some m) → HasAtMost after i m

-- the sum of the lengths, where none counts as one more than the limit
abbrev pub sum_of : ℕ → List (Option ℕ) → ℕ
sum_of limit [] = 0
sum_of limit (None ∷ lengths) = limit + 1 + sum_of limit lengths
sum_of limit (Some m ∷ lengths) = m + sum_of limit lengths

-- n items, none of which is a length
pub record AreNone (n : ℕ) (lengths : List (Option ℕ)) : Type 0 where
  pub count : length lengths ≡ n
  pub none : (i m : ℕ) → slice_get lengths i ≡ Some (Some m) → ⊥

-- only number n + n has a length, 0
pub record AreFirst (n : ℕ) (lengths : List (Option ℕ)) : Type 0 where
  pub count : length lengths ≡ n + n + 1
  pub only : (i m : ℕ) → slice_get lengths i ≡ Some (Some m) → (i ≡ n + n) × (m ≡ 0)
  pub start : slice_get lengths (n + n) ≡ Some (Some 0)
