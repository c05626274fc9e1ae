-- Numbers of cells that are lowered along pairs. For each cell the cells with which it is paired are listed.
use Rattle.std.specs.Prelude.{◌≡◌, ◌⊎◌, ℕ, ◌+◌, ◌<◌, ◌≤◌, List, length, sum, Some, slice_get}
use Rattle.spot_terms.specs.Lists.{Includes}
use Rattle.lanelets.specs.Listing.{IsRowWith}

-- cell i has the number m, or it was lowered to m along some pairs
pub data IsReached (pairs : List (List ℕ)) (first : List ℕ) : ℕ → ℕ → Type 0 where
  at_first : (i m : ℕ) → slice_get first i ≡ Some m → IsReached pairs first i m
  along : (c d m : ℕ) → IsRowWith pairs d c → IsReached pairs first c m → IsReached pairs first d m

-- the number of cell d is at most that of cell c
abbrev pub IsLevel : List ℕ → ℕ → ℕ → Type 0
IsLevel numbers c d = (m k : ℕ) → slice_get numbers c ≡ Some m → slice_get numbers d ≡ Some k → k ≤ m

-- so it is for each pair
abbrev pub AreLevel : List (List ℕ) → List ℕ → Type 0
AreLevel pairs numbers = (c d : ℕ) → IsRowWith pairs d c → IsLevel numbers c d

-- the numbers after are made of those before, along pairs
abbrev pub IsMadeOf : List (List ℕ) → List ℕ → List ℕ → Type 0
IsMadeOf pairs before after = (i m : ℕ) → slice_get after i ≡ Some m → IsReached pairs before i m

-- twice the sum of the numbers, and how many cells are noted
abbrev pub size_of : List ℕ → List ℕ → ℕ
size_of numbers noted = sum numbers + sum numbers + length noted

-- the numbers of the cells of a row were lowered to n, where that is less, and these cells noted
pub record Lowers (row : List ℕ) (n : ℕ) (before noted_before after noted_after : List ℕ) : Type 0 where
  pub many : length after ≡ length before
  pub made : (i m : ℕ) → slice_get after i ≡ Some m → (slice_get before i ≡ Some m) ⊎ (Includes row i × (m ≡ n) × Includes noted_after i)
  pub falls : (i k m : ℕ) → slice_get before i ≡ Some k → slice_get after i ≡ Some m → m ≤ k
  pub low : (i m : ℕ) → Includes row i → slice_get after i ≡ Some m → m ≤ n
  pub waits : (x : ℕ) → Includes noted_before x → Includes noted_after x
  pub within : (x : ℕ) → Includes noted_after x → Includes noted_before x ⊎ Includes row x
  pub smaller : size_of after noted_after ≤ size_of before noted_before

-- the numbers are made of the first ones, and of the first n cells each is noted or its pairs are level
pub record IsUnderWay (pairs : List (List ℕ)) (first : List ℕ) (n : ℕ) (numbers noted : List ℕ) : Type 0 where
  pub made : IsMadeOf pairs first numbers
  pub level : (c d : ℕ) → c < n → IsRowWith pairs d c → Includes noted c ⊎ IsLevel numbers c d

-- each number below n in its own place
pub record AreOwn (n : ℕ) (numbers : List ℕ) : Type 0 where
  pub count : length numbers ≡ n
  pub own : (i m : ℕ) → slice_get numbers i ≡ Some m → m ≡ i
