-- Lists of numbers that grow, and rows turned round.
use Rattle.std.specs.Prelude.{◌≡◌, ◌⊎◌, ◌↔◌, ℕ, ◌<◌, ◌≤◌, List, Some, slice_get, length}
use Rattle.std.specs.List.{AllByRecursion}
use Rattle.spot_terms.specs.Lists.{Includes, Lists, Rises}

abbrev pub AreBelow : ℕ → List ℕ → Type 0
AreBelow n xs = AllByRecursion (λ x. x < n) xs

-- if P holds the list has gained n, which is no less than its numbers, and else nothing
pub record Gains (P : Type 0) (n : ℕ) (before after : List ℕ) : Type 0 where
  pub keeps : (x : ℕ) → Includes before x → Includes after x
  pub has : P → Includes after n
  pub only : (x : ℕ) → Includes after x → Includes before x ⊎ ((x ≡ n) × P)
  pub rises : Rises before → AllByRecursion (λ x. x ≤ n) before → Rises after

abbrev pub IsWith : List ℕ → ℕ → List ℕ → Type 0
IsWith before n after = Gains (Unit {0}) n before after

-- the lists of the numbers in the row have gained i
pub record HasRow (before : List (List ℕ)) (row : List ℕ) (i : ℕ) (after : List (List ℕ)) : Type 0 where
  pub many : length after ≡ length before
  pub each : (x : ℕ) (old new : List ℕ) → slice_get before x ≡ Some old → slice_get after x ≡ Some new → Gains (Includes row x) i old new

-- row i has x
abbrev pub IsRowWith : List (List ℕ) → ℕ → ℕ → Type 0
IsRowWith rows x i = (row : List ℕ) × (slice_get rows i ≡ Some row) × Includes row x

-- list x is that of the rows that have x
pub record AreColumns (rows : List (List ℕ)) (count : ℕ) (columns : List (List ℕ)) : Type 0 where
  pub many : length columns ≡ count
  pub each : (x : ℕ) (column : List ℕ) → slice_get columns x ≡ Some column → Lists (IsRowWith rows x) column

-- n rows, of which row k has exactly the numbers to which R leads from k
pub record AreRows (R : ℕ → ℕ → Type 0) (n : ℕ) (rows : List (List ℕ)) : Type 0 where
  pub many : length rows ≡ n
  pub each : (k : ℕ) (row : List ℕ) → slice_get rows k ≡ Some row → (x : ℕ) → (Includes row x ↔ R k x)

-- the same, each number once and by number
pub record AreLists (R : ℕ → ℕ → Type 0) (n : ℕ) (rows : List (List ℕ)) : Type 0 where
  pub many : length rows ≡ n
  pub each : (k : ℕ) (row : List ℕ) → slice_get rows k ≡ Some row → Lists (R k) row

-- the list has gained exactly the numbers of which P holds
abbrev pub Gathers : (ℕ → Type 0) → List ℕ → List ℕ → Type 0
Gathers P before after = (x : ℕ) → (Includes after x ↔ (Includes before x ⊎ P x))

-- the list has gained the numbers of which P holds, and no others than those of which Q holds
pub record GathersBetween (P Q : ℕ → Type 0) (before after : List ℕ) : Type 0 where
  pub has : (x : ℕ) → Includes before x ⊎ P x → Includes after x
  pub only : (x : ℕ) → Includes after x → Includes before x ⊎ Q x
