-- The runs of a column among those of a row.
use Rattle.std.specs.Prelude.{◌≡◌, ℕ, ◌<◌, ◌≤◌, ℤ, pos, ◌+ℤ◌, ◌≤ℤ◌, ◌<ℤ◌, List, ◌++◌, Some, slice_get, length}
use Rattle.std.specs.List.{AllByRecursion}
use Rattle.spot_terms.specs.Grid.{slot_low}

-- each run begins before the later ones
abbrev pub BeginInTurn : List (ℤ × ℤ) → Type 0
BeginInTurn runs = (i j : ℕ) (r s : ℤ × ℤ) → i < j → slice_get runs i ≡ Some r → slice_get runs j ≡ Some s → r.0 <ℤ s.0

-- the first n runs begin before x, and no other does
pub record IsPartedAt (x : ℤ) (runs : List (ℤ × ℤ)) (n : ℕ) : Type 0 where
  pub within : n ≤ length runs
  pub before : (i : ℕ) (r : ℤ × ℤ) → i < n → slice_get runs i ≡ Some r → r.0 <ℤ x
  pub behind : (i : ℕ) (r : ℤ × ℤ) → n ≤ i → slice_get runs i ≡ Some r → x ≤ℤ r.0

-- exactly those that begin in the column, which stand next to each other
pub record IsColumnOf (w col : ℤ) (runs column : List (ℤ × ℤ)) : Type 0 where
  pub before : List (ℤ × ℤ)
  pub behind : List (ℤ × ℤ)
  pub all : runs ≡ before ++ (column ++ behind)
  pub left : AllByRecursion (λ r. r.0 <ℤ slot_low w col) before
  pub from : AllByRecursion (λ r. slot_low w col ≤ℤ r.0) column
  pub to : AllByRecursion (λ r. r.0 <ℤ slot_low w (col +ℤ pos 1)) column
  pub right : AllByRecursion (λ r. slot_low w (col +ℤ pos 1) ≤ℤ r.0) behind
