-- Which numbers have a length, and lists of cells with their labels.
use Rattle.std.specs.Prelude.{◌≡◌, ◌⊎◌, ℕ, ◌<◌, List, [], ◌∷◌, ◌++◌, Option, Some, None, slice_get}
use Rattle.spot_terms.specs.Lists.{Includes}
use Rattle.lane_paths.specs.Labels.{label_at}
use Rattle.lane_paths.specs.declared.lengths.CellLabel.{CellLabel}

-- each number that has a length is in the list
abbrev pub AreNoted : List (Option ℕ) → List ℕ → Type 0
AreNoted lengths reached = (i m : ℕ) → slice_get lengths i ≡ Some (Some m) → Includes reached i

-- the cell is in the list
abbrev pub HasCell : List CellLabel → ℕ → Type 0
HasCell list c = (i : ℕ) × (x : CellLabel) × (slice_get list i ≡ Some x) × (x.cell ≡ c)

-- each cell is below all later ones
abbrev pub RiseByCell : List CellLabel → Type 0
RiseByCell list = (i j : ℕ) (x y : CellLabel) → i < j → slice_get list i ≡ Some x → slice_get list j ≡ Some y → x.cell < y.cell

-- exactly the cells that have a label, each with its label, in order
pub record AreListed (labels : List (Option ℕ)) (list : List CellLabel) : Type 0 where
  pub each : (i : ℕ) (x : CellLabel) → slice_get list i ≡ Some x → label_at labels x.cell ≡ Some x.label
  pub all : (c n : ℕ) → label_at labels c ≡ Some n → HasCell list c
  pub rises : RiseByCell list

-- exactly those of the cells that have a length, each with it, in order
pub record AreListedOf (lengths : List (Option ℕ)) (some : List ℕ) (list : List CellLabel) : Type 0 where
  pub each : (i : ℕ) (x : CellLabel) → slice_get list i ≡ Some x → Includes some x.cell × (slice_get lengths x.cell ≡ Some (Some x.label))
  pub all : (j c m : ℕ) → slice_get some j ≡ Some c → slice_get lengths c ≡ Some (Some m) → HasCell list c
  pub rises : RiseByCell list

-- x is put at the end, behind lower cells alone, or its cell is in the list already
abbrev pub IsAdded : List CellLabel → CellLabel → List CellLabel → Type 0
IsAdded before x after = ((after ≡ before) × HasCell before x.cell) ⊎ ((after ≡ before ++ x ∷ []) × ((i : ℕ) (y : CellLabel) → slice_get before i ≡ Some y → y.cell < x.cell))

-- cell c is put at the end with the length that it has, or it has none
abbrev pub IsTaken : List (Option ℕ) → ℕ → List CellLabel → List CellLabel → Type 0
IsTaken lengths c before after = ((slice_get lengths c ≡ Some None) × (after ≡ before)) ⊎ ((x : CellLabel) × (x.cell ≡ c) × (slice_get lengths c ≡ Some (Some x.label)) × IsAdded before x after)
