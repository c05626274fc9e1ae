-- Which cells side moves join.
use Rattle.std.specs.Prelude.{◌≡◌, ◌↔◌, ◌⊎◌, ℕ, ◌<◌, ◌≤◌, List, Some, slice_get, length}
use Rattle.std.specs.List.{AllByRecursion}
use Rattle.spot_terms.specs.Cells.{Lane, NetCell}
use Rattle.spot_terms.specs.Lists.{Includes, Lists}
use Rattle.spot_terms.specs.Network.{IsSide}
use Rattle.lanelets.specs.declared.classes.Classes.{Classes}
use Rattle.lanelets.specs.Steps.{IsOfLane}

-- side moves alone lead from cell c to cell d
pub data IsBeside (lanes : List Lane) (net : List NetCell) (d : ℕ) : ℕ → Type 0 where
  here : IsBeside lanes net d d
  next : {c e : ℕ} → IsSide lanes net c e → IsBeside lanes net d e → IsBeside lanes net d c

-- cell c is the first of its lanelet
abbrev pub IsFirst : List NetCell → ℕ → Type 0
IsFirst net c = (e : ℕ) × IsOfLane net c e × ((d : ℕ) → IsOfLane net d e → c ≤ d)

module _ (lanes : List Lane) (net : List NetCell) where
  -- the two lie side by side, and where their lanelets have unlike numbers of points, one is the first of its lanelet
  pub record IsPair (c d : ℕ) : Type 0 where
    pub side : IsSide lanes net c d
    pub first : (length side.l.1.left ≡ length side.m.1.left → ⊥) → IsFirst net c ⊎ IsFirst net d

  -- the list has all cells of the lanelet at f that are paired with cell c
  abbrev pub HasPairsIn : ℕ → ℕ → List ℕ → Type 0
  HasPairsIn c f list = (d : ℕ) → IsOfLane net d f → IsPair c d → Includes list d

  -- each in the list lies beside cell c, and all that are paired with it are in the list
  pub record ArePairsOf (c : ℕ) (list : List ℕ) : Type 0 where
    pub only : (d : ℕ) → Includes list d → IsSide lanes net c d
    pub all : (d : ℕ) → IsPair c d → Includes list d

  -- so it is for each of the first n cells
  pub record ArePairs (n : ℕ) (rows : List (List ℕ)) : Type 0 where
    pub many : length rows ≡ n
    pub each : (c : ℕ) (row : List ℕ) → slice_get rows c ≡ Some row → ArePairsOf c row

  -- two cells have the same number exactly where side moves lead from the one to the other
  pub record AreClassNumbers (numbers : List ℕ) : Type 0 where
    pub many : length numbers ≡ length net
    pub within : AllByRecursion (λ x. x < length net) numbers
    pub same : (c d x y : ℕ) → slice_get numbers c ≡ Some x → slice_get numbers d ≡ Some y → (x ≡ y) ↔ IsBeside lanes net d c

  -- the class of each cell has the cells to which side moves lead from it
  pub record AreClasses (classes : Classes) : Type 0 where
    pub many : length classes.numbers.items ≡ length net
    pub each : (c k : ℕ) → slice_get classes.numbers.items c ≡ Some k → (list : List ℕ) × (slice_get classes.cells.items k ≡ Some list) × Lists (λ d. IsBeside lanes net d c) list
