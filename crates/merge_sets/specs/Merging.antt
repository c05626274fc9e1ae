-- What a table has of all pairs that came in since the step began, and what its sets hold.
use Rattle.std.specs.Prelude.{◌≡◌, ℕ, ◌<◌, List, [], ◌∷◌, Option, Some, None, ℤ, pos, ◌+ℤ◌, IsSomeAnd}
use Rattle.spot_terms.specs.BaseSets.{SetValue, HoldsState}
use Rattle.spot_terms.specs.CellNumbers.{Numbers, Collects, LeavesParts}
use Rattle.spot_terms.specs.ChildNumbers.{support}
use Rattle.spot_terms.specs.Lists.{Includes}
use Rattle.spot_terms.specs.Motions.{State}
use Rattle.spot_terms.specs.declared.plain.Pt.{Pt}
use Rattle.round_out.specs.Growth.{AreWithin, by_speed, frame_normal}
use Rattle.base_sets.specs.declared.grid.Grid.{Grid}
use Rattle.base_sets.specs.declared.grid.OuterBox.{OuterBox}
use Rattle.merge_sets.specs.Tables.{Adds, Holds, IsMergedIn, PartsHold, Table}

-- of each cell the greatest numbers of all parts in it
abbrev pub CollectsAll : Table → Grid → ℕ → List (List Pt × List Pt) → Type 0
CollectsAll t grid k pairs = (col row : ℤ) (numbers : Option Numbers) → Holds t col row numbers → Collects grid.w grid.g k col row pairs numbers

-- a table whose step has just begun has that of no pairs, and one to which a pair was added has it of one pair more
pub record TablesCollect : Type 0 where
  pub none : (t : Table) (grid : Grid) (k : ℕ) → ((col row : ℤ) → Holds t col row None) → CollectsAll t grid k []
  pub more : (old new : Table) (o : OuterBox) (grid : Grid) (k : ℕ) (pairs : List (List Pt × List Pt)) (x y : List Pt) → old.step ≡ Some (o, grid, k)
      → Adds old new x y → CollectsAll old grid k pairs → CollectsAll new grid k ((x, y) ∷ pairs)

-- A cell has a set where a pair that came in leaves a state in its parts there, and the set holds the state: each state of
-- a pair whose place is in the cell is such a one.
abbrev pub MergedSetsHold : Type 0
MergedSetsHold = (t : Table) (o : OuterBox) (grid : Grid) (k : ℕ) (pairs : List (List Pt × List Pt)) (x y : List Pt) (col row : ℤ) (s : State) (set : Option SetValue)
    → t.step ≡ Some (o, grid, k) → CollectsAll t grid k pairs → Includes pairs (x, y) → PartsHold grid.w grid.g k col row x y s
    → IsMergedIn t col row set → IsSomeAnd set (λ b. HoldsState b s)

-- along the i-th frame normal the polygon exceeds the support of some part in the cell by at most what rounding a speed adds
abbrev pub ExceedsPart : Grid → ℕ → List (List Pt × List Pt) → ℤ → ℤ → (List Pt × List Pt → List Pt) → ℕ → List Pt → Type 0
ExceedsPart grid k pairs col row plane i corners = (x y : List Pt) × LeavesParts grid.w grid.g k col row pairs x y
    × AreWithin (frame_normal (pos k) i) (support (frame_normal (pos k) i) (plane (x, y)) +ℤ by_speed (frame_normal (pos k) i)) corners

-- so does each polygon of a cell's set, along each frame normal
abbrev pub MergedSetsExceed : Type 0
MergedSetsExceed = (t : Table) (o : OuterBox) (grid : Grid) (k : ℕ) (pairs : List (List Pt × List Pt)) (col row : ℤ) (set : SetValue) (i : ℕ)
    → 0 < k → i < 8 → t.step ≡ Some (o, grid, k) → CollectsAll t grid k pairs → IsMergedIn t col row (Some set)
    → ExceedsPart grid k pairs col row (λ p. p.0) i set.x × ExceedsPart grid k pairs col row (λ p. p.1) i set.y
