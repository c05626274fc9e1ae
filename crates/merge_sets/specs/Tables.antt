-- Tables of cells: the greatest numbers of what came into each cell since the step began.
use Rattle.std.specs.Prelude.{◌≡◌, ◌⊎◌, ℕ, ◌+◌, ◌*◌, ◌≤◌, ◌<◌, ◌+ℤ◌, List, [], ◌∷◌, length, Option, Some, None, slice_get, ℤ, pos, nat_abs, ◌-ℤ◌, ◌≤ℤ◌}
use Rattle.std.specs.List.{AllByRecursion}
use Rattle.spot_terms.specs.BaseSets.{SetValue}
use Rattle.spot_terms.specs.CellNumbers.{Numbers, IsInColumn, IsInRow, IsJoined}
use Rattle.spot_terms.specs.Frames.{at, InFrame}
use Rattle.spot_terms.specs.Courses.{slots_met}
use Rattle.spot_terms.specs.Grid.{slot, slot_low, slot_high}
use Rattle.spot_terms.specs.Hull.{InHull}
use Rattle.spot_terms.specs.Motions.{State}
use Rattle.spot_terms.specs.StepLists.{IsFrameOf}
use Rattle.spot_terms.specs.Whole.{Within, SizeAtMost}
use Rattle.spot_terms.specs.declared.plain.Pt.{Pt}
use Rattle.base_sets.specs.declared.grid.Grid.{Grid}
use Rattle.base_sets.specs.declared.grid.OuterBox.{OuterBox}
use Rattle.round_out.specs.declared.frames.FrameNumbers.{FrameNumbers}
use Rattle.merge_sets.specs.Cells.{AreSound, joined_with}

-- How many cells there is room for; the step that was begun, if one was: its box, grid and ticks; and of each cell of the
-- box the greatest numbers of what came in, if something did: the columns from left to right, each from its lowest row on.
pub record Table : Type 0 where
  pub most : ℕ
  pub step : Option (OuterBox × Grid × ℕ)
  pub cells : List (Option Numbers)

-- where a cell of the box stands in the list
abbrev pub place_of : OuterBox → Grid → ℤ → ℤ → ℕ
place_of o grid col row = nat_abs (col -ℤ slot grid.w o.xlo) * slots_met grid.g o.ylo o.yhi + nat_abs (row -ℤ slot grid.g o.ylo)

-- the cell meets the box
abbrev pub IsCellOf : OuterBox → Grid → ℤ → ℤ → Type 0
IsCellOf o grid col row = Within (slot grid.w o.xlo) (slot grid.w o.xhi) col × Within (slot grid.g o.ylo) (slot grid.g o.yhi) row

-- these are the numbers of the cell; a cell outside of the box has none, and none has where no step was begun
abbrev pub Holds : Table → ℤ → ℤ → Option Numbers → Type 0
Holds t col row numbers = holds t.step
  where
    holds : Option (OuterBox × Grid × ℕ) → Type 0
    holds None = numbers ≡ None
    holds (Some (o, grid, k)) = (IsCellOf o grid col row × (slice_get t.cells (place_of o grid col row) ≡ Some numbers)) ⊎ ((IsCellOf o grid col row → ⊥) × (numbers ≡ None))

-- ---- adding a pair of polygons

-- a polygon between the places lo and hi with at most 18 corners, whose speeds are at most 10^6 in size
pub record IsAddable (lo hi : ℤ) (corners : List Pt) : Type 0 where
  pub few : length corners ≤ 18
  pub slow : AllByRecursion (λ c. SizeAtMost 1_000_000 c.y) corners
  pub within : AllByRecursion (λ c. Within lo hi c.x) corners

-- a step was begun, both polygons lie in its box, and each cell is as it should be
abbrev pub CanAdd : Table → List Pt → List Pt → Type 0
CanAdd t x y = (o : OuterBox) × (grid : Grid) × (k : ℕ) × (t.step ≡ Some (o, grid, k)) × IsAddable o.xlo o.xhi x × IsAddable o.ylo o.yhi y

-- the parts that the pair leaves in a cell hold the state
pub record PartsHold (w g : ℤ) (k : ℕ) (col row : ℤ) (x y : List Pt) (s : State) : Type 0 where
  pub part_x : List Pt
  pub part_y : List Pt
  pub in_column : IsInColumn w g k col row x part_x
  pub in_row : IsInRow w g k col row y part_y
  pub holds_x : InHull part_x (at s.p.x s.v.x)
  pub holds_y : InHull part_y (at s.p.y s.v.y)

-- the pair holds the state, whose place is in the cell
pub record HoldsInCell (w g col row : ℤ) (x y : List Pt) (s : State) : Type 0 where
  pub holds_x : InHull x (at s.p.x s.v.x)
  pub holds_y : InHull y (at s.p.y s.v.y)
  pub in_column : Within (slot_low w col) (slot_high w col) s.p.x
  pub in_row : Within (slot_low g row) (slot_high g row) s.p.y

-- each cell had something before, and has the pair joined to it; the pair leaves each of its states in parts there
pub record Adds (old new : Table) (x y : List Pt) : Type 0 where
  pub most : new.most ≡ old.most
  pub step : new.step ≡ old.step
  pub cells : (o : OuterBox) (grid : Grid) (k : ℕ) (col row : ℤ) (after : Option Numbers) → old.step ≡ Some (o, grid, k) → Holds new col row after
      → (before : Option Numbers) × Holds old col row before × IsJoined grid.w grid.g k col row x y before after
  pub leave : (o : OuterBox) (grid : Grid) (k : ℕ) (col row : ℤ) (s : State) → old.step ≡ Some (o, grid, k)
      → HoldsInCell grid.w grid.g col row x y s → PartsHold grid.w grid.g k col row x y s

-- ---- the set of a cell

-- its polygons are the frames of its numbers, and hold all points within them
pub record IsMergedOf (k : ℕ) (numbers : Numbers) (b : SetValue) : Type 0 where
  pub frame_x : IsFrameOf k numbers.0 b.x
  pub frame_y : IsFrameOf k numbers.1 b.y
  pub holds_x : (q : Pt) → InFrame (pos k) numbers.0 q → InHull b.x q
  pub holds_y : (q : Pt) → InFrame (pos k) numbers.1 q → InHull b.y q
  pub few_x : length b.x ≤ 12
  pub few_y : length b.y ≤ 12

-- what a table says of a cell: nothing exactly where nothing came in
abbrev pub IsMergedIn : Table → ℤ → ℤ → Option SetValue → Type 0
IsMergedIn t col row None = Holds t col row None
IsMergedIn t col row (Some b) = (o : OuterBox) × (grid : Grid) × (k : ℕ) × (numbers : Numbers) × (t.step ≡ Some (o, grid, k)) × Holds t col row (Some numbers)
    × (b.col ≡ col) × (b.row ≡ row) × IsMergedOf k numbers b

-- ---- numbers that are known already

-- the numbers of a cell make frames of the step
abbrev pub AreSoundIn : Table → Option (FrameNumbers × FrameNumbers) → Type 0
AreSoundIn t None = Unit {0}
AreSoundIn t (Some m) = (o : OuterBox) × (grid : Grid) × (k : ℕ) × (t.step ≡ Some (o, grid, k)) × AreSound k m.0.n × AreSound k m.1.n

-- a step was begun; the column and so many rows from low on are of its box; all numbers make frames
pub record CanJoin (t : Table) (col low : ℤ) (x : List ℤ) (rows : List (Option FrameNumbers)) : Type 0 where
  pub o : OuterBox
  pub grid : Grid
  pub k : ℕ
  pub step : t.step ≡ Some (o, grid, k)
  pub cells : (j : ℕ) → j < length rows → IsCellOf o grid col (low +ℤ pos j)
  pub sound : AreSound k x
  pub each : (j : ℕ) (f : FrameNumbers) → slice_get rows j ≡ Some (Some f) → AreSound k f.n

-- each of these cells has the numbers joined; all others are as before
pub record JoinsRows (old new : Table) (col low : ℤ) (x : List ℤ) (rows : List (Option FrameNumbers)) : Type 0 where
  pub most : new.most ≡ old.most
  pub step : new.step ≡ old.step
  pub inside : (j : ℕ) (r : Option FrameNumbers) (after : Option Numbers) → slice_get rows j ≡ Some r → Holds new col (low +ℤ pos j) after
      → (before : Option Numbers) × Holds old col (low +ℤ pos j) before × (after ≡ joined_with x r before)
  pub outside : (c row : ℤ) (after : Option Numbers) → ((j : ℕ) → j < length rows → c ≡ col → row ≡ low +ℤ pos j → ⊥) → Holds new c row after → Holds old c row after
