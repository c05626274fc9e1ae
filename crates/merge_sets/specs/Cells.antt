-- Cells of a table as the program holds them, and what joins numbers to them.
use Rattle.std.specs.Prelude.{◌≡◌, ◌⊎◌, ℕ, ◌+◌, ◌<◌, ◌≤◌, List, length, map, Option, Some, None, slice_get, ℤ, pos, neg_ℤ, ◌+ℤ◌, ◌≤ℤ◌, ◌*◌, IfSome, if◌then◌else◌, true, false}
use Rattle.spot_terms.specs.CellNumbers.{Numbers, joined}
use Rattle.spot_terms.specs.ChildNumbers.{frame_supports}
use Rattle.spot_terms.specs.ClippedTo.{places, IsClippedTo, IsClippedAway}
use Rattle.spot_terms.specs.Courses.{cells_of, slots_met}
use Rattle.spot_terms.specs.Frames.{IsFrameInOrder, IsFrameInRange}
use Rattle.spot_terms.specs.Grid.{slot, slot_low, slot_high}
use Rattle.spot_terms.specs.declared.plain.Pt.{Pt}
use Rattle.round_out.specs.declared.frames.FrameNumbers.{FrameNumbers}
use Rattle.base_sets.specs.declared.grid.Grid.{Grid}
use Rattle.base_sets.specs.declared.grid.OuterBox.{OuterBox}
use Rattle.base_sets.specs.Values.{AreTicks, IsBox, IsGrid, rect_of_box}
use Rattle.merge_sets.specs.BoxSlots.{AreNear, AreSlotsOf, HasCell}
use Rattle.merge_sets.specs.declared.cells.Cell.{Cell}
use Rattle.merge_sets.specs.declared.places.BoxSlots.{BoxSlots}

-- ---- numbers of the part of a polygon in a slot

-- the frame numbers of the part in the slot c; none exactly where it has no part there
abbrev pub IsPartNumbers : ℤ → ℤ → ℕ → List Pt → Option FrameNumbers → Type 0
IsPartNumbers width c k corners None = IsClippedAway (places (slot_low width c) (slot_high width c)) corners
IsPartNumbers width c k corners (Some f) = (part : List Pt) × IsClippedTo (places (slot_low width c) (slot_high width c)) corners part × (f.n ≡ frame_supports k part)

-- eight numbers in the ranges of frame numbers
pub record AreEight (numbers : List ℤ) : Type 0 where
  pub count : length numbers ≡ 8
  pub range : IsFrameInRange numbers

-- numbers of which a frame can be made
pub record AreSound (k : ℕ) (numbers : List ℤ) : Type 0 where
  pub eight : AreEight numbers
  pub order : IsFrameInOrder (pos k) numbers

-- what is true of the numbers of both planes, where there are some
abbrev pub OfBoth : (List ℤ → Type 0) → Option Numbers → Type 0
OfBoth P None = Unit {0}
OfBoth P (Some m) = P m.0 × P m.1

-- ---- cells

-- what a cell has
abbrev pub numbers_of : Cell → Option Numbers
numbers_of c = if c.taken then Some (c.x.n, c.y.n) else None

abbrev pub pair_of : FrameNumbers × FrameNumbers → Numbers
pair_of p = (p.0.n, p.1.n)

-- what a cell has after x came with y, where y is something
abbrev pub joined_with : List ℤ → Option FrameNumbers → Option Numbers → Option Numbers
joined_with x None m = m
joined_with x (Some y) m = Some (joined m (x, y.n))

-- n neighbours from `at` on have x with the item of `rows` in their place joined; all others are as before
pub record JoinsColumn (at n : ℕ) (x : List ℤ) (rows : List (Option FrameNumbers)) (old new : List Cell) : Type 0 where
  pub count : length new ≡ length old
  pub inside : (j : ℕ) (r : Option FrameNumbers) (m : Cell) → j < n → slice_get rows j ≡ Some r → slice_get old (at + j) ≡ Some m
      → (c : Cell) × (slice_get new (at + j) ≡ Some c) × (numbers_of c ≡ joined_with x r (numbers_of m))
  pub outside : (i : ℕ) → (i < at) ⊎ (at + n ≤ i) → slice_get new i ≡ slice_get old i

-- the first n cells have nothing; all others are as before
pub record IsCleared (n : ℕ) (old new : List Cell) : Type 0 where
  pub count : length new ≡ length old
  pub first : (i : ℕ) (c : Cell) → i < n → slice_get new i ≡ Some c → c.taken ≡ false
  pub past : (i : ℕ) → n ≤ i → slice_get new i ≡ slice_get old i

-- ---- the fields of a table

-- a step: `used` cells from the first on are those of the box
pub record IsStep (o : OuterBox) (grid : Grid) (k : ℕ) (slots : BoxSlots) (used : ℕ) (cells : List Cell) : Type 0 where
  pub box : IsBox o
  pub widths : IsGrid grid
  pub ticks : AreTicks k
  pub slots_are : AreSlotsOf o grid slots
  pub used_is : used ≡ cells_of grid.w grid.g (rect_of_box o)
  pub sound : (i : ℕ) (c : Cell) → slice_get cells i ≡ Some c → OfBoth (AreSound k) (numbers_of c)

-- no cell from `used` on has something
abbrev pub AreUnused : ℕ → List Cell → Type 0
AreUnused used cells = (i : ℕ) (c : Cell) → used ≤ i → slice_get cells i ≡ Some c → c.taken ≡ false

pub record IsTable (step : Option (OuterBox × Grid × ℕ)) (slots : BoxSlots) (used : ℕ) (cells : List Cell) (rows : List (Option FrameNumbers)) : Type 0 where
  pub few : used ≤ length cells
  pub unused : AreUnused used cells
  pub as_many : length rows ≡ length cells
  pub near : AreNear slots
  pub before : step ≡ None → (col row : ℤ) → HasCell slots col row → ⊥
  pub in_step : (o : OuterBox) (grid : Grid) (k : ℕ) → step ≡ Some (o, grid, k) → IsStep o grid k slots used cells

-- ---- neighbouring columns

-- the slot is no further off than places go
pub record IsNear (width c : ℤ) : Type 0 where
  pub low : slot_low width c ≤ℤ pos 40_000_000_000_000
  pub high : neg_ℤ (pos 40_000_000_000_000) ≤ℤ slot_high width c

-- what a cell has after x came with y, where both are something
abbrev pub joined_both : Option FrameNumbers → Option FrameNumbers → Option Numbers → Option Numbers
joined_both None r m = m
joined_both (Some x) r m = joined_with x.n r m

-- in each of n columns, of which neighbours are `stride` cells apart and the first stands from `at` on, m cells have the
-- column's part of x with the item of `rows` in their place joined; all others are as before
pub record JoinsColumns (at stride n m : ℕ) (width first : ℤ) (k : ℕ) (x : List Pt) (rows : List (Option FrameNumbers)) (old new : List Cell) : Type 0 where
  pub count : length new ≡ length old
  pub inside : (i j : ℕ) (r : Option FrameNumbers) (c : Cell) → i < n → j < m → slice_get rows j ≡ Some r → slice_get old (at + i * stride + j) ≡ Some c
      → (d : Cell) × (slice_get new (at + i * stride + j) ≡ Some d) × ((f : Option FrameNumbers) × IsPartNumbers width (first +ℤ pos i) k x f × (numbers_of d ≡ joined_both f r (numbers_of c)))
  pub outside : (p : ℕ) → ((i : ℕ) → i < n → (p < at + i * stride) ⊎ (at + i * stride + m ≤ p)) → slice_get new p ≡ slice_get old p
  pub sound : (p : ℕ) (c : Cell) → slice_get new p ≡ Some c → OfBoth (AreSound k) (numbers_of c)

-- the numbers of the parts in n slots from the first on
abbrev pub AreRows : ℕ → ℤ → ℤ → ℕ → List Pt → List (Option FrameNumbers) → Type 0
AreRows n width first k y rows = (j : ℕ) → j < n → (r : Option FrameNumbers) × (slice_get rows j ≡ Some r) × IsPartNumbers width (first +ℤ pos j) k y r × IfSome r (λ f. AreSound k f.n)
