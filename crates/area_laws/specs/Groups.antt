-- Pairs that have one polygon along x: what those along y leave in the rows, taken together, and the cells that get it.
use Rattle.std.specs.Prelude.{◌≡◌, ◌⊎◌, ℕ, List, [], ◌∷◌, ◌++◌, length, map, Option, Some, None, option_map, slice_get, ℤ, pos, ◌+ℤ◌, ◌≤ℤ◌, ◌<ℤ◌}
use Rattle.spot_terms.specs.BaseSets.{SetValue}
use Rattle.spot_terms.specs.CellNumbers.{Numbers, greater, joined, IsInColumn}
use Rattle.spot_terms.specs.ChildNumbers.{frame_supports}
use Rattle.spot_terms.specs.ClippedTo.{places, IsClippedTo, IsClippedAway}
use Rattle.spot_terms.specs.Courses.{Course}
use Rattle.spot_terms.specs.Grid.{slot_low, slot_high}
use Rattle.spot_terms.specs.Hull.{IsCornerList}
use Rattle.spot_terms.specs.Lists.{Includes}
use Rattle.spot_terms.specs.declared.plain.Pt.{Pt}
use Rattle.round_out.specs.declared.frames.FrameNumbers.{FrameNumbers}
use Rattle.merge_sets.specs.Tables.{Holds, Table}
use Rattle.area_laws.specs.Filling.{Pair, ArePairsOf}

-- the pairs of x with each of the ys
abbrev pub pairs_with : List Pt → List (List Pt) → List Pair
pairs_with x ys = map (λ y. (x, y)) ys

-- ---- rows

-- the numbers with those of one part more
abbrev pub with_part : Option (List ℤ) → List ℤ → List ℤ
with_part None n = n
with_part (Some m) n = greater m n

-- the polygon has a part in the slot, or none
abbrev pub HasAnswer : ℤ → ℤ → List Pt → Type 0
HasAnswer width c corners = ((part : List Pt) × IsClippedTo (places (slot_low width c) (slot_high width c)) corners part) ⊎ IsClippedAway (places (slot_low width c) (slot_high width c)) corners

-- the greatest numbers of the parts of the ys in the row, of which the first came last; none where they have no part there
abbrev pub AreRowNumbers : ℤ → ℕ → ℤ → List (List Pt) → Option (List ℤ) → Type 0
AreRowNumbers g k row [] r = r ≡ None
AreRowNumbers g k row (y ∷ ys) r = (old : Option (List ℤ)) × AreRowNumbers g k row ys old
    × (((part : List Pt) × IsClippedTo (places (slot_low g row) (slot_high g row)) y part × (r ≡ Some (with_part old (frame_supports k part))))
    ⊎ (IsClippedAway (places (slot_low g row) (slot_high g row)) y × (r ≡ old)))

-- the rows from low on have these numbers, and other rows have none
pub record IsStrip (g : ℤ) (k : ℕ) (ys : List (List Pt)) (low : ℤ) (rows : List (Option FrameNumbers)) : Type 0 where
  pub here : (j : ℕ) (r : Option FrameNumbers) → slice_get rows j ≡ Some r → AreRowNumbers g k (low +ℤ pos j) ys (option_map (λ f. f.n) r)
  pub there : (row : ℤ) → (row <ℤ low) ⊎ ((low +ℤ pos (length rows)) ≤ℤ row) → AreRowNumbers g k row ys None

-- ---- cells

-- the numbers of a cell with those of a part along x and of a row
abbrev pub joined_row : Option Numbers → List ℤ → Option (List ℤ) → Option Numbers
joined_row old x None = old
joined_row old x (Some y) = Some (joined old (x, y))

-- what a cell has after the pairs of x with all ys came
abbrev pub IsGroupJoined : ℤ → ℤ → ℕ → ℤ → ℤ → List Pt → List (List Pt) → Option Numbers → Option Numbers → Type 0
IsGroupJoined w g k col row x ys old new = (r : Option (List ℤ)) × AreRowNumbers g k row ys r
    × (((part : List Pt) × IsInColumn w g k col row x part × (new ≡ joined_row old (frame_supports k part) r))
    ⊎ (IsClippedAway (places (slot_low w col) (slot_high w col)) x × (new ≡ old)))

-- of n columns from the first on each cell has the group joined; all others are as before
pub record HasGroup (w g : ℤ) (k : ℕ) (x : List Pt) (ys : List (List Pt)) (first : ℤ) (n : ℕ) (old new : Table) : Type 0 where
  pub step : new.step ≡ old.step
  pub answers : (col : ℤ) → first ≤ℤ col → col <ℤ (first +ℤ pos n) → HasAnswer w col x
  pub inside : (col row : ℤ) (after : Option Numbers) → first ≤ℤ col → col <ℤ (first +ℤ pos n) → Holds new col row after
      → (before : Option Numbers) × Holds old col row before × IsGroupJoined w g k col row x ys before after
  pub outside : (col row : ℤ) (after : Option Numbers) → (col <ℤ first) ⊎ ((first +ℤ pos n) ≤ℤ col) → Holds new col row after → Holds old col row after

-- ---- sets

-- the pairs of x with the ys are exactly the children of these sets, so that they can come behind those of other sets
pub record IsGroupOf (course : Course) (i : ℕ) (x : List Pt) (sets : List SetValue) (ys : List (List Pt)) : Type 0 where
  pub convex : (y : List Pt) → Includes ys y → IsCornerList y
  pub brings : (before : List SetValue) (pairs : List Pair) → ArePairsOf course i before pairs → ArePairsOf course i (before ++ sets) (pairs_with x ys ++ pairs)
