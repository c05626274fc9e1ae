-- The laws, as statements.
use Rattle.std.specs.Prelude.{◌≡◌, ℕ, ◌+◌, ◌*◌, ◌≤◌, List, [], ◌∷◌, ◌++◌, length, Some, None, slice_get, ℤ, pos, ◌+ℤ◌, ◌≤ℤ◌, ◌<ℤ◌, Option}
use Rattle.spot_terms.specs.Avoidance.{HoldsOrStrikes, IsStruckBy}
use Rattle.spot_terms.specs.BaseSets.{SetValue, greatest_place, least_place}
use Rattle.spot_terms.specs.Courses.{Course, IsMotionOf, box_at, slots_met}
use Rattle.spot_terms.specs.Hull.{IsCornerList}
use Rattle.round_out.specs.declared.frames.FrameNumbers.{FrameNumbers}
use Rattle.spot_terms.specs.EgoMotions.{FitsBound}
use Rattle.spot_terms.specs.Grid.{slot, IsRemoved, AreFreeRuns, CoverTheRest}
use Rattle.spot_terms.specs.Lists.{Includes}
use Rattle.spot_terms.specs.Motions.{State}
use Rattle.spot_terms.specs.Ranges.{IsBoxWithin}
use Rattle.spot_terms.specs.RowBoxes.{row_boxes_in}
use Rattle.spot_terms.specs.StepLists.{IsFirstList, IsNextList}
use Rattle.spot_terms.specs.Whole.{Within}
use Rattle.spot_terms.specs.declared.plain.Pt.{Pt}
use Rattle.base_sets.specs.Values.{AreBoxPlaces, rect_of_box}
use Rattle.base_sets.specs.declared.grid.Grid.{Grid}
use Rattle.base_sets.specs.declared.grid.OuterBox.{OuterBox}
use Rattle.propagate.specs.Children.{AreChildren, HoldsNext}
use Rattle.carve.specs.Cuts.{IsCutBy}
use Rattle.merge_sets.specs.Cells.{IsPartNumbers}
use Rattle.merge_sets.specs.Tables.{Adds, Holds, IsMergedIn, Table, JoinsRows}
use Rattle.area_laws.specs.Groups.{HasGroup, IsGroupOf, IsStrip}
use Rattle.area_laws.specs.CellSets.{AreSetsBefore}
use Rattle.area_laws.specs.Filling.{IsFilledFrom, IsTableFor}
use Rattle.area_laws.specs.Leading.{LeadsOn}
use Rattle.area_laws.specs.Reaching.{AreSetsInBox, HasFewCorners, IsCellIn, IsSetInBox, IsStepSet}
use Rattle.area_laws.specs.Rooms.{HasFewRuns}

-- ---- filling a table

pub record TablesFill : Type 0 where
  -- a table in which nothing is yet
  pub none : (course : Course) (i : ℕ) (o : OuterBox) (grid : Grid) (t : Table) → IsTableFor course i o grid t → ((col row : ℤ) → Holds t col row None) → IsFilledFrom course i [] t
  -- the children of one more set were added
  pub child : (course : Course) (i : ℕ) (before : List SetValue) (b : SetValue) (x y : List Pt) (old new : Table) → IsFilledFrom course i before old
      → AreChildren course (box_at course i) b (Some (x, y)) → HoldsNext course (box_at course i) b (Some (x, y)) → Adds old new x y → IsFilledFrom course i (before ++ b ∷ []) new
  -- one more set has no children
  pub childless : (course : Course) (i : ℕ) (before : List SetValue) (b : SetValue) (t : Table) → IsFilledFrom course i before t
      → AreChildren course (box_at course i) b None → HoldsNext course (box_at course i) b None → IsFilledFrom course i (before ++ b ∷ []) t

-- ---- filling a table by groups of sets with one polygon along x

pub record GroupsFill : Type 0 where
  -- the group, set by set
  pub none : (course : Course) (i : ℕ) (x : List Pt) → IsGroupOf course i x [] []
  pub child : (course : Course) (i : ℕ) (x : List Pt) (sets : List SetValue) (ys : List (List Pt)) (b : SetValue) (y : List Pt) → IsGroupOf course i x sets ys
      → AreChildren course (box_at course i) b (Some (x, y)) → HoldsNext course (box_at course i) b (Some (x, y)) → IsGroupOf course i x (sets ++ b ∷ []) (y ∷ ys)
  pub childless : (course : Course) (i : ℕ) (x : List Pt) (sets : List SetValue) (ys : List (List Pt)) (b : SetValue) → IsGroupOf course i x sets ys
      → AreChildren course (box_at course i) b None → HoldsNext course (box_at course i) b None → IsGroupOf course i x (sets ++ b ∷ []) ys
  -- its numbers, column by column: the next one has no part of x, or gets the part's numbers with those of the rows
  pub no_column : (w g : ℤ) (k : ℕ) (x : List Pt) (ys : List (List Pt)) (first : ℤ) (old : Table) → HasGroup w g k x ys first 0 old old
  pub away : (w g : ℤ) (k : ℕ) (x : List Pt) (ys : List (List Pt)) (first : ℤ) (old : Table) (n : ℕ) (t : Table) (low : ℤ) (rows : List (Option FrameNumbers)) → HasGroup w g k x ys first n old t
      → IsStrip g k ys low rows → IsPartNumbers w (first +ℤ pos n) k x None → HasGroup w g k x ys first (n + 1) old t
  pub part : (w g : ℤ) (k : ℕ) (x : List Pt) (ys : List (List Pt)) (first : ℤ) (old : Table) (n : ℕ) (t u : Table) (low : ℤ) (rows : List (Option FrameNumbers)) (f : FrameNumbers) → HasGroup w g k x ys first n old t
      → IsStrip g k ys low rows → IsPartNumbers w (first +ℤ pos n) k x (Some f) → JoinsRows t u (first +ℤ pos n) low f.n rows → HasGroup w g k x ys first (n + 1) old u
  -- after all columns that x meets, the table is filled from the group's sets too
  pub filled : (course : Course) (i : ℕ) (before : List SetValue) (old new : Table) (f : IsFilledFrom course i before old) (x : List Pt) (sets : List SetValue) (ys : List (List Pt)) (first : ℤ) (n : ℕ) (low : ℤ) (rows : List (Option FrameNumbers))
      → pos 0 <ℤ course.w → IsGroupOf course i x sets ys → IsCornerList x → first ≡ slot f.grid.w (least_place x) → n ≡ slots_met f.grid.w (least_place x) (greatest_place x) → IsStrip f.grid.g course.k ys low rows
      → HasGroup f.grid.w f.grid.g course.k x ys first n old new → IsFilledFrom course i (before ++ sets) new
  -- a group without children leaves the table as it is
  pub none_filled : (course : Course) (i : ℕ) (before : List SetValue) (t : Table) (x : List Pt) (sets : List SetValue) → IsFilledFrom course i before t → IsGroupOf course i x sets [] → IsFilledFrom course i (before ++ sets) t

-- ---- from cell to cell

-- over the sets before, the pieces of step i, and a table that was filled from the sets before
module _ (course : Course) (i : ℕ) (before : List SetValue) (count : ℕ) (Hits : ℕ → Pt → Type 0) (t : Table) where
  pub record GoesFromCellToCell : Type 0 where
    -- before the first cell of the box there is no set
    pub none : AreSetsBefore course i before count Hits (slot course.w (box_at course i).xlo) (slot course.g (box_at course i).ylo) []
    -- a cell into which nothing came
    pub empty : (col row : ℤ) (sets : List SetValue) → IsMergedIn t col row None → AreSetsBefore course i before count Hits col row sets
        → AreSetsBefore course i before count Hits col (row +ℤ pos 1) sets
    -- a cell with a set, which is cut to the free runs of its column and row
    pub cell : (col row : ℤ) (b : SetValue) (runs : List (ℤ × ℤ)) (old new : List SetValue) → IsMergedIn t col row (Some b)
        → AreFreeRuns (IsRemoved count Hits course.g row) course.w col col runs → CoverTheRest (IsRemoved count Hits course.g row) course.w col col runs
        → IsCutBy b runs old new → AreSetsBefore course i before count Hits col row old → AreSetsBefore course i before count Hits col (row +ℤ pos 1) new
    -- behind the last row of the box the next column begins
    pub column : (col : ℤ) (sets : List SetValue) → AreSetsBefore course i before count Hits col (slot course.g (box_at course i).yhi +ℤ pos 1) sets
        → AreSetsBefore course i before count Hits (col +ℤ pos 1) (slot course.g (box_at course i).ylo) sets
    -- behind the last column the list is complete, and no next state is lost
    pub list : (sets : List SetValue) → AreSetsBefore course i before count Hits (slot course.w (box_at course i).xhi +ℤ pos 1) (slot course.g (box_at course i).ylo) sets
        → IsNextList course i before count Hits sets
    pub leads : (sets : List SetValue) → AreSetsBefore course i before count Hits (slot course.w (box_at course i).xhi +ℤ pos 1) (slot course.g (box_at course i).ylo) sets
        → LeadsOn course count Hits i before sets

-- over the pieces of each step
module _ (count : ℕ → ℕ) (Hits : ℕ → ℕ → Pt → Type 0) where
  abbrev pub CellsMakeLists : Type 0
  CellsMakeLists = (course : Course) (i : ℕ) (before : List SetValue) (t : Table) → pos 0 <ℤ course.w → pos 0 <ℤ course.g
      → IsFilledFrom course i before t → GoesFromCellToCell course i before (count i) (Hits i) t

  -- ---- from step to step

  -- here the ego is at a piece where its position is a point of the piece
  pub record MotionsStayHeld : Type 0 where
    pub first : (course : Course) (sets : List SetValue) → pos 0 <ℤ course.g → IsFirstList course count Hits sets → HoldsOrStrikes course count Hits 0 sets
    pub next : (course : Course) (i : ℕ) (before after : List SetValue) → pos 0 <ℤ course.g → HoldsOrStrikes course count Hits i before
        → LeadsOn course (count (i + 1)) (Hits (i + 1)) (i + 1) before after → HoldsOrStrikes course count Hits (i + 1) after
    pub none_left : (course : Course) (i : ℕ) → HoldsOrStrikes course count Hits i [] → (states : List State) (state : State) → IsMotionOf course states
        → slice_get states (i * course.k) ≡ Some state → IsStruckBy course count Hits i states

  -- ---- how far sets reach

  pub record SetsStayInBox : Type 0 where
    -- the list of step 0
    pub first : (course : Course) (m : ℕ) (sets : List SetValue) → IsBoxWithin m course.b → FitsBound course.b course.v → pos 0 ≤ℤ course.v → IsFirstList course count Hits sets
        → AreSetsInBox course 0 sets
    -- the list of a later step
    pub next : (course : Course) (i : ℕ) (before after : List SetValue) → 1 ≤ course.k → IsNextList course i before (count i) (Hits i) after → AreSetsInBox course i after
    -- all have few corners
    pub first_few : (course : Course) (sets : List SetValue) (b : SetValue) → IsFirstList course count Hits sets → Includes sets b → HasFewCorners b
    pub next_few : (course : Course) (i : ℕ) (before after : List SetValue) (o : OuterBox) (b : SetValue) → 1 ≤ course.k → rect_of_box o ≡ box_at course i → AreBoxPlaces 21_000_000_000_000 o
        → Within (pos 0) (pos 900_000) course.v → IsNextList course i before (count i) (Hits i) after → Includes after b → HasFewCorners b
    -- so that a step can be made from each set
    pub step : (course : Course) (i : ℕ) (o : OuterBox) (b : SetValue) → rect_of_box o ≡ box_at course i → AreBoxPlaces 21_000_000_000_000 o
        → Within (pos 0) (pos 900_000) course.v → IsSetInBox course i b → IsStepSet b

  -- ---- how many sets there are

  module _ (range : ℕ → ℕ → ℤ × ℤ) where
    pub record SetsHaveRoom : Type 0 where
      -- before a cell of the box, with the cell's own free runs
      pub cell : (course : Course) (i : ℕ) (before : List SetValue) (col row : ℤ) (sets : List SetValue) (runs : List (ℤ × ℤ)) → pos 0 <ℤ course.w → pos 0 <ℤ course.g
          → (box_at course i).ylo ≤ℤ (box_at course i).yhi → HasFewRuns course i (count i) (Hits i) (range i) → IsCellIn course i col row
          → AreSetsBefore course i before (count i) (Hits i) col row sets → AreFreeRuns (IsRemoved (count i) (Hits i) course.g row) course.w col col runs
          → length sets + length runs ≤ row_boxes_in course.w course.g (box_at course i) (count i) (range i)
      -- of the whole list
      pub list : (course : Course) (i : ℕ) (before after : List SetValue) → pos 0 <ℤ course.w → pos 0 <ℤ course.g → (box_at course i).ylo ≤ℤ (box_at course i).yhi
          → HasFewRuns course i (count i) (Hits i) (range i) → IsNextList course i before (count i) (Hits i) after
          → length after ≤ row_boxes_in course.w course.g (box_at course i) (count i) (range i)
