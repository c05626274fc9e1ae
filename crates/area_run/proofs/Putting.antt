-- The sets of the cells of a step, cell by cell.
use Rattle.std.proofs.Common.{◌≡◌, ℕ, zero, suc, ◌+◌, ◌<◌, ◌≤◌, arith, refl, sym, subst, List, [], ◌∷◌, ◌++◌, Option, Some, None}
use Rattle.std.specs.Prelude.{slice_get, nat_abs}
use Rattle.std.proofs.lemmas.Int.{ints}
use Rattle.std.proofs.lemmas.Option.{slice_get_within, same_Some}
use lib.IntN.{ℤ, pos, ◌+ℤ◌, ◌-ℤ◌, ◌*ℤ◌}
use lib.Signed.{◌≤ℤ◌, ◌<ℤ◌}
use Rattle.spot_terms.specs.BaseSets.{Rect, SetValue}
use Rattle.spot_terms.specs.Courses.{Course, box_at, slots_met}
use Rattle.spot_terms.specs.Grid.{slot, slot_low, IsRemoved, AreFreeRuns, CoverTheRest}
use Rattle.spot_terms.specs.Whole.{Within}
use Rattle.spot_terms.specs.Lists.{Ascends}
use Rattle.spot_terms.specs.declared.plain.Pt.{Pt}
use Rattle.spot_terms.proofs.ItemPlaces.{got_included}
use Rattle.spot_terms.proofs.ListLemmas.{all_included}
use Rattle.base_sets.specs.Values.{IsGrid, rect_of_box}
use Rattle.base_sets.specs.declared.grid.OuterBox.{OuterBox}
use Rattle.merge_sets.specs.Planes.{HasTicks}
use Rattle.merge_sets.specs.Tables.{IsMergedIn, Table}
use Rattle.merge_sets.specs.BoxSlots.{AreNear}
use Rattle.merge_sets.specs.declared.places.BoxSlots.{BoxSlots}
use Rattle.merge_sets.proofs.Steps.{near_slots}
use Rattle.spot_terms.proofs.Ring.{spread_left}
use Rattle.carve.specs.Cuts.{IsCutBy}
use Rattle.carve.specs.Ranges.{AreRunPlaces}
use Rattle.area_laws.specs.CellSets.{AreSetsBefore}
use Rattle.area_laws.specs.Filling.{IsFilledFrom}
use Rattle.area_laws.specs.Laws.{GoesFromCellToCell}
use Rattle.area_laws.specs.Reaching.{IsCellIn}
use Rattle.area_laws.proofs.Arguments.{run_places, slot_near}
use Rattle.area_laws.proofs.CellCuts.{starts_ascend}
use Rattle.area_laws.proofs.NextLists.{goes_from_cell_to_cell}
use Rattle.area_laws.proofs.Rooms.{room_before}
use Rattle.area_laws.proofs.Stretches.{stretch_by_starts, stretch_is_free, stretch_covers}
use Rattle.area_run.specs.Columns.{BeginInTurn, IsColumnOf}
use Rattle.area_run.specs.Plans.{course_of}
use Rattle.area_run.specs.Rows.{AreRunsOf, AreAllRowsIn}
use Rattle.area_run.specs.Stages.{Advances, HasCellRoom, HasRoom, HasSetsBefore, IsStage}
use Rattle.area_run.specs.declared.plan.Plan.{Plan}
use Rattle.area_run.proofs.Listing.{few_runs}
use Rattle.spot_terms.proofs.Slots.{some_width}

-- what a table says of a cell that is read back
pub merged_back : (t : Table) (c r col row : ℤ) (b : Option SetValue) → c ≡ col → r ≡ row → IsMergedIn t c r b → IsMergedIn t col row b
merged_back t c r col row b e f h = subst (λ (z : ℤ). IsMergedIn t z row b) e (subst (λ (z : ℤ). IsMergedIn t c z b) f h)

-- ---- the runs of a row begin one after another

by_place : (R : ℤ × ℤ → ℤ × ℤ → Type 0) (xs : List (ℤ × ℤ)) → Ascends R xs → (i j : ℕ) (r s : ℤ × ℤ) → i < j → slice_get xs i ≡ Some r → slice_get xs j ≡ Some s → R r s
by_place R xs a i j r s h e f = go xs a i j h e f
  where
    go : (xs : List (ℤ × ℤ)) → Ascends R xs → (i j : ℕ) → i < j → slice_get xs i ≡ Some r → slice_get xs j ≡ Some s → R r s
    go [] a i j h e f = absurd (none e)
      where
        none : slice_get {X = ℤ × ℤ} [] i ≡ Some r → ⊥
        none e = let k = slice_get_within [] i r e in omega (arith, k)
    go (x ∷ xs) a zero zero h e f = absurd (omega (arith, h))
    go (x ∷ xs) a zero (suc j) h e f = subst (λ (z : ℤ × ℤ). R z s) (same_Some x r e) (all_included (R x) xs s a.0 (got_included xs j s f))
    go (x ∷ xs) a (suc i) zero h e f = absurd (omega (arith, h))
    go (x ∷ xs) a (suc i) (suc j) h e f = go xs a.1 i j (omega (arith, h)) e f

pub begin_in_turn : (Removed : ℤ → Type 0) (w first last : ℤ) (runs : List (ℤ × ℤ)) → AreFreeRuns Removed w first last runs → BeginInTurn runs
begin_in_turn Removed w first last runs free = by_place (λ r s. r.0 <ℤ s.0) runs (starts_ascend runs (λ r j. (free.each r j).free_run.some) free.ordered)

-- ---- one cell

module _ (plan : Plan) (step : ℕ) (count : ℕ) (Hits : ℕ → Pt → Type 0) (range : ℕ → ℤ × ℤ) where
  abbrev pub course : Course
  course = course_of plan

  abbrev pub RemovedIn : ℤ → ℤ → Type 0
  RemovedIn row = IsRemoved count Hits plan.grid.g row

  -- the runs of the cell, of those of its row
  pub record AreCellRuns (col row : ℤ) (runs : List (ℤ × ℤ)) : Type 0 where
    pub free : AreFreeRuns (RemovedIn row) plan.grid.w col col runs
    pub covers : CoverTheRest (RemovedIn row) plan.grid.w col col runs

  pub cell_runs : (col row : ℤ) (runs column : List (ℤ × ℤ)) → IsGrid plan.grid → IsCellIn course step col row → AreRunsOf course step count Hits range row runs → IsColumnOf plan.grid.w col runs column → AreCellRuns col row column
  cell_runs col row runs column grid cell are c =
      let wide = some_width plan.grid.w grid.w in
      let first : ℤ = slot plan.grid.w (box_at course step).xlo in
      let last : ℤ = slot plan.grid.w (box_at course step).xhi in
      let free : AreFreeRuns (RemovedIn row) plan.grid.w first last (c.before ++ (column ++ c.behind)) = subst (λ (z : List (ℤ × ℤ)). AreFreeRuns (RemovedIn row) plan.grid.w first last z) c.all are.free in
      let covers : CoverTheRest (RemovedIn row) plan.grid.w first last (c.before ++ (column ++ c.behind)) = subst (λ (z : List (ℤ × ℤ)). CoverTheRest (RemovedIn row) plan.grid.w first last z) c.all are.covers in
      let stretch = stretch_by_starts (RemovedIn row) plan.grid.w wide first last col c.before column c.behind free c.left c.from c.to c.right in
      record {
        free = stretch_is_free (RemovedIn row) plan.grid.w wide first last col cell.col_in c.before column c.behind stretch free;
        covers = stretch_covers (RemovedIn row) plan.grid.w wide first last col cell.col_in c.before column c.behind stretch covers;
      }

  pub in_turn : (row : ℤ) (runs : List (ℤ × ℤ)) → AreRunsOf course step count Hits range row runs → BeginInTurn runs
  in_turn row runs are = begin_in_turn (RemovedIn row) plan.grid.w (slot plan.grid.w (box_at course step).xlo) (slot plan.grid.w (box_at course step).xhi) runs are.free

  -- the runs of a cell are places, and its column isn't far off
  pub record IsCellNear (col row : ℤ) : Type 0 where
    pub col_small : nat_abs col ≤ 400_000_000
    pub row_small : nat_abs row ≤ 400_000_000
    pub low : nat_abs (slot_low plan.grid.w col) ≤ 50_000_000_000_000
    pub next : nat_abs (slot_low plan.grid.w (col +ℤ pos 1)) ≤ 50_000_000_000_000
    pub places : (runs : List (ℤ × ℤ)) → AreFreeRuns (RemovedIn row) plan.grid.w col col runs → AreRunPlaces runs

  pub cell_near : (b : OuterBox) (free : List (ℤ × ℤ)) (ends : List (ℕ × ℕ)) (col row : ℤ) → IsStage plan step count Hits range b free ends → IsCellIn course step col row → IsCellNear col row
  cell_near b free ends col row stage cell = go (box_at course step) stage.exact cell.col_in cell.row_in
    where
      grid : IsGrid plan.grid
      grid = stage.plan_is.grid

      slots : BoxSlots
      slots = record { first_col = slot plan.grid.w b.xlo; last_col = slot plan.grid.w b.xhi; first_row = slot plan.grid.g b.ylo; last_row = slot plan.grid.g b.yhi; rows = slots_met plan.grid.g b.ylo b.yhi }

      near : AreNear slots
      near = near_slots b plan.grid slots stage.reach grid (record { first_col = refl; last_col = refl; first_row = refl; last_row = refl; rows = refl })

      between : (a z c : ℤ) → nat_abs a ≤ 400_000_000 → nat_abs c ≤ 400_000_000 → Within a c z → nat_abs z ≤ 400_000_000
      between a z c h k w = omega (arith, ints, h, k, w.low, w.high)

      wider : (z : ℤ) → nat_abs z ≤ 22_000_000_000_000 → nat_abs z ≤ 50_000_000_000_000
      wider z h = omega (arith, h)

      next_low : (w c : ℤ) → nat_abs (c *ℤ w +ℤ w -ℤ pos 1) ≤ 22_000_000_000_000 → nat_abs ((c +ℤ pos 1) *ℤ w) ≤ 50_000_000_000_000
      next_low w c h = let s = spread_left c (pos 1) w in omega (arith, ints, h, s)

      here : Within (slot plan.grid.w b.xlo) (slot plan.grid.w b.xhi) col → Within (slot plan.grid.g b.ylo) (slot plan.grid.g b.yhi) row → IsCellNear col row
      here in_col in_row = let n = slot_near plan.grid.w b.xlo b.xhi col grid.w stage.near.xlo stage.near.xhi in_col in record {
        col_small = between (slot plan.grid.w b.xlo) col (slot plan.grid.w b.xhi) near.first_col near.last_col in_col;
        row_small = between (slot plan.grid.g b.ylo) row (slot plan.grid.g b.yhi) near.first_row near.last_row in_row;
        low = wider (slot_low plan.grid.w col) n.low;
        next = next_low plan.grid.w col n.high;
        places = λ runs f. run_places (RemovedIn row) plan.grid.w b.xlo b.xhi col col runs grid.w stage.near.xlo stage.near.xhi in_col.low in_col.high f;
      }

      go : (r : Rect) → rect_of_box b ≡ r → Within (slot plan.grid.w r.xlo) (slot plan.grid.w r.xhi) col → Within (slot plan.grid.g r.ylo) (slot plan.grid.g r.yhi) row → IsCellNear col row
      go r e = subst (λ (z : Rect). Within (slot plan.grid.w z.xlo) (slot plan.grid.w z.xhi) col → Within (slot plan.grid.g z.ylo) (slot plan.grid.g z.yhi) row → IsCellNear col row) e here

  module _ (t : Table) (grid : IsGrid plan.grid) where
    law : (before : List SetValue) → IsFilledFrom course step before t → GoesFromCellToCell course step before count Hits t
    law before filled = goes_from_cell_to_cell course step before count Hits t (some_width plan.grid.w grid.w) (some_width plan.grid.g grid.g) filled

    pub nothing_put : (col row : ℤ) (old new : List SetValue) → IsMergedIn t col row None → new ≡ old → Advances plan step count Hits range t col row old col (row +ℤ pos 1) new
    nothing_put col row old new none e before filled sets = subst (λ (z : List SetValue). AreSetsBefore course step before count Hits col (row +ℤ pos 1) z) (sym e) ((law before filled).empty col row old none sets)

    pub cell_put : (col row : ℤ) (b : SetValue) (runs : List (ℤ × ℤ)) (old new : List SetValue) → IsMergedIn t col row (Some b) → AreCellRuns col row runs → IsCutBy b runs old new → Advances plan step count Hits range t col row old col (row +ℤ pos 1) new
    cell_put col row b runs old new some are cut before filled sets = (law before filled).cell col row b runs old new some are.free are.covers cut sets

    -- ---- a column, and all columns

    pub advance_none : (col row c : ℤ) (old : List SetValue) → c ≡ row → Advances plan step count Hits range t col row old col c old
    advance_none col row c old e before filled sets = subst (λ (z : ℤ). AreSetsBefore course step before count Hits col z old) (sym e) sets

    pub advance_then : (col row c r d q : ℤ) (old now new : List SetValue) → Advances plan step count Hits range t col row old c r now → Advances plan step count Hits range t c r now d q new
        → Advances plan step count Hits range t col row old d q new
    advance_then col row c r d q old now new f g before filled sets = g before filled (f before filled sets)

    pub column_done : (col row : ℤ) (old new : List SetValue) → row ≡ slot plan.grid.g (box_at course step).yhi +ℤ pos 1
        → Advances plan step count Hits range t col (slot plan.grid.g (box_at course step).ylo) old col row new
        → Advances plan step count Hits range t col (slot plan.grid.g (box_at course step).ylo) old (col +ℤ pos 1) (slot plan.grid.g (box_at course step).ylo) new
    column_done col row old new e f before filled sets =
        (law before filled).column col new (subst (λ (z : ℤ). AreSetsBefore course step before count Hits col z new) e (f before filled sets))

    -- ---- room

    pub cell_room : (col row start : ℤ) (old new : List SetValue) (room : ℕ) (free : List (ℤ × ℤ)) (ends : List (ℕ × ℕ)) → (box_at course step).ylo ≤ℤ (box_at course step).yhi → AreAllRowsIn course step count Hits range free ends
        → IsCellIn course step col row → HasSetsBefore plan step count Hits range t col start old → HasRoom plan step count Hits range room
        → Advances plan step count Hits range t col start old col row new → HasCellRoom plan step count Hits range col row new room
    cell_room col row start old new room free ends order all cell (before, filled, sets) has adv runs are =
        let k = room_before course step before count Hits range (some_width plan.grid.w grid.w) (some_width plan.grid.g grid.g) col row new runs order (few_runs course step count Hits range free ends all) cell (adv before filled sets) are in
        omega (arith, k, has)

    next_place : (z : ℤ) (j : ℕ) → (z +ℤ pos j) +ℤ pos 1 ≡ z +ℤ pos (j + 1)
    next_place z j = omega (arith, ints)

    -- a row more
    pub row_put : (col row start : ℤ) (j : ℕ) (old now new : List SetValue) → row ≡ start +ℤ pos j → Advances plan step count Hits range t col start old col (start +ℤ pos j) now
        → Advances plan step count Hits range t col row now col (row +ℤ pos 1) new → Advances plan step count Hits range t col start old col (start +ℤ pos (j + 1)) new
    row_put col row start j old now new e f g =
        let there : Advances plan step count Hits range t col (start +ℤ pos j) now col ((start +ℤ pos j) +ℤ pos 1) new = subst (λ (z : ℤ). Advances plan step count Hits range t col z now col (z +ℤ pos 1) new) e g in
        let next : Advances plan step count Hits range t col (start +ℤ pos j) now col (start +ℤ pos (j + 1)) new = subst (λ (z : ℤ). Advances plan step count Hits range t col (start +ℤ pos j) now col z new) (next_place start j) there in
        advance_then col start col (start +ℤ pos j) col (start +ℤ pos (j + 1)) old now new f next

    -- a column more
    pub column_put : (col left row : ℤ) (i : ℕ) (old now new : List SetValue) → col ≡ left +ℤ pos i → Advances plan step count Hits range t left row old (left +ℤ pos i) row now
        → Advances plan step count Hits range t col row now (col +ℤ pos 1) row new → Advances plan step count Hits range t left row old (left +ℤ pos (i + 1)) row new
    column_put col left row i old now new e f g =
        let there : Advances plan step count Hits range t (left +ℤ pos i) row now ((left +ℤ pos i) +ℤ pos 1) row new = subst (λ (z : ℤ). Advances plan step count Hits range t z row now (z +ℤ pos 1) row new) e g in
        let next : Advances plan step count Hits range t (left +ℤ pos i) row now (left +ℤ pos (i + 1)) row new = subst (λ (z : ℤ). Advances plan step count Hits range t (left +ℤ pos i) row now z row new) (next_place left i) there in
        advance_then left row (left +ℤ pos i) row (left +ℤ pos (i + 1)) row old now new f next

    -- the ticks of the step that the table was filled for
    pub ticks_of : (col row : ℤ) (sets : List SetValue) (k : ℕ) → k ≡ plan.k → HasSetsBefore plan step count Hits range t col row sets → HasTicks t k
    ticks_of col row sets k e (before, filled, are) = subst (λ (n : ℕ). HasTicks t n) (sym e) (filled.o, filled.grid, filled.begun.step)

    pub sets_before_at : (col row c r : ℤ) (old new : List SetValue) → HasSetsBefore plan step count Hits range t col row old → Advances plan step count Hits range t col row old c r new → HasSetsBefore plan step count Hits range t c r new
    sets_before_at col row c r old new (before, filled, sets) adv = (before, filled, adv before filled sets)
