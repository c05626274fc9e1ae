-- The rows of a box, as the code numbers them.
use Rattle.std.proofs.Common.{◌≡◌, ◌∙◌, ℕ, ◌+◌, ◌<◌, ◌≤◌, arith, refl, sym, ap, subst, List, length, w64, to_z, of_z, FitsSigned}
use Rattle.std.specs.Prelude.{nat_abs}
use Rattle.std.proofs.Math.Facts.{to_z_pos}
use Rattle.std.proofs.lemmas.Int.{ints, fits_signed_from_abs}
use lib.IntN.{ℤ, pos, ◌+ℤ◌, ◌-ℤ◌}
use lib.Signed.{◌≤ℤ◌}
use Rattle.spot_terms.specs.BaseSets.{Rect, SetValue}
use Rattle.spot_terms.specs.Courses.{box_at, slots_met}
use Rattle.spot_terms.specs.Grid.{slot, IsRemoved, AreFreeRuns, CoverTheRest}
use Rattle.spot_terms.specs.RowBoxes.{row_boxes_in, runs_bound}
use Rattle.spot_terms.specs.Whole.{Within}
use Rattle.spot_terms.specs.declared.plain.Pt.{Pt}
use Rattle.convex_poly.proofs.Wide.{small_back}
use Rattle.base_sets.specs.Values.{AreBoxPlaces, IsBox, IsGrid, rect_of_box}
use Rattle.base_sets.specs.declared.grid.OuterBox.{OuterBox}
use Rattle.merge_sets.proofs.BoxCells.{counted_slots}
use Rattle.merge_sets.specs.BoxSlots.{AreNear}
use Rattle.merge_sets.specs.declared.places.BoxSlots.{BoxSlots}
use Rattle.merge_sets.proofs.Steps.{near_slots}
use Rattle.carve.specs.RowSums.{sum_rows}
use Rattle.carve.proofs.RowCounts.{rows_are_boxes}
use Rattle.base_sets.proofs.Slots.{count_is}
use Rattle.merge_sets.specs.Tables.{Table}
use Rattle.area_laws.specs.Reaching.{IsCellIn}
use Rattle.area_run.specs.Plans.{course_of}
use Rattle.area_run.specs.Rows.{AreRunsOf, AreRowsIn, AreAllRowsIn}
use Rattle.area_run.specs.declared.plan.Plan.{Plan}
use Rattle.area_run.specs.Stages.{Advances}
use Rattle.area_run.proofs.Listing.{room_for_row, bound}
use Rattle.area_run.proofs.Putting.{column_done}
use Rattle.spot_terms.proofs.Slots.{slots_rise, some_width}

module _ (plan : Plan) (step : ℕ) (count : ℕ) (Hits : ℕ → Pt → Type 0) (range : ℕ → ℤ × ℤ) (b : OuterBox) (exact : rect_of_box b ≡ box_at (course_of plan) step) (reach : IsBox b)
    (near : AreBoxPlaces 21_000_000_000_000 b) (grid : IsGrid plan.grid) where
  abbrev pub low : ℤ
  low = slot plan.grid.g b.ylo

  abbrev slots : BoxSlots
  slots = record { first_col = slot plan.grid.w b.xlo; last_col = slot plan.grid.w b.xhi; first_row = slot plan.grid.g b.ylo; last_row = slot plan.grid.g b.yhi; rows = slots_met plan.grid.g b.ylo b.yhi }

  are_near : AreNear slots
  are_near = near_slots b plan.grid slots reach grid (record { first_col = refl; last_col = refl; first_row = refl; last_row = refl; rows = refl })

  pub low_small : nat_abs low ≤ 400_000_000
  low_small = are_near.first_row

  pub rows_few : slots_met plan.grid.g b.ylo b.yhi ≤ 1_000_000_000
  rows_few = are_near.rows

  pub among : (j : ℕ) → j < slots_met plan.grid.g b.ylo b.yhi → Within low (slot plan.grid.g b.yhi) (low +ℤ pos j)
  among j l = counted_slots low (slot plan.grid.g b.yhi) j (slots_rise plan.grid.g b.ylo b.yhi (some_width plan.grid.g grid.g) reach.y) l

  -- what is said of the box is said of the box of the step
  pub over_box : (P : Rect → Type 0) → P (rect_of_box b) → P (box_at (course_of plan) step)
  over_box P h = subst P exact h

  pub runs_of : (row : ℤ) (runs : List (ℤ × ℤ)) → AreFreeRuns (IsRemoved count Hits plan.grid.g row) plan.grid.w (slot plan.grid.w b.xlo) (slot plan.grid.w b.xhi) runs
      → CoverTheRest (IsRemoved count Hits plan.grid.g row) plan.grid.w (slot plan.grid.w b.xlo) (slot plan.grid.w b.xhi) runs → length runs ≤ runs_bound plan.grid.w plan.grid.g (rect_of_box b) count range row
      → AreRunsOf (course_of plan) step count Hits range row runs
  runs_of row runs free covers few = record {
    free = over_box (λ (r : Rect). AreFreeRuns (IsRemoved count Hits plan.grid.g row) plan.grid.w (slot plan.grid.w r.xlo) (slot plan.grid.w r.xhi) runs) free;
    covers = over_box (λ (r : Rect). CoverTheRest (IsRemoved count Hits plan.grid.g row) plan.grid.w (slot plan.grid.w r.xlo) (slot plan.grid.w r.xhi) runs) covers;
    few = over_box (λ (r : Rect). length runs ≤ runs_bound plan.grid.w plan.grid.g r count range row) few;
  }

  pub low_is : low ≡ slot plan.grid.g (box_at (course_of plan) step).ylo
  low_is = over_box (λ (r : Rect). low ≡ slot plan.grid.g r.ylo) refl

  sum_is : sum_rows (bound (course_of plan) step count Hits range) (slot plan.grid.g (box_at (course_of plan) step).ylo) (slots_met plan.grid.g b.ylo b.yhi) ≡ row_boxes_in plan.grid.w plan.grid.g (rect_of_box b) count range
  sum_is = over_box (λ (r : Rect). sum_rows (runs_bound plan.grid.w plan.grid.g r count range) (slot plan.grid.g r.ylo) (slots_met plan.grid.g b.ylo b.yhi) ≡ row_boxes_in plan.grid.w plan.grid.g (rect_of_box b) count range)
      (rows_are_boxes plan.grid.w plan.grid.g (rect_of_box b) count range (some_width plan.grid.g grid.g) reach.y)

  pub row_room : (free runs : List (ℤ × ℤ)) (ends : List (ℕ × ℕ)) (n room : ℕ) (row : ℤ) → AreRowsIn (course_of plan) step count Hits range free ends n → row ≡ low +ℤ pos n → AreRunsOf (course_of plan) step count Hits range row runs
      → n < slots_met plan.grid.g b.ylo b.yhi → row_boxes_in plan.grid.w plan.grid.g (rect_of_box b) count range ≤ room → length free + length runs ≤ room
  row_room free runs ends n room row h at are l r =
      room_for_row (course_of plan) step count Hits range free runs ends n (slots_met plan.grid.g b.ylo b.yhi) room row h (at ∙ ap (λ (z : ℤ). z +ℤ pos n) low_is) are.few l (let s = sum_is in omega (arith, s, r))

  pub all_rows : (free : List (ℤ × ℤ)) (ends : List (ℕ × ℕ)) (n : ℕ) → n ≡ slots_met plan.grid.g b.ylo b.yhi → AreRowsIn (course_of plan) step count Hits range free ends n → AreAllRowsIn (course_of plan) step count Hits range free ends
  all_rows free ends n e h = over_box (λ (r : Rect). AreRowsIn (course_of plan) step count Hits range free ends (slots_met plan.grid.g r.ylo r.yhi)) (subst (λ (m : ℕ). AreRowsIn (course_of plan) step count Hits range free ends m) e h)

  -- ---- the cells of the box

  pub order_of : (box_at (course_of plan) step).ylo ≤ℤ (box_at (course_of plan) step).yhi
  order_of = over_box (λ (r : Rect). r.ylo ≤ℤ r.yhi) reach.y

  pub rows_counted : (free : List (ℤ × ℤ)) (ends : List (ℕ × ℕ)) → AreAllRowsIn (course_of plan) step count Hits range free ends → length ends ≡ slots_met plan.grid.g b.ylo b.yhi
  rows_counted free ends h = subst (λ (r : Rect). length ends ≡ slots_met plan.grid.g r.ylo r.yhi) (sym exact) h.counted

  pub cell_in : (col row : ℤ) (j : ℕ) → Within (slot plan.grid.w b.xlo) (slot plan.grid.w b.xhi) col → row ≡ low +ℤ pos j → j < slots_met plan.grid.g b.ylo b.yhi → IsCellIn (course_of plan) step col row
  cell_in col row j in_col at l = record {
    col_in = over_box (λ (r : Rect). Within (slot plan.grid.w r.xlo) (slot plan.grid.w r.xhi) col) in_col;
    row_in = over_box (λ (r : Rect). Within (slot plan.grid.g r.ylo) (slot plan.grid.g r.yhi) row) (subst (λ (z : ℤ). Within low (slot plan.grid.g b.yhi) z) (sym at) (among j l));
  }

  past_last : (lo hi : ℤ) (n : ℕ) → lo ≤ℤ hi → nat_abs (hi -ℤ lo +ℤ pos 1) ≡ n → lo +ℤ pos n ≡ hi +ℤ pos 1
  past_last lo hi n h e = omega (arith, ints, h, e)

  pub behind_rows : low +ℤ pos (slots_met plan.grid.g b.ylo b.yhi) ≡ slot plan.grid.g b.yhi +ℤ pos 1
  behind_rows = let o = slots_rise plan.grid.g b.ylo b.yhi (some_width plan.grid.g grid.g) reach.y in past_last low (slot plan.grid.g b.yhi) _ o (count_is (slot plan.grid.g b.yhi) low o)

  pub behind_columns : slot plan.grid.w b.xlo +ℤ pos (slots_met plan.grid.w b.xlo b.xhi) ≡ slot plan.grid.w b.xhi +ℤ pos 1
  behind_columns = let o = slots_rise plan.grid.w b.xlo b.xhi (some_width plan.grid.w grid.w) reach.x in past_last (slot plan.grid.w b.xlo) (slot plan.grid.w b.xhi) _ o (count_is (slot plan.grid.w b.xhi) (slot plan.grid.w b.xlo) o)

  pub among_columns : (i : ℕ) → i < slots_met plan.grid.w b.xlo b.xhi → Within (slot plan.grid.w b.xlo) (slot plan.grid.w b.xhi) (slot plan.grid.w b.xlo +ℤ pos i)
  among_columns i l = counted_slots (slot plan.grid.w b.xlo) (slot plan.grid.w b.xhi) i (slots_rise plan.grid.w b.xlo b.xhi (some_width plan.grid.w grid.w) reach.x) l

  pub left_small : nat_abs (slot plan.grid.w b.xlo) ≤ 400_000_000
  left_small = are_near.first_col

  -- a column whose rows are all done
  pub column_over : (t : Table) (col : ℤ) (n : ℕ) (old new : List SetValue) → n ≡ slots_met plan.grid.g b.ylo b.yhi → Advances plan step count Hits range t col low old col (low +ℤ pos n) new
      → Advances plan step count Hits range t col low old (col +ℤ pos 1) low new
  column_over t col n old new e adv =
      let last : low +ℤ pos n ≡ slot plan.grid.g b.yhi +ℤ pos 1 = ap (λ (m : ℕ). low +ℤ pos m) e ∙ behind_rows in
      let over : low +ℤ pos n ≡ slot plan.grid.g (box_at (course_of plan) step).yhi +ℤ pos 1 = over_box (λ (r : Rect). low +ℤ pos n ≡ slot plan.grid.g r.yhi +ℤ pos 1) last in
      subst (λ (z : ℤ). Advances plan step count Hits range t col z old (col +ℤ pos 1) z new) (sym low_is)
      (column_done plan step count Hits range t grid col (low +ℤ pos n) old new over (subst (λ (z : ℤ). Advances plan step count Hits range t col z old col (low +ℤ pos n) new) low_is adv))
