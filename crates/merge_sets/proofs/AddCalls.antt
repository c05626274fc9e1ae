-- What the calls that add a pair of polygons ask, and what they have done.
use Rattle.std.proofs.Common.{◌≡◌, ◌∙◌, ℕ, ◌+◌, ◌-◌, ◌*◌, ◌≤◌, ◌<◌, arith, ap, sym, refl, subst, List, length, to_z, of_z, w64}
use Rattle.std.specs.Prelude.{nat_abs, Option, Some, None, IfSome, slice_get}
use Rattle.std.proofs.lemmas.Int.{ints}
use Rattle.std.proofs.lemmas.Option.{same_Some}
use lib.IntN.{ℤ, pos, ◌+ℤ◌}
use lib.Signed.{◌≤ℤ◌}
use Rattle.spot_terms.specs.BaseSets.{least_place, greatest_place}
use Rattle.spot_terms.specs.Courses.{cells_of, slots_met}
use Rattle.spot_terms.specs.Grid.{slot}
use Rattle.spot_terms.specs.Hull.{IsCornerList}
use Rattle.spot_terms.specs.Whole.{Within}
use Rattle.spot_terms.specs.declared.plain.Pt.{Pt}
use Rattle.round_out.specs.declared.frames.FrameNumbers.{FrameNumbers}
use Rattle.base_sets.specs.declared.grid.Grid.{Grid}
use Rattle.base_sets.specs.declared.grid.OuterBox.{OuterBox}
use Rattle.base_sets.specs.Values.{IsBox, IsGrid, rect_of_box}
use Rattle.merge_sets.specs.Adding.{AddsTo}
use Rattle.merge_sets.specs.BoxSlots.{AreNear, AreSlotsOf, HasCell, place_in}
use Rattle.merge_sets.specs.Cells.{AreRows, AreSound, IsNear, JoinsColumns}
use Rattle.merge_sets.specs.Tables.{IsAddable, place_of}
use Rattle.merge_sets.specs.declared.cells.Cell.{Cell}
use Rattle.merge_sets.specs.declared.places.BoxSlots.{BoxSlots}
use Rattle.merge_sets.proofs.BoxCells.{column_of}
use Rattle.merge_sets.proofs.BoxColumns.{adds_to, apart_is, few_is, first_cell, last_is, met_columns, met_rows, room_is}
use Rattle.merge_sets.proofs.PartSlots.{read}
use Rattle.merge_sets.proofs.Steps.{cell_in, near_slots, place_same}

-- rows that are known are sound
pub rows_sound : (m : ℕ) (width first : ℤ) (k : ℕ) (y : List Pt) (rows : List (Option FrameNumbers)) → AreRows m width first k y rows → (j : ℕ) (f : FrameNumbers) → j < m → slice_get rows j ≡ Some (Some f) → AreSound k f.n
rows_sound m width first k y rows are j f l got = let (r, found, part, sound) = are j l in subst (λ (z : Option FrameNumbers). IfSome z (λ h. AreSound k h.n)) (same_Some r (Some f) (sym found ∙ got)) sound

width_read : (w : ℤ) → Within (pos 100_000) (pos 100_000_000) w → read w ≡ w
width_read w h = omega (arith, ints, h.low, h.high)

slot_small : (q p z : ℤ) → nat_abs q ≤ 400_000_000 → nat_abs p ≤ 400_000_000 → Within q p z → nat_abs z ≤ 400_000_000
slot_small q p z h k w = omega (arith, ints, h, k, w.low, w.high)

pub small_read : (z : ℤ) → nat_abs z ≤ 400_000_000 → read z ≡ z
small_read z h = omega (arith, ints, h)

module _ (o : OuterBox) (grid : Grid) (s : BoxSlots) (x y : List Pt) (box : IsBox o) (widths : IsGrid grid) (are : AreSlotsOf o grid s) (convex_x : IsCornerList x) (convex_y : IsCornerList y)
    (may_x : IsAddable o.xlo o.xhi x) (may_y : IsAddable o.ylo o.yhi y) (left low : ℤ) (n m : ℕ)
    (left_is : left ≡ slot (read grid.w) (least_place x)) (n_is : n ≡ slots_met (read grid.w) (least_place x) (greatest_place x))
    (low_is : low ≡ slot (read grid.g) (least_place y)) (m_is : m ≡ slots_met (read grid.g) (least_place y) (greatest_place y)) where
  abbrev first_col : ℤ
  first_col = slot grid.w (least_place x)

  abbrev first_row : ℤ
  first_row = slot grid.g (least_place y)

  abbrev columns : ℕ
  columns = slots_met grid.w (least_place x) (greatest_place x)

  abbrev rows_met : ℕ
  rows_met = slots_met grid.g (least_place y) (greatest_place y)

  abbrev all_cells : ℕ
  all_cells = cells_of grid.w grid.g (rect_of_box o)

  -- the numbers of the calls, in the words of the grid
  left_plain : left ≡ first_col
  left_plain = left_is ∙ ap (λ (z : ℤ). slot z (least_place x)) (width_read grid.w widths.w)

  low_plain : low ≡ first_row
  low_plain = low_is ∙ ap (λ (z : ℤ). slot z (least_place y)) (width_read grid.g widths.g)

  n_plain : n ≡ columns
  n_plain = n_is ∙ ap (λ (z : ℤ). slots_met z (least_place x) (greatest_place x)) (width_read grid.w widths.w)

  m_plain : m ≡ rows_met
  m_plain = m_is ∙ ap (λ (z : ℤ). slots_met z (least_place y) (greatest_place y)) (width_read grid.g widths.g)

  near : AreNear s
  near = near_slots o grid s box widths are

  has_first : HasCell s first_col first_row
  has_first = cell_in o grid s first_col first_row are (first_cell o grid 0 x y box widths convex_x convex_y may_x may_y)

  left_small : nat_abs first_col ≤ 400_000_000
  left_small = slot_small s.first_col s.last_col first_col near.first_col near.last_col has_first.0

  low_small : nat_abs first_row ≤ 400_000_000
  low_small = slot_small s.first_row s.last_row first_row near.first_row near.last_row has_first.1

  left_read : read left ≡ first_col
  left_read = ap read left_plain ∙ small_read first_col left_small

  low_read : read low ≡ first_row
  low_read = ap read low_plain ∙ small_read first_row low_small

  pub has_asked : HasCell s (read left) (read low)
  has_asked = subst (λ (z : ℤ). HasCell s z (read low)) (sym left_read) (subst (λ (z : ℤ). HasCell s first_col z) (sym low_read) has_first)

  pub left_asked : nat_abs (read left) ≤ 1_000_000_000
  left_asked = subst (λ (z : ℤ). nat_abs z ≤ 1_000_000_000) (sym left_read) (let h = left_small in omega (arith, h))

  pub low_asked : nat_abs (read low) ≤ 1_000_000_000
  low_asked = subst (λ (z : ℤ). nat_abs z ≤ 1_000_000_000) (sym low_read) (let h = low_small in omega (arith, h))

  pub apart_asked : m ≤ s.rows
  apart_asked = subst (λ (z : ℕ). z ≤ s.rows) (sym m_plain) (subst (λ (z : ℕ). rows_met ≤ z) (sym are.rows) (apart_is o grid 0 x y box widths convex_x convex_y may_x may_y))

  pub count_small : m ≤ 1_000_000_000
  count_small = let h = apart_asked in let r = near.rows in omega (arith, h, r)

  pub few_asked : (len : ℕ) → all_cells ≤ len → m ≤ len
  few_asked len room = let h : m ≤ all_cells = subst (λ (z : ℕ). z ≤ all_cells) (sym m_plain) (few_is o grid 0 x y box widths convex_x convex_y may_x may_y) in omega (arith, h, room)

  pub room_asked : (len : ℕ) → all_cells ≤ len → n * s.rows ≤ len
  room_asked len room =
      let h : n * s.rows ≤ all_cells = subst (λ (z : ℕ). z * s.rows ≤ all_cells) (sym n_plain) (subst (λ (z : ℕ). columns * z ≤ all_cells) (sym are.rows) (room_is o grid 0 x y box widths convex_x convex_y may_x may_y)) in
      omega (arith, h, room)

  at_plain : (at : ℕ) → at ≡ place_in s (read left) (read low) → at ≡ place_of o grid first_col first_row
  at_plain at e = e ∙ ap (λ (z : ℤ). place_in s z (read low)) left_read ∙ ap (λ (z : ℤ). place_in s first_col z) low_read ∙ place_same o grid s first_col first_row are

  pub last_asked : (len at : ℕ) → all_cells ≤ len → at ≡ place_in s (read left) (read low) → 0 < n → at + (n - 1) * s.rows + m ≤ len
  last_asked len at room e some =
      let plain : place_of o grid first_col first_row + (columns - 1) * column_of o grid + rows_met ≤ all_cells = last_is o grid 0 x y box widths convex_x convex_y may_x may_y (subst (λ (z : ℕ). 0 < z) n_plain some) in
      let at_read : at + (columns - 1) * column_of o grid + rows_met ≤ all_cells = subst (λ (z : ℕ). z + (columns - 1) * column_of o grid + rows_met ≤ all_cells) (sym (at_plain at e)) plain in
      let with_rows : at + (columns - 1) * s.rows + rows_met ≤ all_cells = subst (λ (z : ℕ). at + (columns - 1) * z + rows_met ≤ all_cells) (sym are.rows) at_read in
      let with_n : at + (n - 1) * s.rows + rows_met ≤ all_cells = subst (λ (z : ℕ). at + (z - 1) * s.rows + rows_met ≤ all_cells) (sym n_plain) with_rows in
      let with_m : at + (n - 1) * s.rows + m ≤ all_cells = subst (λ (z : ℕ). at + (n - 1) * s.rows + z ≤ all_cells) (sym m_plain) with_n in
      omega (arith, with_m, room)

  pub near_columns : (i : ℕ) → i < n → IsNear (read grid.w) (read left +ℤ pos i)
  near_columns i l = subst (λ (z : ℤ). IsNear z (read left +ℤ pos i)) (sym (width_read grid.w widths.w)) (subst (λ (z : ℤ). IsNear grid.w (z +ℤ pos i)) (sym left_read)
      ((met_columns o grid 0 x y box widths convex_x convex_y may_x may_y).near i (subst (λ (z : ℕ). i < z) n_plain l)))

  pub near_rows : (j : ℕ) → j < m → IsNear (read grid.g) (read low +ℤ pos j)
  near_rows j l = subst (λ (z : ℤ). IsNear z (read low +ℤ pos j)) (sym (width_read grid.g widths.g)) (subst (λ (z : ℤ). IsNear grid.g (z +ℤ pos j)) (sym low_read)
      ((met_rows o grid 0 x y box widths convex_x convex_y may_x may_y).near j (subst (λ (z : ℕ). j < z) m_plain l)))

  pub added : (k at : ℕ) (rows : List (Option FrameNumbers)) (old new : List Cell) → at ≡ place_in s (read left) (read low) → JoinsColumns at s.rows n m (read grid.w) (read left) k x rows old new → AreRows m (read grid.g) (read low) k y rows → AddsTo o grid k x y old new
  added k at rows old new e joins rows_are = adds_to o grid k x y box widths convex_x convex_y may_x may_y rows old new
      (subst (λ (z : ℕ). JoinsColumns z (column_of o grid) columns rows_met grid.w first_col k x rows old new) (at_plain at e)
      (subst (λ (z : ℕ). JoinsColumns at z columns rows_met grid.w first_col k x rows old new) are.rows
      (subst (λ (z : ℕ). JoinsColumns at s.rows z rows_met grid.w first_col k x rows old new) n_plain
      (subst (λ (z : ℕ). JoinsColumns at s.rows n z grid.w first_col k x rows old new) m_plain
      (subst (λ (z : ℤ). JoinsColumns at s.rows n m z first_col k x rows old new) (width_read grid.w widths.w)
      (subst (λ (z : ℤ). JoinsColumns at s.rows n m (read grid.w) z k x rows old new) left_read joins))))))
      (subst (λ (z : ℕ). AreRows z grid.g first_row k y rows) m_plain
      (subst (λ (z : ℤ). AreRows m z first_row k y rows) (width_read grid.g widths.g)
      (subst (λ (z : ℤ). AreRows m (read grid.g) z k y rows) low_read rows_are)))
