-- What comes into the cells of a box with a pair of polygons, column by column.
use Rattle.std.proofs.Common.{◌≡◌, ◌∙◌, ◌⊎◌, ℕ, ◌+◌, ◌-◌, ◌*◌, ◌≤◌, ◌<◌, arith, ap, sym, refl, subst, List, length, inl, inr}
use Rattle.std.specs.Prelude.{nat_abs, Option, Some, None, slice_get}
use Rattle.std.proofs.lemmas.Int.{ints}
use lib.IntN.{ℤ, pos, ◌+ℤ◌, ◌-ℤ◌}
use lib.Signed.{◌≤ℤ◌, ◌<ℤ◌}
use Rattle.spot_terms.specs.BaseSets.{least_place, greatest_place}
use Rattle.spot_terms.specs.CellNumbers.{Numbers, joined, IsJoined}
use Rattle.spot_terms.specs.ChildNumbers.{frame_supports}
use Rattle.spot_terms.specs.Courses.{cells_of, slots_met}
use Rattle.spot_terms.specs.Grid.{slot}
use Rattle.spot_terms.specs.Hull.{IsCornerList}
use Rattle.spot_terms.specs.Whole.{Within, count_between}
use Rattle.spot_terms.specs.declared.plain.Pt.{Pt}
use Rattle.round_out.specs.declared.frames.FrameNumbers.{FrameNumbers}
use Rattle.base_sets.specs.declared.grid.Grid.{Grid}
use Rattle.base_sets.specs.declared.grid.OuterBox.{OuterBox}
use Rattle.base_sets.specs.Values.{IsBox, IsGrid, rect_of_box}
use Rattle.merge_sets.specs.Adding.{AddsTo}
use Rattle.merge_sets.specs.BoxSlots.{AreSlotsOf, HasCell, place_in}
use Rattle.merge_sets.specs.Cells.{AreRows, AreSound, IsPartNumbers, JoinsColumns, OfBoth, joined_both, numbers_of}
use Rattle.merge_sets.specs.Tables.{IsAddable, IsCellOf, place_of}
use Rattle.merge_sets.specs.declared.cells.Cell.{Cell}
use Rattle.merge_sets.specs.declared.places.BoxSlots.{BoxSlots}
use Rattle.merge_sets.proofs.BoxCells.{apart_from, column_of, counted_within, counted_slots, last_within, columns_within, place_past, reached, steps_below}
use Rattle.base_sets.proofs.Slots.{count_is}
use Rattle.merge_sets.proofs.SlotsMet.{MeetsWithin, meets_within, none_there, slot_side}
use Rattle.spot_terms.proofs.Orders.{row_before, at_most_trans, natural_trans, reflexive}
use Rattle.spot_terms.proofs.Slots.{some_width}

-- ---- a cell by its numbers

-- what a cell has, with the numbers of both parts known
pub joined_cell : (w g : ℤ) (k : ℕ) (col row : ℤ) (x y : List Pt) (f r : Option FrameNumbers) (old new : Option Numbers) → IsPartNumbers w col k x f → IsPartNumbers g row k y r → new ≡ joined_both f r old → IsJoined w g k col row x y old new
joined_cell w g k col row x y None r old new p q e = inr (inl p, e)
joined_cell w g k col row x y (Some f) None old new p q e = inr (inr q, e)
joined_cell w g k col row x y (Some f) (Some r) old new (px, cx, ex) (py, cy, ey) e =
    inl (px, py, cx, cy, e ∙ ap (λ (z : List ℤ). Some (joined old (z, r.n))) ex ∙ ap (λ (z : List ℤ). Some (joined old (frame_supports k px, z))) ey)

-- ---- columns and rows that are met, as natural numbers

not_met : (q left right c : ℤ) (i : ℕ) → q ≤ℤ left → left ≤ℤ right → q ≤ℤ c → (c <ℤ left) ⊎ (right <ℤ c) → i < count_between left right → nat_abs (c -ℤ q) ≡ nat_abs (left -ℤ q) + i → ⊥
not_met q left right c i h o k out l e = let w = counted_slots left right i o l in clash left right c out (at q left c i h k e) w.high
  where
    at : (q left c : ℤ) (i : ℕ) → q ≤ℤ left → q ≤ℤ c → nat_abs (c -ℤ q) ≡ nat_abs (left -ℤ q) + i → c ≡ left +ℤ pos i
    at q left c i h k e = omega (arith, ints)

    clash : (left right c : ℤ) → (c <ℤ left) ⊎ (right <ℤ c) → c ≡ left +ℤ pos i → (left +ℤ pos i) ≤ℤ right → ⊥
    clash left right c (inl l) e h = absurd (omega (arith, ints, l, e))
    clash left right c (inr l) e h = absurd (omega (arith, ints, l, e, h))

row_apart : (q low high row : ℤ) → q ≤ℤ low → low ≤ℤ high → q ≤ℤ row → (row <ℤ low) ⊎ (high <ℤ row) → (nat_abs (row -ℤ q) < nat_abs (low -ℤ q)) ⊎ (nat_abs (low -ℤ q) + count_between low high ≤ nat_abs (row -ℤ q))
row_apart q low high row h o k (inl l) = inl (omega (arith, ints, h, k, l))
row_apart q low high row h o k (inr l) = inr (subst (λ (n : ℕ). nat_abs (low -ℤ q) + n ≤ nat_abs (row -ℤ q)) (count_is high low o) (plain q low high row h o k l))
  where
    plain : (q low high row : ℤ) → q ≤ℤ low → low ≤ℤ high → q ≤ℤ row → high <ℤ row → nat_abs (low -ℤ q) + nat_abs (high -ℤ low +ℤ pos 1) ≤ nat_abs (row -ℤ q)
    plain q low high row h o k l = omega (arith, ints, h, o, k, l)

column_within : (R a b m n i C : ℕ) → b + m ≤ R → a + n ≤ C → i < n → a * R + b + i * R + m ≤ C * R
column_within R a b m n i C h k l =
    let g : (a + i) * R + R ≤ C * R = row_before (a + i) C R R (omega (arith, k, l)) (omega arith) in
    let e : (a + i) * R ≡ a * R + i * R = grind arith in
    omega (arith, g, e, h)

-- ---- a pair of polygons in a box

module _ (o : OuterBox) (grid : Grid) (k : ℕ) (x y : List Pt) (box : IsBox o) (widths : IsGrid grid) (convex_x : IsCornerList x) (convex_y : IsCornerList y)
    (may_x : IsAddable o.xlo o.xhi x) (may_y : IsAddable o.ylo o.yhi y) where
  pub met_columns : MeetsWithin grid.w o.xlo o.xhi x
  met_columns = meets_within grid.w o.xlo o.xhi x widths.w box.xlo box.xhi convex_x may_x.within

  pub met_rows : MeetsWithin grid.g o.ylo o.yhi y
  met_rows = meets_within grid.g o.ylo o.yhi y widths.g box.ylo box.yhi convex_y may_y.within

  abbrev left : ℤ
  left = slot grid.w (least_place x)

  abbrev right : ℤ
  right = slot grid.w (greatest_place x)

  abbrev low : ℤ
  low = slot grid.g (least_place y)

  abbrev high : ℤ
  high = slot grid.g (greatest_place y)

  -- columns before the first that is met, and how many are met
  abbrev a : ℕ
  a = nat_abs (left -ℤ slot grid.w o.xlo)

  abbrev n : ℕ
  n = slots_met grid.w (least_place x) (greatest_place x)

  -- the same of rows
  abbrev b : ℕ
  b = nat_abs (low -ℤ slot grid.g o.ylo)

  abbrev m : ℕ
  m = slots_met grid.g (least_place y) (greatest_place y)

  columns_fit : a + n ≤ slots_met grid.w o.xlo o.xhi
  columns_fit = counted_within (slot grid.w o.xlo) (slot grid.w o.xhi) left right met_columns.low met_columns.order met_columns.high

  rows_fit : b + m ≤ column_of o grid
  rows_fit = counted_within (slot grid.g o.ylo) (slot grid.g o.yhi) low high met_rows.low met_rows.order met_rows.high

  -- the first cell that is met is one of the box
  pub first_cell : IsCellOf o grid left low
  first_cell = (record { low = met_columns.low; high = at_most_trans left right (slot grid.w o.xhi) met_columns.order met_columns.high }, record { low = met_rows.low; high = at_most_trans low high (slot grid.g o.yhi) met_rows.order met_rows.high })

  -- what the calls ask
  pub room_is : n * column_of o grid ≤ cells_of grid.w grid.g (rect_of_box o)
  room_is = columns_within a n (slots_met grid.w o.xlo o.xhi) (column_of o grid) columns_fit

  pub last_is : 0 < n → place_of o grid left low + (n - 1) * column_of o grid + m ≤ cells_of grid.w grid.g (rect_of_box o)
  last_is some = last_within (column_of o grid) a b m n (slots_met grid.w o.xlo o.xhi) rows_fit columns_fit some

  pub apart_is : m ≤ column_of o grid
  apart_is = let h = rows_fit in omega (arith, h)

  pub few_is : m ≤ cells_of grid.w grid.g (rect_of_box o)
  few_is = few a n b m (slots_met grid.w o.xlo o.xhi) (column_of o grid) columns_fit rows_fit (some_columns (slot grid.w o.xlo) (slot grid.w o.xhi) left right met_columns.low met_columns.order met_columns.high)
    where
      some_columns : (q p left right : ℤ) → q ≤ℤ left → left ≤ℤ right → right ≤ℤ p → 1 ≤ count_between q p
      some_columns q p left right h o l = let w = steps_below q p q (record { low = reflexive q; high = at_most_trans q left p h (at_most_trans left right p o l) }) in omega (arith, w)

      times_at_least : (C R : ℕ) → 1 ≤ C → R ≤ C * R
      times_at_least C R h = grind arith

      few : (a n b m C R : ℕ) → a + n ≤ C → b + m ≤ R → 1 ≤ C → m ≤ C * R
      few a n b m C R h k l = let g = times_at_least C R l in omega (arith, g, k)

  -- the cells of the box with the pair
  module _ (rows : List (Option FrameNumbers)) (old new : List Cell) (joins : JoinsColumns (place_of o grid left low) (column_of o grid) n m grid.w left k x rows old new) (are_rows : AreRows m grid.g low k y rows) where
    -- a cell that isn't met has what it had
    kept : (col row : ℤ) (c : Cell) → IsCellOf o grid col row → slice_get old (place_of o grid col row) ≡ Some c
        → ((i : ℕ) → i < n → nat_abs (col -ℤ slot grid.w o.xlo) ≡ a + i → (nat_abs (row -ℤ slot grid.g o.ylo) < b) ⊎ (b + m ≤ nat_abs (row -ℤ slot grid.g o.ylo)))
        → slice_get new (place_of o grid col row) ≡ Some c
    kept col row c cell got apart =
        joins.outside (place_of o grid col row) (apart_from (column_of o grid) a b m n (nat_abs (col -ℤ slot grid.w o.xlo)) (nat_abs (row -ℤ slot grid.g o.ylo)) rows_fit (steps_below (slot grid.g o.ylo) (slot grid.g o.yhi) row cell.1) apart) ∙ got

    -- a cell that is met has the numbers joined
    met : (col row : ℤ) (c : Cell) → slice_get old (place_of o grid col row) ≡ Some c → Within left right col → Within low high row
        → (d : Cell) × (slice_get new (place_of o grid col row) ≡ Some d) × IsJoined grid.w grid.g k col row x y (numbers_of c) (numbers_of d)
    met col row c got in_col in_row =
        let i : ℕ = nat_abs (col -ℤ left) in
        let j : ℕ = nat_abs (row -ℤ low) in
        let col_is : col ≡ left +ℤ pos i = reached left col in_col.low in
        let row_is : row ≡ low +ℤ pos j = reached low row in_row.low in
        let place : place_of o grid col row ≡ place_of o grid left low + i * column_of o grid + j =
        ap (λ (z : ℤ). place_of o grid z row) col_is ∙ ap (λ (z : ℤ). place_of o grid (left +ℤ pos i) z) row_is ∙ place_past o grid left low i j met_columns.low met_rows.low in
        let (r, got_r, part_r, sound_r) = are_rows j (steps_below low high row in_row) in
        let (d, got_d, (f, part_f, is)) = joins.inside i j r c (steps_below left right col in_col) (steps_below low high row in_row) got_r (sym (ap (slice_get old) place) ∙ got) in (
          d,
          ap (slice_get new) place ∙ got_d,
          joined_cell grid.w grid.g k col row x y f r (numbers_of c) (numbers_of d) (subst (λ (z : ℤ). IsPartNumbers grid.w z k x f) (sym col_is) part_f) (subst (λ (z : ℤ). IsPartNumbers grid.g z k y r) (sym row_is) part_r) is,
        )

    pub adds_to : AddsTo o grid k x y old new
    adds_to = record {
      convex_x = convex_x;
      convex_y = convex_y;
      count = joins.count;
      inside = λ col row c cell got. elim (slot_side left right col) [
        | inr out ↦ (
          c,
          kept col row c cell got (λ i l e. absurd (not_met (slot grid.w o.xlo) left right col i met_columns.low met_columns.order cell.0.low out l e)),
          inr (inl (none_there x grid.w col met_columns.some convex_x out), refl),
        )
        | inl in_col ↦ elim (slot_side low high row) [
          | inr out ↦ (
            c,
            kept col row c cell got (λ i l e. row_apart (slot grid.g o.ylo) low high row met_rows.low met_rows.order cell.1.low out),
            inr (inr (none_there y grid.g row met_rows.some convex_y out), refl),
          )
          | inl in_row ↦ met col row c got in_col in_row
        ]
      ];
      past = λ p h. joins.outside p (λ i l. inr (let g = column_within (column_of o grid) a b m n i (slots_met grid.w o.xlo o.xhi) rows_fit columns_fit l in natural_trans (place_of o grid left low + i * column_of o grid + m) (cells_of grid.w grid.g (rect_of_box o)) p g h));
      sound = joins.sound;
    }
