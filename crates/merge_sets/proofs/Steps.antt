-- What a table holds, as a step begins, and after a pair or known numbers came in.
use Rattle.std.proofs.Common.{◌≡◌, ◌∙◌, ◌⊎◌, ℕ, ◌+◌, ◌≤◌, ◌<◌, arith, ap, sym, refl, subst, List, [], map, length, Bool, true, false, inl, inr}
use Rattle.std.specs.Prelude.{nat_abs, Option, Some, None, IfSome, option_map, slice_get}
use Rattle.std.proofs.lemmas.Int.{ints}
use Rattle.std.proofs.lemmas.Option.{none-some, same_Some, slice_get-map, slice_get_within, slice_get-get_or}
use lib.IntN.{ℤ, pos, ◌+ℤ◌, ◌-ℤ◌}
use lib.Signed.{◌≤ℤ◌, ◌<ℤ◌}
use Rattle.spot_terms.specs.CellNumbers.{Numbers, IsJoined}
use Rattle.spot_terms.specs.Courses.{cells_of}
use Rattle.spot_terms.specs.Grid.{slot}
use Rattle.spot_terms.specs.Hull.{IsCornerList}
use Rattle.spot_terms.specs.Motions.{State}
use Rattle.spot_terms.specs.Whole.{Within}
use Rattle.spot_terms.specs.declared.plain.Pt.{Pt}
use Rattle.round_out.specs.declared.frames.FrameNumbers.{FrameNumbers}
use Rattle.spot_terms.proofs.Orders.{below_or_at_least}
use Rattle.base_sets.proofs.Slots.{count_is, slots_are}
use Rattle.base_sets.specs.declared.grid.Grid.{Grid}
use Rattle.base_sets.specs.declared.grid.OuterBox.{OuterBox}
use Rattle.base_sets.specs.Values.{AreTicks, IsBox, IsGrid, rect_of_box}
use Rattle.merge_sets.specs.Adding.{AddsTo}
use Rattle.merge_sets.specs.BoxSlots.{AreNear, AreSlotsOf, HasCell, place_in}
use Rattle.merge_sets.specs.Cells.{AreSound, IsCleared, IsStep, IsTable, OfBoth, numbers_of, pair_of}
use Rattle.merge_sets.specs.Tables.{Adds, AreSoundIn, Holds, HoldsInCell, IsAddable, IsCellOf, PartsHold, Table, place_of}
use Rattle.merge_sets.specs.declared.cells.Cell.{Cell}
use Rattle.merge_sets.specs.declared.places.BoxSlots.{BoxSlots}
use Rattle.merge_sets.proofs.BoxCells.{place_below}
use Rattle.merge_sets.proofs.Parts.{leave_states}
use Rattle.merge_sets.proofs.PartSlots.{none_outside}
use Rattle.merge_sets.proofs.SlotsMet.{slot_side}
use Rattle.spot_terms.proofs.Slots.{some_width}

abbrev pub StepOf : Type 0
StepOf = Option (OuterBox × Grid × ℕ)

-- the table of these fields
abbrev pub table_of : ℕ → StepOf → List Cell → Table
table_of most step cells = record { most = most; step = step; cells = map numbers_of cells }

-- ---- cells of a box

-- a cell is one of the box, or it isn't
pub cell_side : (o : OuterBox) (grid : Grid) (col row : ℤ) → IsCellOf o grid col row
    ⊎ (((col <ℤ slot grid.w o.xlo) ⊎ (slot grid.w o.xhi <ℤ col)) ⊎ ((row <ℤ slot grid.g o.ylo) ⊎ (slot grid.g o.yhi <ℤ row)))
cell_side o grid col row = elim (slot_side (slot grid.w o.xlo) (slot grid.w o.xhi) col) [
  | inr out ↦ inr (inl out)
  | inl in_col ↦ elim (slot_side (slot grid.g o.ylo) (slot grid.g o.yhi) row) [ inr out ↦ inr (inr out) | inl in_row ↦ inl (in_col, in_row) ]
]

not_both : (lo hi z : ℤ) → (z <ℤ lo) ⊎ (hi <ℤ z) → Within lo hi z → ⊥
not_both lo hi z (inl l) w = absurd (omega (arith, ints, l, w.low))
not_both lo hi z (inr l) w = absurd (omega (arith, ints, l, w.high))

pub not_of : (o : OuterBox) (grid : Grid) (col row : ℤ) → (((col <ℤ slot grid.w o.xlo) ⊎ (slot grid.w o.xhi <ℤ col)) ⊎ ((row <ℤ slot grid.g o.ylo) ⊎ (slot grid.g o.yhi <ℤ row))) → IsCellOf o grid col row → ⊥
not_of o grid col row (inl out) cell = not_both (slot grid.w o.xlo) (slot grid.w o.xhi) col out cell.0
not_of o grid col row (inr out) cell = not_both (slot grid.g o.ylo) (slot grid.g o.yhi) row out cell.1

-- by the slots that the table keeps
pub cell_of : (o : OuterBox) (grid : Grid) (s : BoxSlots) (col row : ℤ) → AreSlotsOf o grid s → HasCell s col row → IsCellOf o grid col row
cell_of o grid s col row h c = (
  record { low = subst (λ (z : ℤ). z ≤ℤ col) h.first_col c.0.low; high = subst (λ (z : ℤ). col ≤ℤ z) h.last_col c.0.high },
  record { low = subst (λ (z : ℤ). z ≤ℤ row) h.first_row c.1.low; high = subst (λ (z : ℤ). row ≤ℤ z) h.last_row c.1.high },
)

pub cell_in : (o : OuterBox) (grid : Grid) (s : BoxSlots) (col row : ℤ) → AreSlotsOf o grid s → IsCellOf o grid col row → HasCell s col row
cell_in o grid s col row h c = (
  record { low = subst (λ (z : ℤ). z ≤ℤ col) (sym h.first_col) c.0.low; high = subst (λ (z : ℤ). col ≤ℤ z) (sym h.last_col) c.0.high },
  record { low = subst (λ (z : ℤ). z ≤ℤ row) (sym h.first_row) c.1.low; high = subst (λ (z : ℤ). row ≤ℤ z) (sym h.last_row) c.1.high },
)

pub place_same : (o : OuterBox) (grid : Grid) (s : BoxSlots) (col row : ℤ) → AreSlotsOf o grid s → place_in s col row ≡ place_of o grid col row
place_same o grid s col row h = rw (h.first_col, h.rows, h.first_row) refl

-- ---- what a cell holds

-- the cell at a place
pub cell_at : (cells : List Cell) (i : ℕ) → i < length cells → (c : Cell) × (slice_get cells i ≡ Some c)
cell_at cells i l = (_, slice_get-get_or cells i (record { taken = false; x = record { n = [] }; y = record { n = [] } }) l)

pub holds_at : (o : OuterBox) (grid : Grid) (k most : ℕ) (cells : List Cell) (col row : ℤ) (c : Cell) → IsCellOf o grid col row → slice_get cells (place_of o grid col row) ≡ Some c → Holds (table_of most (Some (o, grid, k)) cells) col row (numbers_of c)
holds_at o grid k most cells col row c cell got = inl (cell, slice_get-map numbers_of cells (place_of o grid col row) ∙ ap (option_map numbers_of) got)

pub none_past : (o : OuterBox) (grid : Grid) (k most : ℕ) (cells : List Cell) (col row : ℤ) → (IsCellOf o grid col row → ⊥) → Holds (table_of most (Some (o, grid, k)) cells) col row None
none_past o grid k most cells col row out = inr (out, refl)

-- what is held is one
pub holds_one : (t : Table) (col row : ℤ) (a b : Option Numbers) → Holds t col row a → Holds t col row b → a ≡ b
holds_one t col row a b h k = go t.step h k
  where
    go : (step : StepOf) → Holds (record { most = t.most; step = step; cells = t.cells }) col row a → Holds (record { most = t.most; step = step; cells = t.cells }) col row b → a ≡ b
    go None h k = h ∙ sym k
    go (Some (o, grid, n)) (inl (c, p)) (inl (d, q)) = same_Some a b (sym p ∙ q)
    go (Some (o, grid, n)) (inl (c, p)) (inr (out, e)) = absurd (out c)
    go (Some (o, grid, n)) (inr (out, e)) (inl (d, q)) = absurd (out d)
    go (Some (o, grid, n)) (inr (out, e)) (inr (far, f)) = e ∙ sym f

-- ---- a step that begins

none_of : (c : Cell) → c.taken ≡ false → numbers_of c ≡ None
none_of c e = rw e refl

no_cell_taken : (step : StepOf) (slots : BoxSlots) (used : ℕ) (old new : List Cell) (rows : List (Option FrameNumbers)) → IsTable step slots used old rows → IsCleared used old new → (i : ℕ) (c : Cell) → slice_get new i ≡ Some c → c.taken ≡ false
no_cell_taken step slots used old new rows t cleared i c got = elim (below_or_at_least i used) [
  | inl before ↦ cleared.first i c before got
  | inr past ↦ t.unused i c past (sym (cleared.past i past) ∙ got)
]

-- slots of a box are near
pub near_slots : (o : OuterBox) (grid : Grid) (s : BoxSlots) → IsBox o → IsGrid grid → AreSlotsOf o grid s → AreNear s
near_slots o grid s box widths are =
    let cols = slots_are grid.w o.xlo o.xhi widths.w box.x box.xlo box.xhi in
    let rows = slots_are grid.g o.ylo o.yhi widths.g box.y box.ylo box.yhi in
    record {
      first_col = subst (λ (z : ℤ). nat_abs z ≤ 400_000_000) (sym are.first_col) cols.low;
      last_col = subst (λ (z : ℤ). nat_abs z ≤ 400_000_000) (sym are.last_col) cols.high;
      first_row = subst (λ (z : ℤ). nat_abs z ≤ 400_000_000) (sym are.first_row) rows.low;
      last_row = subst (λ (z : ℤ). nat_abs z ≤ 400_000_000) (sym are.last_row) rows.high;
      rows = subst (λ (n : ℕ). n ≤ 1_000_000_000) (sym are.rows) (subst (λ (n : ℕ). n ≤ 1_000_000_000) (count_is (slot grid.g o.yhi) (slot grid.g o.ylo) rows.order) (few (slot grid.g o.yhi) (slot grid.g o.ylo) rows.low rows.high));
    }
  where
    few : (p q : ℤ) → nat_abs q ≤ 400_000_000 → nat_abs p ≤ 400_000_000 → nat_abs (p -ℤ q +ℤ pos 1) ≤ 1_000_000_000
    few p q h k = omega (arith, ints, h, k)

pub begun_table : (step : StepOf) (before slots : BoxSlots) (unused used : ℕ) (old new : List Cell) (rows : List (Option FrameNumbers)) (o : OuterBox) (grid : Grid) (k : ℕ) → IsTable step before unused old rows → IsCleared unused old new
    → IsBox o → IsGrid grid → AreTicks k → AreSlotsOf o grid slots → used ≡ cells_of grid.w grid.g (rect_of_box o) → cells_of grid.w grid.g (rect_of_box o) ≤ length old → IsTable (Some (o, grid, k)) slots used new rows
begun_table step before slots unused used old new rows o grid k t cleared box widths ticks are used_is room = record {
  few = let e = cleared.count in omega (arith, used_is, room, e);
  unused = λ i c l got. no_cell_taken step before unused old new rows t cleared i c got;
  as_many = t.as_many ∙ sym cleared.count;
  near = near_slots o grid slots box widths are;
  before = λ e. absurd (none-some (o, grid, k) (sym e));
  in_step = λ b h n e. subst (λ (z : OuterBox × Grid × ℕ). IsStep z.0 z.1 z.2 slots used new) (same_Some (o, grid, k) (b, h, n) e) begun;
}
  where
    begun : IsStep o grid k slots used new
    begun = record {
      box = box;
      widths = widths;
      ticks = ticks;
      slots_are = are;
      used_is = used_is;
      sound = λ i c got. subst (OfBoth (AreSound k)) (sym (none_of c (no_cell_taken step before unused old new rows t cleared i c got))) tt;
    }

pub begun_empty : (step : StepOf) (before : BoxSlots) (unused most : ℕ) (old new : List Cell) (rows : List (Option FrameNumbers)) (o : OuterBox) (grid : Grid) (k : ℕ) → IsTable step before unused old rows → IsCleared unused old new
    → cells_of grid.w grid.g (rect_of_box o) ≤ length old → (col row : ℤ) → Holds (table_of most (Some (o, grid, k)) new) col row None
begun_empty step before unused most old new rows o grid k t cleared room col row = elim (cell_side o grid col row) [
  | inr out ↦ none_past o grid k most new col row (not_of o grid col row out)
  | inl cell ↦ let (c, got) = cell_at new (place_of o grid col row) (let l = place_below o grid col row cell in let e = cleared.count in omega (arith, l, room, e)) in
      subst (Holds (table_of most (Some (o, grid, k)) new) col row) (none_of c (no_cell_taken step before unused old new rows t cleared (place_of o grid col row) c got)) (holds_at o grid k most new col row c cell got)
]
