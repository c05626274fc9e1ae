-- A table after a pair of polygons or known numbers came in.
use Rattle.std.proofs.Common.{◌≡◌, ◌∙◌, ◌⊎◌, ℕ, zero, suc, ◌+◌, ◌-◌, ◌*◌, ◌≤◌, ◌<◌, arith, ap, sym, refl, subst, List, length, inl, inr, false}
use Rattle.std.specs.Prelude.{nat_abs, Option, Some, None, slice_get}
use Rattle.std.proofs.lemmas.Int.{ints}
use Rattle.std.proofs.lemmas.Option.{none-some, same_Some, slice_get_within, slice_get-get_or}
use lib.IntN.{ℤ, pos, ◌+ℤ◌, ◌-ℤ◌}
use lib.Signed.{◌≤ℤ◌, ◌<ℤ◌}
use Rattle.spot_terms.specs.CellNumbers.{Numbers, IsJoined}
use Rattle.spot_terms.specs.Courses.{cells_of}
use Rattle.spot_terms.specs.Grid.{slot}
use Rattle.spot_terms.specs.Hull.{IsCornerList}
use Rattle.spot_terms.specs.Motions.{State}
use Rattle.spot_terms.specs.declared.plain.Pt.{Pt}
use Rattle.round_out.specs.declared.frames.FrameNumbers.{FrameNumbers}
use Rattle.spot_terms.proofs.Places.{compare3}
use Rattle.base_sets.specs.declared.grid.Grid.{Grid}
use Rattle.base_sets.specs.declared.grid.OuterBox.{OuterBox}
use Rattle.base_sets.specs.Values.{rect_of_box}
use Rattle.merge_sets.specs.Adding.{AddsTo}
use Rattle.merge_sets.specs.Cells.{AreSound, IsStep, IsTable, JoinsColumn, OfBoth, joined_with, numbers_of}
use Rattle.merge_sets.specs.Tables.{Adds, CanAdd, CanJoin, Holds, HoldsInCell, IsAddable, IsCellOf, JoinsRows, PartsHold, place_of}
use Rattle.merge_sets.specs.declared.cells.Cell.{Cell}
use Rattle.merge_sets.specs.declared.places.BoxSlots.{BoxSlots}
use Rattle.merge_sets.proofs.BoxCells.{one_place, place_below, place_past}
use Rattle.merge_sets.proofs.Joins.{both_joined}
use Rattle.merge_sets.proofs.Parts.{leave_states}
use Rattle.merge_sets.proofs.PartSlots.{none_outside}
use Rattle.merge_sets.proofs.Steps.{StepOf, cell_at, cell_side, holds_at, holds_one, none_past, not_of, table_of}
use Rattle.spot_terms.proofs.Slots.{some_width}

-- ---- a pair came in

module _ (o : OuterBox) (grid : Grid) (k : ℕ) (slots : BoxSlots) (used : ℕ) (old new : List Cell) (rows spent : List (Option FrameNumbers))
    (t : IsTable (Some (o, grid, k)) slots used old rows) (x y : List Pt) where
  step : IsStep o grid k slots used old
  step = t.in_step o grid k refl

  pub added_table : AddsTo o grid k x y old new → length spent ≡ length rows → IsTable (Some (o, grid, k)) slots used new spent
  added_table added same = record {
    few = let e = added.count in let f = t.few in omega (arith, e, f);
    unused = λ p c h got. t.unused p c h (sym (added.past p (subst (λ (n : ℕ). n ≤ p) step.used_is h)) ∙ got);
    as_many = same ∙ t.as_many ∙ sym added.count;
    near = t.near;
    before = t.before;
    in_step = λ b h n e. subst (λ (z : OuterBox × Grid × ℕ). IsStep z.0 z.1 z.2 slots used new) (same_Some (o, grid, k) (b, h, n) e) (record {
      box = step.box;
      widths = step.widths;
      ticks = step.ticks;
      slots_are = step.slots_are;
      used_is = step.used_is;
      sound = added.sound;
    });
  }

  module _ (added : AddsTo o grid k x y old new) (may_x : IsAddable o.xlo o.xhi x) (may_y : IsAddable o.ylo o.yhi y) where
    -- a cell outside of the box: the pair has no part there
    outside : (col row : ℤ) (a b : Option Numbers) → (((col <ℤ slot grid.w o.xlo) ⊎ (slot grid.w o.xhi <ℤ col)) ⊎ ((row <ℤ slot grid.g o.ylo) ⊎ (slot grid.g o.yhi <ℤ row))) → b ≡ a → IsJoined grid.w grid.g k col row x y a b
    outside col row a b (inl out) e = inr (inl (none_outside x grid.w o.xlo o.xhi col (some_width grid.w step.widths.w) added.convex_x may_x.within out), e)
    outside col row a b (inr out) e = inr (inr (none_outside y grid.g o.ylo o.yhi row (some_width grid.g step.widths.g) added.convex_y may_y.within out), e)

    inside : (col row : ℤ) → IsCellOf o grid col row → (c : Cell) × (d : Cell) × (slice_get old (place_of o grid col row) ≡ Some c) × (slice_get new (place_of o grid col row) ≡ Some d) × IsJoined grid.w grid.g k col row x y (numbers_of c) (numbers_of d)
    inside col row cell =
        let (c, got) = cell_at old (place_of o grid col row) (let l = place_below o grid col row cell in let e = step.used_is in let f = t.few in omega (arith, l, e, f)) in
        let (d, found, joined) = added.inside col row c cell got in
        (c, d, got, found, joined)

    cells : (most : ℕ) (col row : ℤ) (after : Option Numbers) → Holds (table_of most (Some (o, grid, k)) new) col row after
        → (before : Option Numbers) × Holds (table_of most (Some (o, grid, k)) old) col row before × IsJoined grid.w grid.g k col row x y before after
    cells most col row after h = elim (cell_side o grid col row) [
      | inr out ↦ (
        None,
        none_past o grid k most old col row (not_of o grid col row out),
        outside col row None after out (holds_one (table_of most (Some (o, grid, k)) new) col row after None h (none_past o grid k most new col row (not_of o grid col row out))),
      )
      | inl cell ↦ let (c, d, got, found, joined) = inside col row cell in (
        numbers_of c,
        holds_at o grid k most old col row c cell got,
        subst (IsJoined grid.w grid.g k col row x y (numbers_of c)) (holds_one (table_of most (Some (o, grid, k)) new) col row (numbers_of d) after (holds_at o grid k most new col row d cell found) h) joined,
      )
    ]

    leave : (col row : ℤ) (s : State) → HoldsInCell grid.w grid.g col row x y s → PartsHold grid.w grid.g k col row x y s
    leave col row s h = elim (cell_side o grid col row) [
      | inr out ↦ leave_states grid.w grid.g k col row x y None None s added.convex_x added.convex_y (outside col row None None out refl) h
      | inl cell ↦ let (c, d, got, found, joined) = inside col row cell in leave_states grid.w grid.g k col row x y (numbers_of c) (numbers_of d) s added.convex_x added.convex_y joined h
    ]

    pub adds : (most n : ℕ) → n ≡ most → Adds (table_of most (Some (o, grid, k)) old) (table_of n (Some (o, grid, k)) new) x y
    adds most n e = subst (λ (z : ℕ). Adds (table_of most (Some (o, grid, k)) old) (table_of z (Some (o, grid, k)) new) x y) (sym e) (record {
      most = refl;
      step = refl;
      cells = λ b h m col row after f held. let same : (o, grid, k) ≡ (b, h, m) = same_Some (o, grid, k) (b, h, m) f in
          subst (λ (z : OuterBox × Grid × ℕ). (before : Option Numbers) × Holds (table_of most (Some (o, grid, k)) old) col row before × IsJoined z.1.w z.1.g z.2 col row x y before after) same (cells most col row after held);
      leave = λ b h m col row s f held. let same : (o, grid, k) ≡ (b, h, m) = same_Some (o, grid, k) (b, h, m) f in
          subst (λ (z : OuterBox × Grid × ℕ). HoldsInCell z.1.w z.1.g col row x y s → PartsHold z.1.w z.1.g z.2 col row x y s) same (leave col row s) held;
    })

-- ---- what a call asked for

-- both polygons lie in the box of the step
pub can_add : (step : StepOf) (most : ℕ) (cells : List (Option Numbers)) (x y : List Pt) (o : OuterBox) (grid : Grid) (k : ℕ) → step ≡ Some (o, grid, k) → CanAdd (record { most = most; step = step; cells = cells }) x y
    → IsAddable o.xlo o.xhi x × IsAddable o.ylo o.yhi y
can_add step most cells x y o grid k is (b, h, n, e, may_x, may_y) =
    let same : (b, h, n) ≡ (o, grid, k) = same_Some (b, h, n) (o, grid, k) (sym e ∙ is) in
    (subst (λ (z : OuterBox × Grid × ℕ). IsAddable z.0.xlo z.0.xhi x) same may_x, subst (λ (z : OuterBox × Grid × ℕ). IsAddable z.0.ylo z.0.yhi y) same may_y)
