-- What the table asks where a strip comes into a column, and what it has then.
use Rattle.std.proofs.Common.{◌≡◌, ◌∙◌, ℕ, ◌+◌, ◌-◌, ◌<◌, ◌≤◌, arith, refl, sym, ap, subst, List, length, take, drop, Option, Some, to_z, of_z, w64, FitsSigned}
use Rattle.std.specs.Prelude.{nat_abs}
use Rattle.std.proofs.lemmas.Int.{ints}
use lib.IntN.{ℤ, pos, ◌+ℤ◌, ◌-ℤ◌}
use lib.Signed.{◌≤ℤ◌}
use Rattle.spot_terms.specs.BaseSets.{greatest_place, least_place}
use Rattle.spot_terms.specs.Courses.{slots_met}
use Rattle.spot_terms.specs.Grid.{slot}
use Rattle.spot_terms.specs.Hull.{IsCornerList}
use Rattle.spot_terms.specs.Whole.{Within}
use Rattle.spot_terms.specs.declared.plain.Pt.{Pt}
use Rattle.round_out.specs.declared.frames.FrameNumbers.{FrameNumbers}
use Rattle.base_sets.specs.Values.{IsBox}
use Rattle.base_sets.specs.declared.grid.OuterBox.{OuterBox}
use Rattle.base_sets.proofs.Slots.{AreSlots, slots_are}
use Rattle.carve.proofs.RowPlaces.{columns_counted}
use Rattle.propagate.specs.Children.{IsChildIn}
use Rattle.merge_sets.specs.Cells.{AreSound, IsNear}
use Rattle.merge_sets.specs.Tables.{CanJoin, Table}
use Rattle.spot_terms.proofs.Slots.{slots_rise, some_width}
use Rattle.merge_sets.proofs.BoxCells.{counted_slots}
use Rattle.area_run.specs.Plans.{IsPlan}
use Rattle.area_run.specs.Strips.{FitsBox, first_row, row_count}
use Rattle.area_run.specs.declared.plan.Plan.{Plan}
use Rattle.area_run.proofs.JoinCalls.{read, small_read, width_read}
use Rattle.area_run.proofs.SlotCalls.{addable, among, count_few, first_small, near_slot}
use Rattle.carve.proofs.RowNumbers.{number_back}
use Rattle.area_run.proofs.Strips.{window_length, window_sound}

-- the first row of a strip's stretch, as the code computes it
pub low_is : (plan : Plan) (b : OuterBox) (row : ℤ) (from : ℕ) → IsPlan plan → IsBox b → row ≡ slot plan.grid.g b.ylo → from ≤ row_count plan b → read (read row +ℤ to_z w64 from) ≡ first_row plan b +ℤ pos from
low_is plan b row from is reach row_is h =
    number_back row from (subst (λ (z : ℤ). nat_abs z ≤ 400_000_000) (sym row_is) sizes.low) (few (row_count plan b) from (slot plan.grid.g b.yhi) (slot plan.grid.g b.ylo) (columns_counted (slot plan.grid.g b.ylo) (slot plan.grid.g b.yhi) sizes.order) sizes.low sizes.high h)
    ∙ ap (λ (z : ℤ). z +ℤ pos from) row_is
  where
    sizes : AreSlots (slot plan.grid.g b.yhi) (slot plan.grid.g b.ylo)
    sizes = slots_are plan.grid.g b.ylo b.yhi is.grid.g reach.y reach.ylo reach.yhi

    few : (n m : ℕ) (p q : ℤ) → pos n ≡ p -ℤ q +ℤ pos 1 → nat_abs q ≤ 400_000_000 → nat_abs p ≤ 400_000_000 → m ≤ n → m ≤ 1_000_000_000
    few n m p q e h k l = omega (arith, ints, e, h, k, l)

module _ (plan : Plan) (b : OuterBox) (is : IsPlan plan) (reach : IsBox b) (x : List Pt) (child : IsChildIn b.xlo b.xhi plan.e.v x) (convex : IsCornerList x) (first : ℤ) (count : ℕ)
    (first_is : first ≡ slot (read plan.grid.w) (least_place x)) (count_is : count ≡ slots_met (read plan.grid.w) (least_place x) (greatest_place x)) where
  first_plain : first ≡ slot plan.grid.w (least_place x)
  first_plain = first_is ∙ ap (λ (z : ℤ). slot z (least_place x)) (width_read plan.grid.w is.grid.w)

  pub count_plain : count ≡ slots_met plan.grid.w (least_place x) (greatest_place x)
  count_plain = count_is ∙ ap (λ (z : ℤ). slots_met z (least_place x) (greatest_place x)) (width_read plan.grid.w is.grid.w)

  pub below : (i : ℕ) → i < count → i < 4_294_967_296
  below i l =
      let few = count_few plan.grid.w b.xlo b.xhi plan.e.v x is.grid.w reach.xlo reach.xhi reach.x is.bounds.v child convex in
      let m : i < slots_met plan.grid.w (least_place x) (greatest_place x) = subst (λ (n : ℕ). i < n) count_plain l in
      omega (arith, few, m)

  small : nat_abs first ≤ 400_000_000
  small = subst (λ (z : ℤ). nat_abs z ≤ 400_000_000) (sym first_plain) (first_small plan.grid.w b.xlo b.xhi plan.e.v x is.grid.w reach.xlo reach.xhi reach.x is.bounds.v child convex)

  sum_fits : (f z : ℤ) (i : ℕ) → nat_abs f ≤ 400_000_000 → i < 4_294_967_296 → z ≡ pos i → FitsSigned w64 (read f +ℤ read z)
  sum_fits f z i h l e = omega (arith, ints, h, l, e)

  sum_read : (f z : ℤ) (i : ℕ) → nat_abs f ≤ 400_000_000 → i < 4_294_967_296 → z ≡ pos i → read (read f +ℤ read z) ≡ f +ℤ pos i
  sum_read f z i h l e = omega (arith, ints, h, l, e)

  pub col_fits : (z : ℤ) (i : ℕ) → i < 4_294_967_296 → z ≡ pos i → FitsSigned w64 (read first +ℤ read z)
  col_fits z i l e = sum_fits first z i small l e

  pub col_is : (z : ℤ) (i : ℕ) → i < 4_294_967_296 → z ≡ pos i → read (read first +ℤ read z) ≡ slot plan.grid.w (least_place x) +ℤ pos i
  col_is z i l e = sum_read first z i small l e ∙ ap (λ (y : ℤ). y +ℤ pos i) first_plain

  pub col_near : (z : ℤ) (i : ℕ) → i < count → i < 4_294_967_296 → z ≡ pos i → IsNear (read plan.grid.w) (read (read first +ℤ read z))
  col_near z i m l e = subst (λ (y : ℤ). IsNear y (read (read first +ℤ read z))) (sym (width_read plan.grid.w is.grid.w)) (subst (λ (y : ℤ). IsNear plan.grid.w y) (sym (col_is z i l e))
      (near_slot plan.grid.w b.xlo b.xhi plan.e.v x is.grid.w reach.xlo reach.xhi reach.x is.bounds.v child convex i (subst (λ (n : ℕ). i < n) count_plain m)))

  -- the rows of the strip are of the box
  pub can_join : (t : Table) (col low : ℤ) (i : ℕ) (numbers : List ℤ) (rows : List (Option FrameNumbers)) (from to : ℕ) → FitsBox plan b rows from to → t.step ≡ Some (b, plan.grid, plan.k)
      → col ≡ slot plan.grid.w (least_place x) +ℤ pos i → i < count → low ≡ first_row plan b +ℤ pos from → AreSound plan.k numbers → CanJoin t col low numbers (take (to - from) (drop from rows))
  can_join t col low i numbers rows from to fits step col_at m low_at sound = record {
    o = b;
    grid = plan.grid;
    k = plan.k;
    step = step;
    cells = λ j l. (column, row j l);
    sound = sound;
    each = window_sound plan b rows from to fits;
  }
    where
      column : Within (slot plan.grid.w b.xlo) (slot plan.grid.w b.xhi) col
      column = subst (λ (z : ℤ). Within (slot plan.grid.w b.xlo) (slot plan.grid.w b.xhi) z) (sym col_at)
          (among plan.grid.w b.xlo b.xhi plan.e.v x is.grid.w reach.xlo reach.xhi reach.x is.bounds.v child convex i (subst (λ (n : ℕ). i < n) count_plain m))

      place : (j : ℕ) → first_row plan b +ℤ pos (from + j) ≡ low +ℤ pos j
      place j = omega (arith, ints, low_at)

      row : (j : ℕ) → j < length (take (to - from) (drop from rows)) → Within (slot plan.grid.g b.ylo) (slot plan.grid.g b.yhi) (low +ℤ pos j)
      row j l =
          let e = window_length plan b rows from to fits in
          let w = fits.within in
          let some : from + j < row_count plan b = omega (arith, l, e, w) in
          subst (λ (z : ℤ). Within (slot plan.grid.g b.ylo) (slot plan.grid.g b.yhi) z) (place j)
          (counted_slots (slot plan.grid.g b.ylo) (slot plan.grid.g b.yhi) (from + j) (slots_rise plan.grid.g b.ylo b.yhi (some_width plan.grid.g is.grid.g) reach.y) some)
