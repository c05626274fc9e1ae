-- The greatest of a number of steps, step by step.
use Rattle.std.proofs.Common.{◌≡◌, ◌∙◌, ◌⊎◌, inl, inr, sym, subst, arith, ℕ, ◌+◌, ◌<◌, ◌≤◌, max}
use Rattle.std.proofs.Math.Nat.{le-max_left, le-max_right}
use lib.IntN.{ℤ}
use Rattle.spot_terms.specs.Courses.{Course, cells_at}
use Rattle.spot_terms.specs.RowBoxes.{row_boxes}
use Rattle.area_run.specs.Greatest.{IsGreatestBelow, IsRoomBelow, IsRoomOf, row_runs_at, rows_at}
use Rattle.area_run.specs.declared.rooms.Rooms.{Rooms}
use Rattle.spot_terms.proofs.Orders.{natural_trans, below_or_here}

first_alone : (f : ℕ → ℕ) (m : ℕ) → m ≡ f 0 → IsGreatestBelow 1 f m
first_alone f m e = record {
  bound = λ i h. subst (λ (j : ℕ). f j ≤ m) (zero_only i h) (omega (arith, e));
  reached = (0, omega arith, sym e);
}
  where
    zero_only : (i : ℕ) → i < 1 → 0 ≡ i
    zero_only i h = omega (arith, h)

one_more : (f : ℕ → ℕ) (n m here new : ℕ) → IsGreatestBelow n f m → here ≡ f n → new ≡ max m here → IsGreatestBelow (n + 1) f new
one_more f n m here new g e is = record {
  bound = λ i h. elim (below_or_here i n h) [
    | inl less ↦ natural_trans (f i) m new (g.bound i less) left
    | inr same ↦ subst (λ (j : ℕ). f j ≤ new) (sym same) (omega (arith, e, right))
  ];
  reached = elim (either m here) [
    | inl first ↦ (g.reached.0, further g.reached.0 g.reached.1, g.reached.2 ∙ sym first ∙ sym is)
    | inr second ↦ (n, omega arith, sym e ∙ sym second ∙ sym is)
  ];
}
  where
    left : m ≤ new
    left = subst (λ (z : ℕ). m ≤ z) (sym is) (le-max_left m here)

    right : here ≤ new
    right = subst (λ (z : ℕ). here ≤ z) (sym is) (le-max_right m here)

    further : (i : ℕ) → i < n → i < n + 1
    further i h = omega (arith, h)

    either : (a b : ℕ) → (max a b ≡ a) ⊎ (max a b ≡ b)
    either a b = grind arith

module _ (course : Course) (count : ℕ → ℕ) (range : ℕ → ℕ → ℤ × ℤ) where
  pub room_first : (r : Rooms) → IsRoomOf course count range 0 r → IsRoomBelow course count range 1 r
  room_first r h = record {
    cells = first_alone (cells_at course) r.cells h.cells;
    runs = first_alone (row_runs_at course count) r.runs h.runs;
    rows = first_alone (rows_at course) r.rows h.rows;
    boxes = first_alone (row_boxes course count range) r.boxes h.boxes;
  }

  pub room_next : (n : ℕ) (old here new : Rooms) → IsRoomBelow course count range n old → IsRoomOf course count range n here
      → new.cells ≡ max old.cells here.cells → new.runs ≡ max old.runs here.runs → new.rows ≡ max old.rows here.rows → new.boxes ≡ max old.boxes here.boxes
      → IsRoomBelow course count range (n + 1) new
  room_next n old here new g h c u r b = record {
    cells = one_more (cells_at course) n old.cells here.cells new.cells g.cells h.cells c;
    runs = one_more (row_runs_at course count) n old.runs here.runs new.runs g.runs h.runs u;
    rows = one_more (rows_at course) n old.rows here.rows new.rows g.rows h.rows r;
    boxes = one_more (row_boxes course count range) n old.boxes here.boxes new.boxes g.boxes h.boxes b;
  }
