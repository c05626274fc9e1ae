-- From one step to the next.
use Rattle.std.proofs.Common.{◌≡◌, ℕ, ◌+◌, ◌<◌, ◌≤◌, arith, sym, subst, List, []}
use lib.IntN.{ℤ, pos, ◌+ℤ◌}
use lib.Signed.{◌≤ℤ◌}
use Rattle.spot_terms.specs.BaseSets.{Rect, SetValue}
use Rattle.spot_terms.specs.Courses.{Course, box_at}
use Rattle.spot_terms.specs.Frames.{at}
use Rattle.spot_terms.specs.Grid.{slot}
use Rattle.spot_terms.specs.StepLists.{IsNextList, IsStepList}
use Rattle.spot_terms.specs.declared.plain.Pt.{Pt}
use Rattle.base_sets.specs.declared.grid.OuterBox.{OuterBox}
use Rattle.merge_sets.specs.Tables.{Table}
use Rattle.area_laws.specs.CellSets.{AreSetsBefore}
use Rattle.area_laws.specs.Filling.{IsFilledFrom}
use Rattle.area_laws.specs.Laws.{GoesFromCellToCell}
use Rattle.area_laws.specs.Leading.{LeadsOn}
use Rattle.area_laws.proofs.Holding.{next_step}
use Rattle.area_laws.proofs.NextLists.{goes_from_cell_to_cell}
use Rattle.area_laws.proofs.Reaching.{next_in_box, step_set}
use Rattle.area_run.specs.Plans.{course_of}
use Rattle.spot_terms.specs.RowBoxes.{row_boxes}
use Rattle.area_run.specs.Running.{AreRooms, CanRun, StandsAt}
use Rattle.area_run.specs.Stages.{Advances, HasSetsBefore, IsStage}
use Rattle.area_run.specs.declared.plan.Plan.{Plan}
use Rattle.spot_terms.proofs.Orders.{next_is}
use Rattle.spot_terms.proofs.Slots.{some_width}

-- ---- the list of a step from what its cells gave

module _ (plan : Plan) (step : ℕ) (count : ℕ) (Hits : ℕ → Pt → Type 0) (range : ℕ → ℤ × ℤ) (b : OuterBox) (free : List (ℤ × ℤ)) (ends : List (ℕ × ℕ)) (stage : IsStage plan step count Hits range b free ends)
    (t : Table) (before : List SetValue) (filled : IsFilledFrom (course_of plan) step before t) where
  goes : GoesFromCellToCell (course_of plan) step before count Hits t
  goes = goes_from_cell_to_cell (course_of plan) step before count Hits t (some_width plan.grid.w stage.plan_is.grid.w) (some_width plan.grid.g stage.plan_is.grid.g) filled

  first_before : (old : List SetValue) → old ≡ [] → AreSetsBefore (course_of plan) step before count Hits (slot plan.grid.w b.xlo) (slot plan.grid.g b.ylo) old
  first_before old e = subst (λ (r : Rect). AreSetsBefore (course_of plan) step before count Hits (slot plan.grid.w r.xlo) (slot plan.grid.g r.ylo) old) (sym stage.exact)
      (subst (λ (z : List SetValue). AreSetsBefore (course_of plan) step before count Hits (slot plan.grid.w (box_at (course_of plan) step).xlo) (slot plan.grid.g (box_at (course_of plan) step).ylo) z) (sym e) goes.none)

  pub begun : (old : List SetValue) → old ≡ [] → HasSetsBefore plan step count Hits range t (slot plan.grid.w b.xlo) (slot plan.grid.g b.ylo) old
  begun old e = (before, filled, first_before old e)

  pub record IsMade (new : List SetValue) : Type 0 where
    pub list : IsNextList (course_of plan) step before count Hits new
    pub leads : LeadsOn (course_of plan) count Hits step before new

  pub made : (old new : List SetValue) → old ≡ []
      → Advances plan step count Hits range t (slot plan.grid.w b.xlo) (slot plan.grid.g b.ylo) old (slot plan.grid.w b.xhi +ℤ pos 1) (slot plan.grid.g b.ylo) new → IsMade new
  made old new e adv =
      let all : AreSetsBefore (course_of plan) step before count Hits (slot plan.grid.w (box_at (course_of plan) step).xhi +ℤ pos 1) (slot plan.grid.g (box_at (course_of plan) step).ylo) new =
      subst (λ (r : Rect). AreSetsBefore (course_of plan) step before count Hits (slot plan.grid.w r.xhi +ℤ pos 1) (slot plan.grid.g r.ylo) new) stage.exact (adv before filled (first_before old e)) in
      record { list = goes.list new all; leads = goes.leads new all }

-- ---- where the run stands next

module _ (plan : Plan) (last far : ℕ) (count : ℕ → ℕ) (Hits : ℕ → ℕ → Pt → Type 0) (range : ℕ → ℕ → ℤ × ℤ)
    (upright : (i p : ℕ) (x y0 y y1 : ℤ) → y0 ≤ℤ y → y ≤ℤ y1 → Hits i p (at x y0) → Hits i p (at x y1) → Hits i p (at x y)) where
  pub stands_next : (steps i : ℕ) (b : OuterBox) (free : List (ℤ × ℤ)) (ends : List (ℕ × ℕ)) (before after : List SetValue) → i < steps → IsStage plan (i + 1) (count (i + 1)) (Hits (i + 1)) (range (i + 1)) b free ends
      → StandsAt plan last far count Hits range steps i before → IsNextList (course_of plan) (i + 1) before (count (i + 1)) (Hits (i + 1)) after
      → LeadsOn (course_of plan) (count (i + 1)) (Hits (i + 1)) (i + 1) before after → StandsAt plan last far count Hits range steps (i + 1) after
  stands_next steps i b free ends before after l stage h next leads = record {
    within = omega (arith, l);
    is_list = subst (λ (j : ℕ). IsNextList (course_of plan) j before (count j) (Hits j) after → IsStepList (course_of plan) count Hits j after) (next_is i) (λ n. (before, h.is_list, n)) next;
    holds = next_step (course_of plan) (i + 1) count Hits Hits (some_width plan.grid.g stage.plan_is.grid.g) (λ j p x y0 y y1 m below a c k n. upright j p x y0 y y1 a c k n) i before after (omega arith)
        h.holds leads;
    ready = λ set j. step_set (course_of plan) (i + 1) b set stage.exact stage.near stage.plan_is.bounds.v (next_in_box (course_of plan) (i + 1) before (count (i + 1)) (Hits (i + 1)) after stage.plan_is.ticks.0 next set j);
  }

-- ---- the state of the code

-- what is said over pieces, a plan and a step is said over equal ones
pub over_state : {X : Type 0} (P : X → Plan → ℕ → Type 0) (o n : X) (p q : Plan) (i j : ℕ) → n ≡ o → q ≡ p → j ≡ i → P o p i → P n q j
over_state P o n p q i j e f k h = subst (λ x. P x q j) (sym e) (subst (λ (z : Plan). P o z j) (sym f) (subst (λ (z : ℕ). P o p z) (sym k) h))

-- the two lists change their places; all other rooms are as large as before
pub rooms_after : (course : Course) (count boxes i cells heads taken runs rows free sets next strip new_cells new_heads new_taken new_runs new_rows new_free new_sets new_next new_strip : ℕ) → AreRooms course count boxes i cells heads taken runs rows free sets next strip
    → new_cells ≡ cells → new_heads ≡ heads → new_taken ≡ taken → new_runs ≡ runs → rows ≤ new_rows → free ≤ new_free → new_sets ≡ next → new_next ≡ sets → new_strip ≡ strip → AreRooms course count boxes i new_cells new_heads new_taken new_runs new_rows new_free new_sets new_next new_strip
rooms_after course count boxes i cells heads taken runs rows free sets next strip a m n b c d e f g r p y z q u v w x s = record {
  cells_fit = let k = r.cells_fit in omega (arith, k, p);
  heads_fit = let k = r.heads_fit in omega (arith, k, y);
  taken_fit = let k = r.taken_fit in omega (arith, k, z);
  runs_fit = let k = r.runs_fit in omega (arith, k, q);
  rows_fit = let k = r.rows_fit in omega (arith, k, u);
  free_fit = let k = r.free_fit in omega (arith, k, v);
  sets_fit = let k = r.next_fit in omega (arith, k, w);
  next_fit = let k = r.sets_fit in omega (arith, k, x);
  strip_fit = let k = r.strip_fit in omega (arith, k, s);
}

module _ (plan : Plan) (last far : ℕ) (count : ℕ → ℕ) (Hits : ℕ → ℕ → Pt → Type 0) (range : ℕ → ℕ → ℤ × ℤ) where
  pub can_after : (steps cells heads taken runs rows free sets next strip new_cells new_heads new_taken new_runs new_rows new_free new_sets new_next new_strip : ℕ) → CanRun plan last far count Hits range steps cells heads taken runs rows free sets next strip
      → new_cells ≡ cells → new_heads ≡ heads → new_taken ≡ taken → new_runs ≡ runs → rows ≤ new_rows → free ≤ new_free → new_sets ≡ next → new_next ≡ sets → new_strip ≡ strip → CanRun plan last far count Hits range steps new_cells new_heads new_taken new_runs new_rows new_free new_sets new_next new_strip
  can_after steps cells heads taken runs rows free sets next strip a m n b c d e f g h p y z q u v w x s = record {
    plan_is = h.plan_is;
    few = h.few;
    asked = h.asked;
    reach = h.reach;
    rooms = λ i l. rooms_after (course_of plan) (count i) (row_boxes (course_of plan) count range i) i cells heads taken runs rows free sets next strip a m n b c d e f g (h.rooms i l) p y z q u v w x s;
  }
