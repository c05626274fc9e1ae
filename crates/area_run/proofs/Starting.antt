-- Where a run starts.
use Rattle.std.proofs.Common.{◌≡◌, ℕ, ◌+◌, ◌<◌, ◌≤◌, inl, inr, refl, sym, ap, subst, arith, List, [], ◌∷◌, ℤ, pos, ◌≤ℤ◌, ◌<ℤ◌}
use Rattle.std.specs.Prelude.{Bool, IsTrue, nat_abs, ◌↔◌}
use Rattle.std.proofs.lemmas.Int.{ints, by_lt_z}
use Rattle.spot_terms.specs.BaseSets.{Rect, SetValue}
use Rattle.spot_terms.specs.Courses.{box_at, cells_of, slots_met}
use Rattle.spot_terms.specs.Frames.{at}
use Rattle.spot_terms.specs.Grid.{slot, slot_high, slot_low}
use Rattle.spot_terms.specs.Hull.{IsHullOf}
use Rattle.spot_terms.specs.RowBoxes.{row_boxes}
use Rattle.spot_terms.specs.StepLists.{IsFirstList, segment}
use Rattle.spot_terms.specs.Whole.{Within}
use Rattle.spot_terms.specs.declared.plain.Pt.{Pt}
use Rattle.spot_terms.proofs.OneHull.{one_hull}
use Rattle.spot_terms.proofs.Orders.{reflexive, antisymmetric, below_true, at_least_false}
use Rattle.convex_poly.specs.Runs.{IsSpanOf}
use Rattle.convex_poly.proofs.Ends.{one_corner, two_corners}
use Rattle.base_sets.specs.Values.{AreBoxPlaces, IsBox, rect_of_box}
use Rattle.base_sets.specs.declared.grid.OuterBox.{OuterBox}
use Rattle.base_sets.proofs.Slots.{count_is}
use Rattle.area_laws.proofs.Arguments.{IsSlotNear, slot_near}
use Rattle.area_laws.proofs.Holding.{first_step}
use Rattle.area_laws.proofs.Reaching.{first_in_box, step_set}
use Rattle.area_run.specs.Greatest.{IsRoomBelow}
use Rattle.area_run.specs.Plans.{IsPlan, course_of}
use Rattle.area_run.specs.Running.{CanRun, StandsAt}
use Rattle.area_run.specs.declared.plan.Plan.{Plan}
use Rattle.area_run.specs.declared.rooms.Rooms.{Rooms}
use Rattle.spot_terms.proofs.Mixes.{positive_times}
use Rattle.spot_terms.proofs.Slots.{slots_rise, some_width}

-- ---- the set of the start

-- the hull of a place with two speeds is its segment
pub segment_is : (p lo hi : ℤ) (corners : List Pt) → lo ≤ℤ hi → IsHullOf (at p lo ∷ at p hi ∷ []) corners → corners ≡ segment p lo hi
segment_is p lo hi corners order h = by_lt_z lo hi
    (λ less. rw (below_true lo hi less) (one_hull (at p lo ∷ at p hi ∷ []) corners (at p lo ∷ at p hi ∷ []) h (two_corners (at p lo) (at p hi) (inr (refl, less)) (at p lo) (at p hi) (inl refl) (inr refl) (inl refl) (inr refl))))
    (λ not. rw (at_least_false lo hi not) (one_hull (at p lo ∷ at p hi ∷ []) corners (at p lo ∷ []) h (one_corner (at p lo) (at p hi) (ap (at p) (antisymmetric hi lo not order)))))

-- ---- its row

pub start_row_near : (g y : ℤ) → Within (pos 100_000) (pos 100_000_000) g → nat_abs y ≤ 20_000_000_000_000 → IsSlotNear g (slot g y)
start_row_near g y high h = slot_near g y y (slot g y) high (omega (arith, h)) (omega (arith, h)) (record { low = reflexive (slot g y); high = reflexive (slot g y) })

pub row_order : (g row : ℤ) → Within (pos 100_000) (pos 100_000_000) g → slot_low g row ≤ℤ slot_high g row
row_order g row high = let k = high.low in omega (arith, ints, k)

-- what the code asks of the row: its height and number are those of the start's
pub row_asked : (g y h r : ℤ) → Within (pos 100_000) (pos 100_000_000) g → nat_abs y ≤ 20_000_000_000_000 → h ≡ g → r ≡ slot g y → nat_abs (slot_low h r) ≤ 40_000_000_000_000
row_asked g y h r high small e f = let near = start_row_near g y high small in rw (e, f) (omega (arith, near.low))

pub low_near : (g y z : ℤ) → Within (pos 100_000) (pos 100_000_000) g → nat_abs y ≤ 20_000_000_000_000 → z ≡ slot_low g (slot g y) → nat_abs z ≤ 22_000_000_000_000
low_near g y z high small e = let near = start_row_near g y high small in rw e near.low

pub high_near : (g y z : ℤ) → Within (pos 100_000) (pos 100_000_000) g → nat_abs y ≤ 20_000_000_000_000 → z ≡ slot_high g (slot g y) → nat_abs z ≤ 22_000_000_000_000
high_near g y z high small e = let near = start_row_near g y high small in rw e near.high

-- ---- is it removed?

pub across : (P : ℤ → Type 0) (span : ℤ × ℤ) (x : ℤ) (b : Bool) → IsSpanOf P span → (IsTrue b ↔ Within span.0 span.1 x) → IsTrue b ↔ P x
across P span x b s w = (λ t. (s.exact x).1 (w.0 t), λ p. w.1 ((s.exact x).0 p))

-- both ends of a row
pub both_ends : (Hit : Pt → Type 0) (x low high a b c : ℤ) → a ≡ x → b ≡ low → c ≡ high → Hit (at a b) × Hit (at a c) → Hit (at x low) × Hit (at x high)
both_ends Hit x low high a b c e f g h = (rw (sym e, sym f) h.0, rw (sym e, sym g) h.1)

-- ---- there is a cell

some_slots : (w a b : ℤ) → pos 0 <ℤ w → a ≤ℤ b → 0 < slots_met w a b
some_slots w a b wide h = let o = slots_rise w a b wide h in subst (λ (n : ℕ). 0 < n) (count_is (slot w b) (slot w a) o) (omega (arith, ints, o))

pub some_boxes : (plan : Plan) (b : OuterBox) (i most : ℕ) (count : ℕ → ℕ) (range : ℕ → ℕ → ℤ × ℤ) → IsPlan plan → rect_of_box b ≡ box_at (course_of plan) i → IsBox b
    → row_boxes (course_of plan) count range i ≤ most → 0 < most
some_boxes plan b i most count range h e reach fits =
    let cells : 0 < cells_of plan.grid.w plan.grid.g (rect_of_box b) = positive_times (slots_met plan.grid.w b.xlo b.xhi) (slots_met plan.grid.g b.ylo b.yhi)
    (some_slots plan.grid.w b.xlo b.xhi (some_width plan.grid.w h.grid.w) reach.x) (some_slots plan.grid.g b.ylo b.yhi (some_width plan.grid.g h.grid.g) reach.y) in
    let there : 0 < cells_of plan.grid.w plan.grid.g (box_at (course_of plan) i) = subst (λ (r : Rect). 0 < cells_of plan.grid.w plan.grid.g r) e cells in
    through (cells_of plan.grid.w plan.grid.g (box_at (course_of plan) i)) _ most there fits
  where
    through : (a b c : ℕ) → 0 < a → a + b ≤ c → 0 < c
    through a b c h k = omega (arith, h, k)

-- ---- the run

module _ (plan : Plan) (last far : ℕ) (count : ℕ → ℕ) (Hits : ℕ → ℕ → Pt → Type 0) (range : ℕ → ℕ → ℤ × ℤ) where
  pub can_start : (steps cells heads taken runs rows free sets next strip : ℕ) (r : Rooms) → IsPlan plan → steps ≤ 100 → steps ≤ last → 35_000_000_000_000 ≤ far
      → IsRoomBelow (course_of plan) count range (steps + 1) r → cells ≡ r.cells → heads ≡ r.rows → taken ≡ r.boxes → runs ≡ r.runs → r.rows ≤ rows → r.boxes ≤ free → sets ≡ r.boxes → next ≡ r.boxes → strip ≡ r.rows
      → CanRun plan last far count Hits range steps cells heads taken runs rows free sets next strip
  can_start steps cells heads taken runs rows free sets next strip r is few asked reach g c p q u v w x y z = record {
    plan_is = is;
    few = few;
    asked = asked;
    reach = reach;
    rooms = λ i l. record {
      cells_fit = (let k = g.cells.bound i (below i steps l) in omega (arith, k, c));
      heads_fit = (let k = g.rows.bound i (below i steps l) in omega (arith, k, p));
      taken_fit = (let k = g.boxes.bound i (below i steps l) in omega (arith, k, q));
      runs_fit = (let k = g.runs.bound i (below i steps l) in omega (arith, k, u));
      rows_fit = (let k = g.rows.bound i (below i steps l) in omega (arith, k, v));
      free_fit = (let k = g.boxes.bound i (below i steps l) in omega (arith, k, w));
      sets_fit = (let k = g.boxes.bound i (below i steps l) in omega (arith, k, x));
      next_fit = (let k = g.boxes.bound i (below i steps l) in omega (arith, k, y));
      strip_fit = (let k = g.rows.bound i (below i steps l) in omega (arith, k, z));
    };
  }
    where
      below : (i n : ℕ) → i ≤ n → i < n + 1
      below i n h = omega (arith, h)

  pub stands_first : (upright : (i p : ℕ) (x y0 y y1 : ℤ) → y0 ≤ℤ y → y ≤ℤ y1 → Hits i p (at x y0) → Hits i p (at x y1) → Hits i p (at x y)) (steps : ℕ) (b : OuterBox) (sets : List SetValue)
      → IsPlan plan → rect_of_box b ≡ box_at (course_of plan) 0 → AreBoxPlaces 21_000_000_000_000 b → IsFirstList (course_of plan) count Hits sets → StandsAt plan last far count Hits range steps 0 sets
  stands_first upright steps b sets is e near first = record {
    within = omega arith;
    is_list = first;
    holds = first_step (course_of plan) 0 count Hits Hits (some_width plan.grid.g is.grid.g) (λ j p x y0 y y1 m below a c k n. upright j p x y0 y y1 a c k n) sets first;
    ready = λ set j. step_set (course_of plan) 0 b set e near is.bounds.v (first_in_box (course_of plan) 900_000 is.start.box is.fits is.bounds.v.low count Hits sets first set j);
  }
