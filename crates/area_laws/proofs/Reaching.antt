-- Each set of a step's list is of a cell of the outer box, and lies in the box.
use Rattle.std.proofs.Common.{◌≡◌, ◌⊎◌, ◌≤◌, ℕ, inl, inr, refl, sym, subst, arith, List, [], ◌∷◌, Some, ◌*◌, length}
use Rattle.std.specs.List.{AllByRecursion}
use Rattle.std.specs.Prelude.{nat_abs, slice_get, int_lt, Bool, false, true, if◌then◌else◌}
use Rattle.std.proofs.lemmas.Int.{ints, by_lt_z}
use lib.IntN.{ℤ, pos}
use lib.Signed.{◌≤ℤ◌, ◌<ℤ◌}
use Rattle.spot_terms.specs.BaseSets.{SetValue, Rect, InRect}
use Rattle.spot_terms.specs.ClippedTo.{places, IsClippedTo}
use Rattle.spot_terms.specs.Courses.{Course, box_at}
use Rattle.spot_terms.specs.EgoMotions.{FitsBound}
use Rattle.spot_terms.specs.Frames.{at}
use Rattle.spot_terms.specs.Grid.{slot, slot_low, slot_high}
use Rattle.spot_terms.specs.Lists.{Includes}
use Rattle.spot_terms.specs.Motions.{State}
use Rattle.spot_terms.specs.Ranges.{IsBoxWithin}
use Rattle.spot_terms.specs.StepLists.{HasParts, IsMerged, IsCut, IsNextList, IsFirstList, first_set, segment}
use Rattle.spot_terms.specs.Whole.{Within}
use Rattle.spot_terms.specs.declared.plain.Pt.{Pt}
use Rattle.spot_terms.proofs.ListLemmas.{all_included, all_of}
use Rattle.spot_terms.proofs.Members.{in_map}
use Rattle.spot_terms.proofs.OneClip.{clips_not_both}
use Rattle.spot_terms.proofs.Orders.{reflexive}
use Rattle.spot_terms.proofs.StepLists.{segment_all}
use Rattle.base_sets.specs.Values.{AreBoxPlaces, rect_of_box}
use Rattle.base_sets.specs.declared.grid.OuterBox.{OuterBox}
use Rattle.propagate.specs.Children.{IsInPlane, IsStepPoint}
use Rattle.merge_sets.proofs.PartSlots.{none_outside}
use Rattle.area_laws.specs.CellSets.{Cut}
use Rattle.area_laws.specs.Reaching.{IsSetInBox, AreSetsInBox, IsStepSet, IsCellIn, HasFewCorners}
use Rattle.base_sets.proofs.Boxes.{stays_in_box}
use Rattle.area_laws.proofs.Corners.{IsSmallPlane, part_few}
use Rattle.area_laws.proofs.Frames.{frame_few, frame_inside}
use Rattle.area_laws.proofs.Parts.{some_part}
use Rattle.area_laws.proofs.Sides.{AreInside, child_inside, part_inside, inside_places, in_bound}

-- both planes of the outer box of step i are those of positions
pub record IsSmallBox (course : Course) (i : ℕ) : Type 0 where
  pub x : IsSmallPlane (box_at course i).xlo (box_at course i).xhi course.v
  pub y : IsSmallPlane (box_at course i).ylo (box_at course i).yhi course.v

pub small_box : (course : Course) (i : ℕ) (o : OuterBox) → rect_of_box o ≡ box_at course i → AreBoxPlaces 21_000_000_000_000 o → Within (pos 0) (pos 900_000) course.v → IsSmallBox course i
small_box course i o e near speed = record {
  x = record { low = at_box (λ r. r.xlo) near.xlo; high = at_box (λ r. r.xhi) near.xhi; speed = speed };
  y = record { low = at_box (λ r. r.ylo) near.ylo; high = at_box (λ r. r.yhi) near.yhi; speed = speed };
}
  where
    at_box : (f : Rect → ℤ) → nat_abs (f (rect_of_box o)) ≤ 21_000_000_000_000 → nat_abs (f (box_at course i)) ≤ 21_000_000_000_000
    at_box f h = subst (λ (r : Rect). nat_abs (f r) ≤ 21_000_000_000_000) e h

-- a corner list has a first corner
first_corner : (vs : List Pt) (lo hi v : ℤ) → AreInside lo hi v vs → (c : Pt) × (rest : List Pt) × (vs ≡ c ∷ rest)
first_corner [] lo hi v h = absurd h.convex
first_corner (c ∷ rest) lo hi v h = (c, rest, refl)

-- a slot in which a polygon has a part meets the polygon's places
slot_meets : (width lo hi v c : ℤ) (vs part : List Pt) → pos 0 <ℤ width → AreInside lo hi v vs → IsClippedTo (places (slot_low width c) (slot_high width c)) vs part
    → Within (slot width lo) (slot width hi) c
slot_meets width lo hi v c vs part some h clipped = by_lt_z c (slot width lo) (λ before. absurd (none (inl before)))
    (λ low. by_lt_z (slot width hi) c (λ after. absurd (none (inr after))) (λ high. record { low = low; high = high }))
  where
    none : (c <ℤ slot width lo) ⊎ (slot width hi <ℤ c) → ⊥
    none out = clips_not_both (places (slot_low width c) (slot_high width c)) vs part clipped (none_outside vs width lo hi c some h.convex (inside_places lo hi v vs h) out)

module _ (course : Course) (i : ℕ) (before : List SetValue) (col row : ℤ) where
  -- children and parts are inside
  child_x_inside : (x y : List Pt) (h : HasParts course i before col row x y) → AreInside (box_at course i).xlo (box_at course i).xhi course.v h.child_x
  child_x_inside x y h = child_inside (box_at course i).xlo (box_at course i).xhi course.v h.is_child_x.0 h.child_x h.is_child_x.2

  child_y_inside : (x y : List Pt) (h : HasParts course i before col row x y) → AreInside (box_at course i).ylo (box_at course i).yhi course.v h.child_y
  child_y_inside x y h = child_inside (box_at course i).ylo (box_at course i).yhi course.v h.is_child_y.0 h.child_y h.is_child_y.2

  x_inside : (x y : List Pt) → HasParts course i before col row x y → AreInside (box_at course i).xlo (box_at course i).xhi course.v x
  x_inside x y h = part_inside (slot_low course.w col) (slot_high course.w col) (box_at course i).xlo (box_at course i).xhi course.v h.child_x x h.part_x (child_x_inside x y h)

  y_inside : (x y : List Pt) → HasParts course i before col row x y → AreInside (box_at course i).ylo (box_at course i).yhi course.v y
  y_inside x y h = part_inside (slot_low course.g row) (slot_high course.g row) (box_at course i).ylo (box_at course i).yhi course.v h.child_y y h.part_y (child_y_inside x y h)

  -- a cell with polygons is one of the box
  pub merged_in : (x y : List Pt) → pos 0 <ℤ course.w → pos 0 <ℤ course.g → IsMerged course i before col row x y → IsCellIn course i col row
  merged_in x y wide high m = let (a, b, h) = some_part course i before col row x y m in record {
    col_in = slot_meets course.w (box_at course i).xlo (box_at course i).xhi course.v col h.child_x a wide (child_x_inside a b h) h.part_x;
    row_in = slot_meets course.g (box_at course i).ylo (box_at course i).yhi course.v row h.child_y b high (child_y_inside a b h) h.part_y;
  }

  -- and they are inside
  merged_x : (x y : List Pt) → 1 ≤ course.k → IsMerged course i before col row x y → AreInside (box_at course i).xlo (box_at course i).xhi course.v x
  merged_x x y ticks m = frame_inside course i before (λ p. p.0) col row (λ a b h. first_corner a _ _ _ (x_inside a b h)) (box_at course i).xlo (box_at course i).xhi course.v x_inside m.numbers_x x ticks m.most_x m.frame_x

  merged_y : (x y : List Pt) → 1 ≤ course.k → IsMerged course i before col row x y → AreInside (box_at course i).ylo (box_at course i).yhi course.v y
  merged_y x y ticks m = frame_inside course i before (λ p. p.1) col row (λ a b h. first_corner b _ _ _ (y_inside a b h)) (box_at course i).ylo (box_at course i).yhi course.v y_inside m.numbers_y y ticks m.most_y m.frame_y

  -- with few corners
  few_x : IsSmallBox course i → (x y : List Pt) → 1 ≤ course.k → IsMerged course i before col row x y → length x ≤ 12
  few_x small x y ticks m = frame_few course i before (λ p. p.0) col row (λ a b h. first_corner a _ _ _ (x_inside a b h)) (box_at course i).xlo (box_at course i).xhi course.v x_inside small.x m.numbers_x x ticks m.most_x m.frame_x

  few_y : IsSmallBox course i → (x y : List Pt) → 1 ≤ course.k → IsMerged course i before col row x y → length y ≤ 12
  few_y small x y ticks m = frame_few course i before (λ p. p.1) col row (λ a b h. first_corner b _ _ _ (y_inside a b h)) (box_at course i).ylo (box_at course i).yhi course.v y_inside small.y m.numbers_y y ticks m.most_y m.frame_y

module _ (course : Course) (i : ℕ) (before : List SetValue) (count : ℕ) (Hits : ℕ → Pt → Type 0) where
  pub cut_in : (c : Cut) → pos 0 <ℤ course.w → pos 0 <ℤ course.g → IsCut course i before count Hits c.0 c.1 → IsCellIn course i c.1.col c.1.row
  cut_in c wide high cut = merged_in course i before c.1.col c.1.row cut.x c.1.y wide high cut.merged

  cut_inside : (c : Cut) → 1 ≤ course.k → IsCut course i before count Hits c.0 c.1 → IsSetInBox course i c.1
  cut_inside c ticks cut = record {
    x = (part_inside c.0 cut.hi (box_at course i).xlo (box_at course i).xhi course.v cut.x c.1.x cut.clipped (merged_x course i before c.1.col c.1.row cut.x c.1.y ticks cut.merged)).plane;
    y = (merged_y course i before c.1.col c.1.row cut.x c.1.y ticks cut.merged).plane;
  }

  cut_few : (c : Cut) → IsSmallBox course i → 1 ≤ course.k → IsCut course i before count Hits c.0 c.1 → HasFewCorners c.1
  cut_few c small ticks cut = record {
    x = (let part = part_few c.0 cut.hi (box_at course i).xlo (box_at course i).xhi course.v cut.x c.1.x small.x (merged_x course i before c.1.col c.1.row cut.x c.1.y ticks cut.merged) cut.clipped in
        let frame = few_x course i before c.1.col c.1.row small cut.x c.1.y ticks cut.merged in omega (arith, part, frame));
    y = few_y course i before c.1.col c.1.row small cut.x c.1.y ticks cut.merged;
  }

  pub next_few : (sets : List SetValue) → IsSmallBox course i → 1 ≤ course.k → IsNextList course i before count Hits sets → (b : SetValue) → Includes sets b → HasFewCorners b
  next_few sets small ticks l b j =
      let (c, k, e) = in_map (λ (c : Cut). c.1) l.cuts b (subst (λ (z : List SetValue). Includes z b) l.sets_are j) in
      subst HasFewCorners (sym e) (cut_few c small ticks (l.each c k))

  pub next_in_box : (sets : List SetValue) → 1 ≤ course.k → IsNextList course i before count Hits sets → AreSetsInBox course i sets
  next_in_box sets ticks l b j =
      let (c, k, e) = in_map (λ (c : Cut). c.1) l.cuts b (subst (λ (z : List SetValue). Includes z b) l.sets_are j) in
      subst (IsSetInBox course i) (sym e) (cut_inside c ticks (l.each c k))

-- ---- the first list

module _ (course : Course) (m : ℕ) (b : IsBoxWithin m course.b) (fits : FitsBound course.b course.v) (v : pos 0 ≤ℤ course.v) where
  -- the motion that is at its start alone
  abbrev start_state : State
  start_state = record { p = course.p; v = at course.b.xlo course.b.ylo }

  start_in : InRect (box_at course 0) course.p
  start_in = stays_in_box course 0 (start_state ∷ []) start_state (record {
    start = (refl, record { x = record { low = reflexive course.b.xlo; high = b.x_ordered }; y = record { low = reflexive course.b.ylo; high = b.y_ordered } });
    ticks = record { x = fits.xlo; y = fits.ylo };
  }) (let e : 0 ≡ 0 * course.k = omega arith in subst (λ (j : ℕ). slice_get (start_state ∷ []) j ≡ Some start_state) e refl)

  first_set_in : IsSetInBox course 0 (first_set course)
  first_set_in = record {
    x = segment_all (IsInPlane (box_at course 0).xlo (box_at course 0).xhi course.v) course.p.x course.b.xlo course.b.xhi
        (record { place = start_in.x; speed = in_bound course.v course.b.xlo v fits.xlo }) (record { place = start_in.x; speed = in_bound course.v course.b.xhi v fits.xhi });
    y = segment_all (IsInPlane (box_at course 0).ylo (box_at course 0).yhi course.v) course.p.y course.b.ylo course.b.yhi
        (record { place = start_in.y; speed = in_bound course.v course.b.ylo v fits.ylo }) (record { place = start_in.y; speed = in_bound course.v course.b.yhi v fits.yhi });
  }

  pub first_in_box : (count : ℕ → ℕ) (Hits : ℕ → ℕ → Pt → Type 0) (sets : List SetValue) → IsFirstList course count Hits sets → AreSetsInBox course 0 sets
  first_in_box count Hits sets (inl (left, one)) s j = go (subst (λ (l : List SetValue). Includes l s) one j)
    where
      go : Includes (first_set course ∷ []) s → IsSetInBox course 0 s
      go (inl e) = subst (IsSetInBox course 0) (sym e) first_set_in
      go (inr k) = absurd k
  first_in_box count Hits sets (inr (gone, none)) s j = absurd (subst (λ (l : List SetValue). Includes l s) none j)

segment_few : (p lo hi : ℤ) → length (segment p lo hi) ≤ 2
segment_few p lo hi = go (int_lt lo hi)
  where
    go : (two : Bool) → length (at p lo ∷ (if two then at p hi ∷ [] else [])) ≤ 2
    go true = omega arith
    go false = omega arith

pub first_few : (course : Course) (count : ℕ → ℕ) (Hits : ℕ → ℕ → Pt → Type 0) (sets : List SetValue) → IsFirstList course count Hits sets → (b : SetValue) → Includes sets b → HasFewCorners b
first_few course count Hits sets (inl (left, one)) b j = go (subst (λ (l : List SetValue). Includes l b) one j)
  where
    few : HasFewCorners (first_set course)
    few = record {
      x = (let h = segment_few course.p.x course.b.xlo course.b.xhi in omega (arith, h));
      y = (let h = segment_few course.p.y course.b.ylo course.b.yhi in omega (arith, h));
    }

    go : Includes (first_set course ∷ []) b → HasFewCorners b
    go (inl e) = subst HasFewCorners (sym e) few
    go (inr k) = absurd k
first_few course count Hits sets (inr (gone, none)) b j = absurd (subst (λ (l : List SetValue). Includes l b) none j)

-- ---- a step from each set

near_point : (lo hi v : ℤ) (c : Pt) → IsSmallPlane lo hi v → IsInPlane lo hi v c → IsStepPoint c
near_point lo hi v c s h = record {
  x = omega (arith, ints, s.low, s.high, h.place.low, h.place.high);
  y = omega (arith, ints, s.speed.low, s.speed.high, h.speed.low, h.speed.high);
}

near_points : (lo hi v : ℤ) (cs : List Pt) → IsSmallPlane lo hi v → AllByRecursion (IsInPlane lo hi v) cs → AllByRecursion IsStepPoint cs
near_points lo hi v cs s h = all_of IsStepPoint cs (λ c j. near_point lo hi v c s (all_included (IsInPlane lo hi v) cs c h j))

pub step_set : (course : Course) (i : ℕ) (o : OuterBox) (b : SetValue) → rect_of_box o ≡ box_at course i → AreBoxPlaces 21_000_000_000_000 o → Within (pos 0) (pos 900_000) course.v → IsSetInBox course i b → IsStepSet b
step_set course i o b e near speed h = let small = small_box course i o e near speed in record {
  x = near_points (box_at course i).xlo (box_at course i).xhi course.v b.x small.x h.x;
  y = near_points (box_at course i).ylo (box_at course i).yhi course.v b.y small.y h.y;
}
