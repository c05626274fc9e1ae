-- A set of a next list lies in its cell, in the outer box, in a free run of its own, and is slow.
use Rattle.std.proofs.Common.{◌≡◌, ◌∙◌, ◌⊎◌, inl, inr, ℕ, ◌<◌, ◌≤◌, arith, ap, refl, sym, subst, List, [], ◌∷◌, map, length, Some}
use Rattle.std.specs.Prelude.{nat_abs, fold, slice_get}
use Rattle.std.specs.Int.{int_max, int_min}
use Rattle.std.specs.List.{AllByRecursion}
use Rattle.std.proofs.lemmas.Int.{ints, clamps, by_lt_z}
use lib.IntN.{ℤ, pos, neg_ℤ, ◌+ℤ◌, ◌-ℤ◌, ◌*ℤ◌}
use lib.Signed.{◌≤ℤ◌, ◌<ℤ◌}
use Rattle.spot_terms.specs.declared.plain.Pt.{Pt}
use Rattle.spot_terms.specs.BaseSets.{SetValue, rect_of, least_place, greatest_place}
use Rattle.spot_terms.specs.ChildNumbers.{support}
use Rattle.spot_terms.specs.Courses.{Course, box_at}
use Rattle.spot_terms.specs.Grid.{slot_low, slot_high, IsRemoved, IsFreeRun}
use Rattle.spot_terms.specs.Lists.{Includes, Ascends}
use Rattle.spot_terms.specs.Pieces.{Hits}
use Rattle.spot_terms.specs.Reach.{Normal, along, minus_one}
use Rattle.spot_terms.specs.StepLists.{HasParts, IsMerged, IsCut, ComesBefore}
use Rattle.spot_terms.specs.TwoSided.{IsBetween, IsInPlace, IsInRun}
use Rattle.spot_terms.specs.Whole.{Within, SizeAtMost}
use Rattle.spot_terms.proofs.Ascents.{comes_before}
use Rattle.spot_terms.proofs.ItemPlaces.{got_included, image_at}
use Rattle.spot_terms.proofs.ListLemmas.{all_included, all_of}
use Rattle.spot_terms.proofs.Members.{in_map}
use Rattle.round_out.specs.Growth.{by_speed, frame_normal, AreWithin, RoundingLaws}
use Rattle.fair_sets.specs.Fairness.{NextListsAreInPlace}
use Rattle.round_out.proofs.Bounds.{more, same, support_at_most, places_within, places_east, places_west, places_some}
use Rattle.fair_sets.proofs.Merged.{child_north, child_south, child_east, child_west, Reach, merged_within}

-- ---- places and speeds, from bounds along the axes

between_of : (lo hi least most : ℤ) (vs : List Pt) → AreWithin (pos 1, pos 0) hi vs → AreWithin (minus_one, pos 0) (neg_ℤ lo) vs → least ≤ℤ lo → hi ≤ℤ most → IsBetween least most vs
between_of lo hi least most vs east west a b =
    all_of (λ c. Within least most c.x) vs (λ c i. one c.x c.y lo hi least most (all_included (λ u. along (pos 1, pos 0) u ≤ℤ hi) vs c east i) (all_included (λ u. along (minus_one, pos 0) u ≤ℤ neg_ℤ lo) vs c west i) a b)
  where
    one : (x y lo hi least most : ℤ) → (pos 1 *ℤ x +ℤ pos 0 *ℤ y) ≤ℤ hi → (minus_one *ℤ x +ℤ pos 0 *ℤ y) ≤ℤ neg_ℤ lo → least ≤ℤ lo → hi ≤ℤ most → Within least most x
    one x y lo hi least most h k a b = record { low = omega (arith, ints); high = omega (arith, ints) }

slow_of : (v : ℤ) (vs : List Pt) → AreWithin (pos 0, pos 1) v vs → AreWithin (pos 0, minus_one) v vs → AllByRecursion (λ c. SizeAtMost (nat_abs v) c.y) vs
slow_of v vs north south =
    all_of (λ c. SizeAtMost (nat_abs v) c.y) vs (λ c i. one c.x c.y v (all_included (λ u. along (pos 0, pos 1) u ≤ℤ v) vs c north i) (all_included (λ u. along (pos 0, minus_one) u ≤ℤ v) vs c south i))
  where
    one : (x y v : ℤ) → (pos 0 *ℤ x +ℤ pos 1 *ℤ y) ≤ℤ v → (pos 0 *ℤ x +ℤ minus_one *ℤ y) ≤ℤ v → nat_abs y ≤ nat_abs v
    one x y v h k = omega (arith, ints)

pub at_itself : (z : ℤ) → z ≤ℤ z
at_itself z = omega (arith, ints)

pub chain : (a b c : ℤ) → a ≤ℤ b → b ≤ℤ c → a ≤ℤ c
chain a b c h k = omega (arith, ints)

even : (a b : ℤ) → a ≤ℤ b → b ≤ℤ a → a ≡ b
even a b h k = omega (arith, ints)

apart : (a b : ℤ) → a ≡ b → a <ℤ b → ⊥
apart a b e h = omega (arith, ints)

clash : (lo l s : ℤ) → lo <ℤ l → l ≡ s → s ≤ℤ lo → ⊥
clash lo l s h e k = omega (arith, ints)

between : (lo hi l x : ℤ) → lo <ℤ l → l ≤ℤ x → x ≤ℤ hi → Within lo hi (l -ℤ pos 1)
between lo hi l x h k m = record { low = omega (arith, ints); high = omega (arith, ints) }

plus : (a b c : ℤ) → a ≤ℤ b → (a +ℤ c) ≤ℤ (b +ℤ c)
plus a b c h = omega (arith, ints)

level : (m s : ℤ) → s ≡ pos 0 → (m +ℤ s +ℤ s) ≤ℤ m
level m s e = omega (arith, ints, e)

-- ---- the ends of a polygon

least_above : (lo a : ℤ) (vs : List Pt) → lo ≤ℤ a → AllByRecursion (λ c. lo ≤ℤ c.x) vs → lo ≤ℤ fold int_min a (map (λ d. d.x) vs)
least_above lo a [] h all = h
least_above lo a (v ∷ vs) h all = least_above lo (int_min a v.x) vs (both lo a v.x h all.0) all.1
  where
    both : (lo a b : ℤ) → lo ≤ℤ a → lo ≤ℤ b → lo ≤ℤ int_min a b
    both lo a b h k = omega (arith, ints, clamps)

greatest_below : (hi a : ℤ) (vs : List Pt) → a ≤ℤ hi → AllByRecursion (λ c. c.x ≤ℤ hi) vs → fold int_max a (map (λ d. d.x) vs) ≤ℤ hi
greatest_below hi a [] h all = h
greatest_below hi a (v ∷ vs) h all = greatest_below hi (int_max a v.x) vs (both hi a v.x h all.0) all.1
  where
    both : (hi a b : ℤ) → a ≤ℤ hi → b ≤ℤ hi → int_max a b ≤ℤ hi
    both hi a b h k = omega (arith, ints, clamps)

pub ends_within : (lo hi : ℤ) (vs : List Pt) → (vs ≡ [] → ⊥) → IsBetween lo hi vs → (lo ≤ℤ least_place vs) × (greatest_place vs ≤ℤ hi)
ends_within lo hi [] some all = absurd (some refl)
ends_within lo hi (v ∷ vs) some all = (
  least_above lo v.x vs all.0.low (all_of (λ c. lo ≤ℤ c.x) vs (λ c i. (all_included (λ c. Within lo hi c.x) vs c all.1 i).low)),
  greatest_below hi v.x vs all.0.high (all_of (λ c. c.x ≤ℤ hi) vs (λ c i. (all_included (λ c. Within lo hi c.x) vs c all.1 i).high)),
)

-- ---- bounds of all parts of a cell

module _ (laws : RoundingLaws) (course : Course) (ticks : 0 < course.k) (i : ℕ) (before : List SetValue) (col row : ℤ) where
  some_x : (x y : List Pt) → HasParts course i before col row x y → x ≡ [] → ⊥
  some_x x y h = places_some laws (slot_low course.w col) (slot_high course.w col) h.child_x x h.part_x

  some_y : (x y : List Pt) → HasParts course i before col row x y → y ≡ [] → ⊥
  some_y x y h = places_some laws (slot_low course.g row) (slot_high course.g row) h.child_y y h.part_y

  all_x : (j : ℕ) (m : ℤ) (x y : List Pt) → IsMerged course i before col row x y → j < 8
      → ((u v : List Pt) → HasParts course i before col row u v → AreWithin (frame_normal (pos course.k) j) m u) → AreWithin (frame_normal (pos course.k) j) (m +ℤ by_speed (frame_normal (pos course.k) j)) x
  all_x j m x y merged l each =
      let r : Reach laws course i before col row (λ p. p.0) j x = merged_within laws course i before col row (λ p. p.0) some_x ticks merged.numbers_x x merged.most_x merged.frame_x j l in
      more (frame_normal (pos course.k) j) _ _ x (plus (support (frame_normal (pos course.k) j) r.x) m (by_speed (frame_normal (pos course.k) j)) (support_at_most (frame_normal (pos course.k) j) m r.x (some_x r.x r.y r.parts) (each r.x r.y r.parts))) r.within

  all_y : (j : ℕ) (m : ℤ) (x y : List Pt) → IsMerged course i before col row x y → j < 8
      → ((u v : List Pt) → HasParts course i before col row u v → AreWithin (frame_normal (pos course.k) j) m v) → AreWithin (frame_normal (pos course.k) j) (m +ℤ by_speed (frame_normal (pos course.k) j)) y
  all_y j m x y merged l each =
      let r : Reach laws course i before col row (λ p. p.1) j y = merged_within laws course i before col row (λ p. p.1) some_y ticks merged.numbers_y y merged.most_y merged.frame_y j l in
      more (frame_normal (pos course.k) j) _ _ y (plus (support (frame_normal (pos course.k) j) r.y) m (by_speed (frame_normal (pos course.k) j)) (support_at_most (frame_normal (pos course.k) j) m r.y (some_y r.x r.y r.parts) (each r.x r.y r.parts))) r.within

  -- a bound of the children along an axis is one of the parts
  part_x_axis : (n : Normal) (m : ℤ) (u v : List Pt) (h : HasParts course i before col row u v) → by_speed n ≡ pos 0 → AreWithin n m h.child_x → AreWithin n m u
  part_x_axis n m u v h none within = more n (m +ℤ by_speed n +ℤ by_speed n) m u (level m (by_speed n) none) (places_within laws (slot_low course.w col) (slot_high course.w col) h.child_x u n m h.part_x within)

  part_y_axis : (n : Normal) (m : ℤ) (u v : List Pt) (h : HasParts course i before col row u v) → by_speed n ≡ pos 0 → AreWithin n m h.child_y → AreWithin n m v
  part_y_axis n m u v h none within = more n (m +ℤ by_speed n +ℤ by_speed n) m v (level m (by_speed n) none) (places_within laws (slot_low course.g row) (slot_high course.g row) h.child_y v n m h.part_y within)

  module _ (x y : List Pt) (merged : IsMerged course i before col row x y) where
    cell_north : AreWithin (pos 0, pos 1) course.v x
    cell_north = same (pos 0, pos 1) course.v x (all_x 0 course.v x y merged (omega arith) (λ u v h. part_x_axis (pos 0, pos 1) course.v u v h refl (child_north laws course (box_at course i).xlo (box_at course i).xhi h.set.x h.child_x h.is_child_x)))

    cell_south : AreWithin (pos 0, minus_one) course.v x
    cell_south = same (pos 0, minus_one) course.v x (all_x 4 course.v x y merged (omega arith) (λ u v h. part_x_axis (pos 0, minus_one) course.v u v h refl (child_south laws course (box_at course i).xlo (box_at course i).xhi h.set.x h.child_x h.is_child_x)))

    cell_east : AreWithin (pos 1, pos 0) (box_at course i).xhi x
    cell_east = same (pos 1, pos 0) (box_at course i).xhi x (all_x 1 (box_at course i).xhi x y merged (omega arith) (λ u v h. part_x_axis (pos 1, pos 0) (box_at course i).xhi u v h refl (child_east laws course (box_at course i).xlo (box_at course i).xhi h.set.x h.child_x h.is_child_x)))

    cell_west : AreWithin (minus_one, pos 0) (neg_ℤ (box_at course i).xlo) x
    cell_west = same (minus_one, pos 0) (neg_ℤ (box_at course i).xlo) x (all_x 5 (neg_ℤ (box_at course i).xlo) x y merged (omega arith) (λ u v h. part_x_axis (minus_one, pos 0) (neg_ℤ (box_at course i).xlo) u v h refl (child_west laws course (box_at course i).xlo (box_at course i).xhi h.set.x h.child_x h.is_child_x)))

    row_north : AreWithin (pos 0, pos 1) course.v y
    row_north = same (pos 0, pos 1) course.v y (all_y 0 course.v x y merged (omega arith) (λ u v h. part_y_axis (pos 0, pos 1) course.v u v h refl (child_north laws course (box_at course i).ylo (box_at course i).yhi h.set.y h.child_y h.is_child_y)))

    row_south : AreWithin (pos 0, minus_one) course.v y
    row_south = same (pos 0, minus_one) course.v y (all_y 4 course.v x y merged (omega arith) (λ u v h. part_y_axis (pos 0, minus_one) course.v u v h refl (child_south laws course (box_at course i).ylo (box_at course i).yhi h.set.y h.child_y h.is_child_y)))

    row_east : AreWithin (pos 1, pos 0) (box_at course i).yhi y
    row_east = same (pos 1, pos 0) (box_at course i).yhi y (all_y 1 (box_at course i).yhi x y merged (omega arith) (λ u v h. part_y_axis (pos 1, pos 0) (box_at course i).yhi u v h refl (child_east laws course (box_at course i).ylo (box_at course i).yhi h.set.y h.child_y h.is_child_y)))

    row_west : AreWithin (minus_one, pos 0) (neg_ℤ (box_at course i).ylo) y
    row_west = same (minus_one, pos 0) (neg_ℤ (box_at course i).ylo) y (all_y 5 (neg_ℤ (box_at course i).ylo) x y merged (omega arith) (λ u v h. part_y_axis (minus_one, pos 0) (neg_ℤ (box_at course i).ylo) u v h refl (child_west laws course (box_at course i).ylo (box_at course i).yhi h.set.y h.child_y h.is_child_y)))

    in_row : IsBetween (slot_low course.g row) (slot_high course.g row) y
    in_row = between_of (slot_low course.g row) (slot_high course.g row) (slot_low course.g row) (slot_high course.g row) y
        (same (pos 1, pos 0) (slot_high course.g row) y (all_y 1 (slot_high course.g row) x y merged (omega arith) (λ u v h. places_east laws (slot_low course.g row) (slot_high course.g row) h.child_y v h.part_y)))
        (same (minus_one, pos 0) (neg_ℤ (slot_low course.g row)) y (all_y 5 (neg_ℤ (slot_low course.g row)) x y merged (omega arith) (λ u v h. places_west laws (slot_low course.g row) (slot_high course.g row) h.child_y v h.part_y)))
        (at_itself (slot_low course.g row)) (at_itself (slot_high course.g row))

-- ---- a set

module _ (laws : RoundingLaws) (course : Course) (ticks : 0 < course.k) (i : ℕ) (before : List SetValue) (count : ℕ) (Held : ℕ → Pt → Type 0) where
  module _ (lo : ℤ) (c : SetValue) (cut : IsCut course i before count Held lo c) where
    set_some : c.x ≡ [] → ⊥
    set_some = places_some laws lo cut.hi cut.x c.x cut.clipped

    axis : (n : Normal) (m : ℤ) → AreWithin n m cut.x → by_speed n ≡ pos 0 → AreWithin n m c.x
    axis n m within none = more n (m +ℤ by_speed n +ℤ by_speed n) m c.x (level m (by_speed n) none) (places_within laws lo cut.hi cut.x c.x n m cut.clipped within)

    in_run : IsBetween lo cut.hi c.x
    in_run = between_of lo cut.hi lo cut.hi c.x (places_east laws lo cut.hi cut.x c.x cut.clipped) (places_west laws lo cut.hi cut.x c.x cut.clipped) (at_itself lo) (at_itself cut.hi)

    set_in_place : IsInPlace course i count Held c
    set_in_place = record {
      col = between_of lo cut.hi (slot_low course.w c.col) (slot_high course.w c.col) c.x (places_east laws lo cut.hi cut.x c.x cut.clipped) (places_west laws lo cut.hi cut.x c.x cut.clipped) cut.run.low cut.run.high;
      row = in_row laws course ticks i before c.col c.row cut.x c.y cut.merged;
      box_x = between_of (box_at course i).xlo (box_at course i).xhi (box_at course i).xlo (box_at course i).xhi c.x
          (axis (pos 1, pos 0) (box_at course i).xhi (cell_east laws course ticks i before c.col c.row cut.x c.y cut.merged) refl)
          (axis (minus_one, pos 0) (neg_ℤ (box_at course i).xlo) (cell_west laws course ticks i before c.col c.row cut.x c.y cut.merged) refl)
          (at_itself (box_at course i).xlo) (at_itself (box_at course i).xhi);
      box_y = between_of (box_at course i).ylo (box_at course i).yhi (box_at course i).ylo (box_at course i).yhi c.y
          (row_east laws course ticks i before c.col c.row cut.x c.y cut.merged) (row_west laws course ticks i before c.col c.row cut.x c.y cut.merged)
          (at_itself (box_at course i).ylo) (at_itself (box_at course i).yhi);
      slow_x = slow_of course.v c.x
          (axis (pos 0, pos 1) course.v (cell_north laws course ticks i before c.col c.row cut.x c.y cut.merged) refl)
          (axis (pos 0, minus_one) course.v (cell_south laws course ticks i before c.col c.row cut.x c.y cut.merged) refl);
      slow_y = slow_of course.v c.y (row_north laws course ticks i before c.col c.row cut.x c.y cut.merged) (row_south laws course ticks i before c.col c.row cut.x c.y cut.merged);
      free = λ x w. let (low, high) = ends_within lo cut.hi c.x set_some in_run in
          cut.run.free x (record { low = chain lo (rect_of c).xlo x low w.low; high = chain x (rect_of c).xhi cut.hi w.high high });
    }

-- ---- one set for each free run

-- the run that begins first begins where the other does, if they share a place
starts : (Removed : ℤ → Type 0) (w col lo hi lo' hi' x : ℤ) → IsFreeRun Removed w col lo hi → IsFreeRun Removed w col lo' hi' → Within lo hi x → Within lo' hi' x → lo' ≤ℤ lo
starts Removed w col lo hi lo' hi' x run other in_run in_other =
    by_lt_z lo lo' (λ less. absurd (before less other.left)) (λ rest. rest)
  where
    before : lo <ℤ lo' → (lo' ≡ slot_low w col) ⊎ Removed (lo' -ℤ pos 1) → ⊥
    before less (inl e) = clash lo lo' (slot_low w col) less e run.low
    before less (inr removed) = run.free (lo' -ℤ pos 1) (between lo hi lo' x less in_other.low in_run.high) removed

same_start : (Removed : ℤ → Type 0) (w col lo hi lo' hi' x : ℤ) → IsFreeRun Removed w col lo hi → IsFreeRun Removed w col lo' hi' → Within lo hi x → Within lo' hi' x → lo ≡ lo'
same_start Removed w col lo hi lo' hi' x run other in_run in_other =
    even lo lo' (starts Removed w col lo' hi' lo hi x other run in_other in_run) (starts Removed w col lo hi lo' hi' x run other in_run in_other)

corner : (vs : List Pt) → (vs ≡ [] → ⊥) → (c : Pt) × Includes vs c
corner [] some = absurd (some refl)
corner (c ∷ vs) some = (c, inl refl)

-- cuts of one cell and one start don't come before each other
not_before : (course : Course) (i : ℕ) (before : List SetValue) (count : ℕ) (Held : ℕ → Pt → Type 0) (b c : ℤ × SetValue) → b.1.col ≡ c.1.col → b.1.row ≡ c.1.row → b.0 ≡ c.0 → ComesBefore course i before count Held b c → ⊥
not_before course i before count Held b c col row lo (inl less) = apart b.1.col c.1.col col less
not_before course i before count Held b c col row lo (inr (e, inl less)) = apart b.1.row c.1.row row less
not_before course i before count Held b c col row lo (inr (e, inr (f, less))) = apart b.0 c.0 lo less

module _ (laws : RoundingLaws) (course : Course) (ticks : 0 < course.k) (i : ℕ) (before : List SetValue) (count : ℕ) (Held : ℕ → Pt → Type 0) where
  -- a cut that lies in a free run begins where the run does
  cut_start : (lo hi : ℤ) (c : ℤ × SetValue) → IsFreeRun (IsRemoved count Held course.g c.1.row) course.w c.1.col lo hi → IsCut course i before count Held c.0 c.1 → IsBetween lo hi c.1.x → c.0 ≡ lo
  cut_start lo hi c run cut inside =
      let (q, j) = corner c.1.x (set_some laws course ticks i before count Held c.0 c.1 cut) in
      same_start (IsRemoved count Held course.g c.1.row) course.w c.1.col c.0 cut.hi lo hi q.x cut.run run
      (all_included (λ u. Within c.0 cut.hi u.x) c.1.x q (in_run laws course ticks i before count Held c.0 c.1 cut) j)
      (all_included (λ u. Within lo hi u.x) c.1.x q inside j)

  module _ (cuts : List (ℤ × SetValue)) (up : Ascends (ComesBefore course i before count Held) cuts) (each : (c : ℤ × SetValue) → Includes cuts c → IsCut course i before count Held c.0 c.1) where
    cuts_start : (col row lo hi : ℤ) (j : ℕ) (b : SetValue) (c : ℤ × SetValue) → IsFreeRun (IsRemoved count Held course.g row) course.w col lo hi → slice_get cuts j ≡ Some c → c.1 ≡ b → IsInRun course i count Held col row lo hi b
        → (c.1.col ≡ col) × (c.1.row ≡ row) × (c.0 ≡ lo)
    cuts_start col row lo hi j b c run at e inside =
        let col_is : c.1.col ≡ col = ap (λ (z : SetValue). z.col) e ∙ inside.col_is in
        let row_is : c.1.row ≡ row = ap (λ (z : SetValue). z.row) e ∙ inside.row_is in (
          col_is,
          row_is,
          cut_start lo hi c (subst (λ z. IsFreeRun (IsRemoved count Held course.g c.1.row) course.w z lo hi) (sym col_is) (subst (λ z. IsFreeRun (IsRemoved count Held course.g z) course.w col lo hi) (sym row_is) run))
              (each c (got_included cuts j c at)) (subst (λ (z : SetValue). IsBetween lo hi z.x) (sym e) inside.places),
        )

    not_earlier : (col row lo hi : ℤ) (j k : ℕ) (b d : SetValue) → IsFreeRun (IsRemoved count Held course.g row) course.w col lo hi → slice_get (map (λ (c : ℤ × SetValue). c.1) cuts) j ≡ Some b → slice_get (map (λ (c : ℤ × SetValue). c.1) cuts) k ≡ Some d
        → IsInRun course i count Held col row lo hi b → IsInRun course i count Held col row lo hi d → j < k → ⊥
    not_earlier col row lo hi j k b d run at_j at_k in_b in_d less =
        let (c, here, e) = image_at (λ (c : ℤ × SetValue). c.1) cuts j b at_j in
        let (f, there, g) = image_at (λ (c : ℤ × SetValue). c.1) cuts k d at_k in
        let (c1, c2, c3) = cuts_start col row lo hi j b c run here e in_b in
        let (f1, f2, f3) = cuts_start col row lo hi k d f run there g in_d in
        not_before course i before count Held c f (c1 ∙ sym f1) (c2 ∙ sym f2) (c3 ∙ sym f3) (comes_before (ComesBefore course i before count Held) cuts j k c f up less here there)

trichotomy : (j k : ℕ) → (j < k → ⊥) → (k < j → ⊥) → j ≡ k
trichotomy j k h g = elim (order j k) [ inl l ↦ absurd (h l) | inr r ↦ elim r [ inl l ↦ absurd (g l) | inr e ↦ e ] ]
  where
    order : (j k : ℕ) → (j < k) ⊎ ((k < j) ⊎ (j ≡ k))
    order j k = grind arith

pub next_lists_in_place : RoundingLaws → NextListsAreInPlace
next_lists_in_place laws course i before pieces sets accelerates ticks next = record {
  each = λ b h. let (c, j, e) = in_map (λ (z : ℤ × SetValue). z.1) next.cuts b (subst (λ (z : List SetValue). Includes z b) next.sets_are h) in
      subst (IsInPlace course i (length pieces) (Hits pieces)) (sym e) (set_in_place laws course ticks i before (length pieces) (Hits pieces) c.0 c.1 (next.each c j));
  one = λ col row lo hi j k b c run at_j at_k in_b in_c.
      let here = subst (λ (z : List SetValue). slice_get z j ≡ Some b) next.sets_are at_j in
      let there = subst (λ (z : List SetValue). slice_get z k ≡ Some c) next.sets_are at_k in
      trichotomy j k
      (λ l. not_earlier laws course ticks i before (length pieces) (Hits pieces) next.cuts next.ordered next.each col row lo hi j k b c run here there in_b in_c l)
      (λ l. not_earlier laws course ticks i before (length pieces) (Hits pieces) next.cuts next.ordered next.each col row lo hi k j c b run there here in_c in_b l);
}
