-- The lines of the steps of a run fit the program's types.
use Rattle.std.proofs.Common.{◌≡◌, inl, inr, ℕ, suc, ◌+◌, ◌*◌, ◌<◌, ◌≤◌, ◌^◌, List, [], ◌∷◌, ◌++◌, map, length, sym, subst, arith, append_assoc, ℤ, pos, neg_ℤ, nat_abs, FitsSigned, w64, ◌<ℤ◌}
use Rattle.std.specs.List.{AllByRecursion}
use Rattle.std.proofs.lemmas.Int.{ints}
use Rattle.spot_terms.specs.BaseSets.{SetValue}
use Rattle.spot_terms.specs.Courses.{Course, box_at, outer_box, start_of}
use Rattle.spot_terms.specs.EgoMotions.{FitsBound}
use Rattle.spot_terms.specs.Grid.{slot}
use Rattle.spot_terms.specs.Lists.{Includes}
use Rattle.spot_terms.specs.Ranges.{IsStart}
use Rattle.spot_terms.specs.Reach.{Normal, reach_number}
use Rattle.spot_terms.specs.Report.{disc_line, set_line, count_line, FitsLine, FitsPt, FitsCorners, IsReport}
use Rattle.spot_terms.specs.StepLists.{IsNextList, first_set, IsFirstList, Follow, AreStepLists}
use Rattle.spot_terms.specs.declared.lines.End.{End}
use Rattle.spot_terms.specs.Whole.{Within}
use Rattle.spot_terms.specs.declared.plain.Disc.{Disc}
use Rattle.spot_terms.specs.declared.plain.Pt.{Pt}
use Rattle.spot_terms.proofs.ListLemmas.{all_included, all_of, all_append}
use Rattle.spot_terms.proofs.Members.{in_map, all_in_map}
use Rattle.spot_terms.proofs.Orders.{reflexive}
use Rattle.propagate.specs.Children.{IsInPlane}
use Rattle.base_sets.proofs.Axes.{axes, reach_axis, west, east, south, north}
use Rattle.base_sets.proofs.Slots.{slots_are}
use Rattle.area_laws.specs.Reaching.{IsSetInBox, IsCellIn, HasFewCorners}
use Rattle.area_laws.proofs.Corners.{IsSmallPlane}
use Rattle.area_laws.proofs.Reaching.{IsSmallBox, cut_in, next_few, next_in_box, first_in_box, first_few}
use Rattle.spot_claims.specs.AreaOf.{step_lines, lines_from, FollowSoFar, AreListsSoFar}
use Rattle.area_report.specs.Areas.{AreShort, disc_lines}

-- a cell's numbers are small
record IsSmallCell (b : SetValue) : Type 0 where
  col : nat_abs b.col ≤ 400_000_000
  row : nat_abs b.row ≤ 400_000_000

-- what a course has of its ego and its grid
pub record IsCourse (course : Course) : Type 0 where
  pub start : IsStart (start_of course)
  pub fits : FitsBound course.b course.v
  pub some : 1 ≤ course.k
  pub few : course.k ≤ 1000
  pub wide : Within (pos 100_000) (pos 100_000_000) course.w
  pub high : Within (pos 100_000) (pos 100_000_000) course.g

-- the lines of the discs that are recorded up to step n fit
abbrev pub DiscsFit : (ℕ → List Disc) → ℕ → Type 0
DiscsFit recorded n = (i : ℕ) (d : Disc) → i ≤ n → Includes (recorded i) d → FitsLine (disc_line i d.id d.p d.r)

positive : (w : ℤ) → Within (pos 100_000) (pos 100_000_000) w → pos 0 <ℤ w
positive w h = omega (arith, ints, h.low)

slot_small : (w z : ℤ) → Within (pos 100_000) (pos 100_000_000) w → nat_abs z ≤ 40_000_000_000_000 → nat_abs (slot w z) ≤ 400_000_000
slot_small w z h k = (slots_are w z z h (reflexive z) k k).low

between : (lo hi z : ℤ) → nat_abs lo ≤ 400_000_000 → nat_abs hi ≤ 400_000_000 → Within lo hi z → nat_abs z ≤ 400_000_000
between lo hi z a b h = omega (arith, ints, a, b, h.low, h.high)

module _ (course : Course) (is : IsCourse course) where
  ticks_few : (i : ℕ) → i ≤ 100 → i * course.k ≤ 100_000
  ticks_few i h = most i course.k h is.few
    where
      most : (a b : ℕ) → a ≤ 100 → b ≤ 1000 → a * b ≤ 100_000
      most a b h g = grind arith

  number_small : (i : ℕ) (n : Normal) → i ≤ 100 → Includes axes n → nat_abs (reach_number (start_of course) n (i * course.k)) ≤ 21_000_000_000_000
  number_small i n h among = small (reach_number (start_of course) n (i * course.k)) (i * course.k) (reach_axis (start_of course) n (i * course.k) is.start among) (ticks_few i h)
    where
      small : (z : ℤ) (t : ℕ) → nat_abs z ≤ 20_000_000_000_000 + t * 900_001 → t ≤ 100_000 → nat_abs z ≤ 21_000_000_000_000
      small z t h g = omega (arith, h, g)

  turned_small : (z : ℤ) → nat_abs z ≤ 21_000_000_000_000 → nat_abs (neg_ℤ z) ≤ 21_000_000_000_000
  turned_small z h = omega (arith, ints, h)

  box_small : (i : ℕ) → i ≤ 100 → IsSmallBox course i
  unfolding outer_box
  box_small i h = record {
    x = record { low = turned_small _ (number_small i _ h west); high = number_small i _ h east; speed = is.start.v };
    y = record { low = turned_small _ (number_small i _ h south); high = number_small i _ h north; speed = is.start.v };
  }

  wider : (z : ℤ) → nat_abs z ≤ 21_000_000_000_000 → nat_abs z ≤ 40_000_000_000_000
  wider z h = omega (arith, h)

  cell_small : (i : ℕ) (b : SetValue) → i ≤ 100 → IsCellIn course i b.col b.row → IsSmallCell b
  cell_small i b h cell =
      let box = box_small i h in record {
        col = between (slot course.w (box_at course i).xlo) (slot course.w (box_at course i).xhi) b.col (slot_small course.w (box_at course i).xlo is.wide (wider (box_at course i).xlo box.x.low)) (slot_small course.w (box_at course i).xhi is.wide (wider (box_at course i).xhi box.x.high)) cell.col_in;
        row = between (slot course.g (box_at course i).ylo) (slot course.g (box_at course i).yhi) b.row (slot_small course.g (box_at course i).ylo is.high (wider (box_at course i).ylo box.y.low)) (slot_small course.g (box_at course i).yhi is.high (wider (box_at course i).yhi box.y.high)) cell.row_in;
      }

  -- ---- a set

  point_fits : (lo hi v : ℤ) (p : Pt) → IsSmallPlane lo hi v → IsInPlane lo hi v p → FitsPt p
  point_fits lo hi v p small at = (place p.x at.place, speed p.y at.speed)
    where
      place : (z : ℤ) → Within lo hi z → FitsSigned w64 z
      place z h = omega (arith, ints, small.low, small.high, h.low, h.high)

      speed : (z : ℤ) → Within (neg_ℤ v) v z → FitsSigned w64 z
      speed z h = omega (arith, ints, small.speed.low, small.speed.high, h.low, h.high)

  corners_fit : (lo hi v : ℤ) (ps : List Pt) (n : ℕ) → IsSmallPlane lo hi v → AllByRecursion (IsInPlane lo hi v) ps → length ps ≤ n → n ≤ 14 → FitsCorners ps
  corners_fit lo hi v ps n small all few most = (omega (arith, few, most), all_of FitsPt ps (λ p i. point_fits lo hi v p small (all_included (IsInPlane lo hi v) ps p all i)))

  whole_fits : (z : ℤ) → nat_abs z ≤ 400_000_000 → FitsSigned w64 z
  whole_fits z h = omega (arith, ints, h)

  set_fits : (i : ℕ) (b : SetValue) → i ≤ 100 → IsSetInBox course i b → HasFewCorners b → IsSmallCell b → FitsLine (set_line i b)
  set_fits i b h inside few cell =
      let box = box_small i h in (
        omega (arith, h),
        whole_fits b.col cell.col,
        whole_fits b.row cell.row,
        corners_fit (box_at course i).xlo (box_at course i).xhi course.v b.x 14 box.x inside.x few.x (omega arith),
        corners_fit (box_at course i).ylo (box_at course i).yhi course.v b.y 12 box.y inside.y few.y (omega arith),
      )

  -- ---- the lists

  step_fits : (i : ℕ) (sets : List SetValue) → i ≤ 100 → length sets < 2 ^ 64 → ((b : SetValue) → Includes sets b → FitsLine (set_line i b)) → IsReport (step_lines i [] sets)
  step_fits i sets h short each = all_append FitsLine (map (set_line i) sets) (count_line i (length sets) ∷ []) (all_in_map FitsLine (set_line i) sets each) ((omega (arith, h), short), tt)

  with_discs : (i : ℕ) (discs : List Disc) (sets : List SetValue) → ((d : Disc) → Includes discs d → FitsLine (disc_line i d.id d.p d.r)) → IsReport (step_lines i [] sets) → IsReport (step_lines i discs sets)
  with_discs i discs sets each rest =
      subst IsReport (sym (append_assoc (disc_lines i discs) (map (set_line i) sets) (count_line i (length sets) ∷ [])))
      (all_append FitsLine (disc_lines i discs) (step_lines i [] sets) (all_in_map FitsLine (λ (d : Disc). disc_line i d.id d.p d.r) discs each) rest)

  module _ (count : ℕ → ℕ) (Hits : ℕ → ℕ → Pt → Type 0) where
    first_small : (sets : List SetValue) (b : SetValue) → IsFirstList course count Hits sets → Includes sets b → IsSmallCell b
    first_small sets b (inl (left, one)) i = go (subst (λ (l : List SetValue). Includes l b) one i)
      where
        go : Includes (first_set course ∷ []) b → IsSmallCell b
        go (inl e) = subst IsSmallCell (sym e) (record { col = slot_small course.w course.p.x is.wide (near course.p.x is.start.x); row = slot_small course.g course.p.y is.high (near course.p.y is.start.y) })
          where
            near : (z : ℤ) → nat_abs z ≤ 20_000_000_000_000 → nat_abs z ≤ 40_000_000_000_000
            near z h = omega (arith, h)
        go (inr k) = absurd k
    first_small sets b (inr (gone, none)) i = absurd (subst (λ (l : List SetValue). Includes l b) none i)

    first_fits : (sets : List SetValue) → IsFirstList course count Hits sets → length sets < 2 ^ 64 → IsReport (step_lines 0 [] sets)
    first_fits sets first short = step_fits 0 sets (omega arith) short (λ b i. set_fits 0 b (omega arith)
        (first_in_box course 900_000 is.start.box is.fits is.start.v.low count Hits sets first b i) (first_few course count Hits sets first b i) (first_small sets b first i))

    next_fits : (i : ℕ) (before sets : List SetValue) → i ≤ 100 → IsNextList course i before (count i) (Hits i) sets → length sets < 2 ^ 64 → IsReport (step_lines i [] sets)
    next_fits i before sets h next short = step_fits i sets h short (λ b j. set_fits i b h
        (next_in_box course i before (count i) (Hits i) sets is.some next b j) (next_few course i before (count i) (Hits i) sets (box_small i h) is.some next b j) (small b j))
      where
        small : (b : SetValue) → Includes sets b → IsSmallCell b
        small b j =
            let (c, k, e) = in_map (λ (c : ℤ × SetValue). c.1) next.cuts b (subst (λ (z : List SetValue). Includes z b) next.sets_are j) in
            cell_small i b h (subst (λ (x : SetValue). IsCellIn course i x.col x.row) (sym e) (cut_in course i before (count i) (Hits i) c (positive course.w is.wide) (positive course.g is.high) (next.each c k)))

    module _ (recorded : ℕ → List Disc) (n : ℕ) (discs : DiscsFit recorded n) (most : n ≤ 100) where
      follow_fit : (i : ℕ) (sets : List SetValue) (later : List (List SetValue)) → FollowSoFar course count Hits n i sets later → AreShort later → IsReport (lines_from recorded (i + 1) later)
      follow_fit i sets [] f short = tt
      follow_fit i [] (next ∷ later) f short = absurd f
      follow_fit i (b ∷ sets) (next ∷ later) f short =
          let less = f.0 in
          let same : suc i ≡ i + 1 = omega arith in
          all_append FitsLine (step_lines (i + 1) (recorded (i + 1)) next) (lines_from recorded (i + 1 + 1) later)
          (with_discs (i + 1) (recorded (i + 1)) next (λ d j. discs (i + 1) d (omega (arith, less)) j) (subst (λ (k : ℕ). IsReport (step_lines k [] next)) same (next_fits (suc i) (b ∷ sets) next (omega (arith, less, most)) f.1 short.0)))
          (subst (λ (k : ℕ). IsReport (lines_from recorded (k + 1) later)) same (follow_fit (suc i) next later f.2 short.1))

      pub so_far_fit : (lists : List (List SetValue)) → AreListsSoFar course count Hits n lists → AreShort lists → IsReport (lines_from recorded 0 lists)
      so_far_fit [] are short = absurd are
      so_far_fit (first ∷ later) are short =
          all_append FitsLine (step_lines 0 (recorded 0) first) (lines_from recorded (0 + 1) later) (with_discs 0 (recorded 0) first (λ d j. discs 0 d (omega arith) j) (first_fits first are.0 short.0)) (follow_fit 0 first later are.1 short.1)

    -- all lists are lists so far
    follow_so_far : (n i : ℕ) (sets : List SetValue) (later : List (List SetValue)) (end : End) → Follow course count Hits n i sets later end → FollowSoFar course count Hits n i sets later
    follow_so_far n i sets [] end f = tt
    follow_so_far n i [] (next ∷ later) end f = let none = f.0 in cc
    follow_so_far n i (b ∷ sets) (next ∷ later) end f = (f.0, f.1, follow_so_far n (suc i) next later end f.2)

    pub lists_so_far : (n : ℕ) (lists : List (List SetValue)) (end : End) → AreStepLists course count Hits n lists end → AreListsSoFar course count Hits n lists
    lists_so_far n [] end are = absurd are
    lists_so_far n (first ∷ later) end are = (are.0, follow_so_far n 0 first later end are.1)
