-- Each motion of the ego is in the outer box of each step.
use Rattle.std.proofs.Common.{◌≡◌, ℕ, ◌*◌, arith, ℤ, pos, negsuc, neg_ℤ, ◌+ℤ◌, ◌*ℤ◌, ◌≤ℤ◌, List, Some}
use Rattle.std.specs.Prelude.{slice_get}
use Rattle.std.proofs.lemmas.Int.{ints}
use Rattle.spot_terms.specs.BaseSets.{InRect}
use Rattle.spot_terms.specs.Courses.{Course, IsMotionOf, box_at, outer_box, start_of}
use Rattle.spot_terms.specs.Motions.{State}
use Rattle.spot_terms.specs.Reach.{minus_one}
use Rattle.base_sets.proofs.Axes.{axis_reach, west, east, south, north}

pub stays_in_box : (course : Course) (i : ℕ) (states : List State) (t : State) → IsMotionOf course states → slice_get states (i * course.k) ≡ Some t → InRect (box_at course i) t.p
unfolding outer_box
stays_in_box course i states t motion e = record {
  x = record {
    low = low_x _ t.p.x t.p.y (axis_reach (start_of course) (minus_one, pos 0) (i * course.k) states t west motion e);
    high = high_x _ t.p.x t.p.y (axis_reach (start_of course) (pos 1, pos 0) (i * course.k) states t east motion e);
  };
  y = record {
    low = low_y _ t.p.x t.p.y (axis_reach (start_of course) (pos 0, minus_one) (i * course.k) states t south motion e);
    high = high_y _ t.p.x t.p.y (axis_reach (start_of course) (pos 0, pos 1) (i * course.k) states t north motion e);
  };
}
  where
    low_x : (r x y : ℤ) → (negsuc 0 *ℤ x +ℤ pos 0 *ℤ y) ≤ℤ r → neg_ℤ r ≤ℤ x
    low_x r x y h = omega (arith, ints)

    high_x : (r x y : ℤ) → (pos 1 *ℤ x +ℤ pos 0 *ℤ y) ≤ℤ r → x ≤ℤ r
    high_x r x y h = omega (arith, ints)

    low_y : (r x y : ℤ) → (pos 0 *ℤ x +ℤ negsuc 0 *ℤ y) ≤ℤ r → neg_ℤ r ≤ℤ y
    low_y r x y h = omega (arith, ints)

    high_y : (r x y : ℤ) → (pos 0 *ℤ x +ℤ pos 1 *ℤ y) ≤ℤ r → y ≤ℤ r
    high_y r x y h = omega (arith, ints)
