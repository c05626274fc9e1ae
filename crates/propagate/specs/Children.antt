-- What a step makes of the two polygons of a base set.
use Rattle.std.specs.Prelude.{ℕ, ℤ, neg_ℤ, ◌≤◌, ◌⊎◌, ◌++◌, List, length, Option, Some, None, IsSomeAnd, nat_abs}
use Rattle.std.specs.List.{AllByRecursion}
use Rattle.spot_terms.specs.BaseSets.{SetValue, Rect, HoldsState, InRect}
use Rattle.spot_terms.specs.ChildNumbers.{child_numbers}
use Rattle.spot_terms.specs.ClippedTo.{places, speeds, IsClippedAway}
use Rattle.spot_terms.specs.Courses.{Course}
use Rattle.spot_terms.specs.EgoMotions.{EgoSpeedAtMost}
use Rattle.spot_terms.specs.Frames.{at}
use Rattle.spot_terms.specs.Hull.{InHull}
use Rattle.spot_terms.specs.Motions.{State}
use Rattle.spot_terms.specs.StepLists.{IsFrameOf, IsChild}
use Rattle.spot_terms.specs.Whole.{Within, SizeAtMost}
use Rattle.spot_terms.specs.declared.plain.Pt.{Pt}
use Rattle.base_sets.specs.Passes.{Passes}

-- what the ticks of a step lead to from each state of the polygon is in the frame
abbrev pub HoldsFrame : ℕ → ℕ → List Pt → List Pt → Type 0
HoldsFrame a k corners frame = (p v q w : ℤ) → InHull corners (at p v) → Passes a k p v q w → InHull frame (at q w)

module _ (course : Course) where
  -- a clip of the frame of the child numbers leaves nothing
  abbrev pub HasNoChild : ℤ → ℤ → List Pt → Type 0
  HasNoChild lo hi corners = (frame : List Pt) × IsFrameOf course.k (child_numbers course.a course.k corners) frame × IsClippedAway (speeds course.v ++ places lo hi) frame

  -- the child in a plane whose box has the places from lo to hi, or none
  abbrev pub IsPlaneChild : ℤ → ℤ → List Pt → Option (List Pt) → Type 0
  IsPlaneChild lo hi corners None = HasNoChild lo hi corners
  IsPlaneChild lo hi corners (Some child) = IsChild course lo hi corners child

  -- the children of both polygons of a set, or none
  abbrev pub AreChildren : Rect → SetValue → Option (List Pt × List Pt) → Type 0
  AreChildren o b None = HasNoChild o.xlo o.xhi b.x ⊎ HasNoChild o.ylo o.yhi b.y
  AreChildren o b (Some children) = IsChild course o.xlo o.xhi b.x children.0 × IsChild course o.ylo o.yhi b.y children.1

  -- what a step leads to from a state of the polygon, where it is slow and at the places from lo to hi, is in the child
  abbrev pub HoldsPlane : ℤ → ℤ → List Pt → Option (List Pt) → Type 0
  HoldsPlane lo hi corners child = (p v q w : ℤ) → InHull corners (at p v) → Passes (nat_abs course.a) course.k p v q w → Within (neg_ℤ course.v) course.v w → Within lo hi q → IsSomeAnd child (λ c. InHull c (at q w))

  -- a step leads from the one state to the other, along x and along y
  pub record IsNext (s t : State) : Type 0 where
    pub x : Passes (nat_abs course.a) course.k s.p.x s.v.x t.p.x t.v.x
    pub y : Passes (nat_abs course.a) course.k s.p.y s.v.y t.p.y t.v.y
    pub slow : EgoSpeedAtMost course.v t

  -- each next state of a state of the set, where it is in the box, is in the children
  abbrev pub HoldsNext : Rect → SetValue → Option (List Pt × List Pt) → Type 0
  HoldsNext o b children = (s t : State) → HoldsState b s → IsNext s t → InRect o t.p → IsSomeAnd children (λ c. InHull c.0 (at t.p.x t.v.x) × InHull c.1 (at t.p.y t.v.y))

-- ---- ranges

-- a corner of a polygon from which a step is made: a place of at most 3·10^13 and a speed of at most 900,000 in size
pub record IsStepPoint (p : Pt) : Type 0 where
  pub x : SizeAtMost 30_000_000_000_000 p.x
  pub y : SizeAtMost 900_000 p.y

-- a place from lo to hi, and a speed of at most v in size
pub record IsInPlane (lo hi v : ℤ) (c : Pt) : Type 0 where
  pub place : Within lo hi c.x
  pub speed : Within (neg_ℤ v) v c.y

-- a child: at most 16 corners, in the box and slow
pub record IsChildIn (lo hi v : ℤ) (child : List Pt) : Type 0 where
  pub few : length child ≤ 16
  pub within : AllByRecursion (IsInPlane lo hi v) child
