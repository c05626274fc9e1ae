-- The strip of sets with one polygon along x.
use Rattle.std.specs.Prelude.{◌≡◌, ◌⊎◌, ℕ, ◌+◌, ◌<◌, ◌≤◌, List, [], ◌∷◌, ◌++◌, length, Option, Some, None, option_map, slice_get, IfSome, ℤ, pos, ◌+ℤ◌, ◌≤ℤ◌, ◌<ℤ◌}
use Rattle.spot_terms.specs.BaseSets.{SetValue, least_place, greatest_place}
use Rattle.spot_terms.specs.Courses.{Course, box_at, slots_met}
use Rattle.spot_terms.specs.Grid.{slot}
use Rattle.spot_terms.specs.Hull.{IsCornerList}
use Rattle.spot_terms.specs.Lists.{Includes}
use Rattle.spot_terms.specs.declared.plain.Pt.{Pt}
use Rattle.round_out.specs.declared.frames.FrameNumbers.{FrameNumbers}
use Rattle.base_sets.specs.Values.{rect_of_box}
use Rattle.base_sets.specs.declared.grid.OuterBox.{OuterBox}
use Rattle.base_sets.specs.declared.sets.BaseSet.{BaseSet}
use Rattle.propagate.specs.Children.{HoldsPlane, IsChildIn, IsPlaneChild}
use Rattle.merge_sets.specs.Cells.{AreRows}
use Rattle.merge_sets.specs.Strips.{AreSoundRows}
use Rattle.merge_sets.specs.Tables.{Table}
use Rattle.area_laws.specs.Filling.{IsFilledFrom}
use Rattle.area_laws.specs.Groups.{AreRowNumbers, IsGroupOf}
use Rattle.area_run.specs.Plans.{course_of}
use Rattle.area_run.specs.declared.children.ChildParts.{ChildParts}
use Rattle.area_run.specs.declared.children.Kept.{Kept}
use Rattle.area_run.specs.declared.plan.Plan.{Plan}

-- the child of a polygon in a plane whose box has the places from lo to hi, or none; it holds what a step leads to
pub record IsChildAlong (course : Course) (lo hi : ℤ) (corners : List Pt) (child : Option (List Pt)) : Type 0 where
  pub is : IsPlaneChild course lo hi corners child
  pub holds : HoldsPlane course lo hi corners child

-- with a child, where there is one
abbrev pub with_child : Option (List Pt) → List (List Pt) → List (List Pt)
with_child None ys = ys
with_child (Some y) ys = y ∷ ys

-- the child of this polygon is kept
abbrev pub HasPolygon : List Pt → Option Kept → Type 0
HasPolygon corners None = ⊥
HasPolygon corners (Some k) = k.of ≡ corners

-- all sets have one polygon along x
abbrev pub AreAlike : List BaseSet → Type 0
AreAlike sets = (s t : BaseSet) → Includes sets s → Includes sets t → s.x ≡ t.x

module _ (plan : Plan) (b : OuterBox) where
  -- the first row of the box
  abbrev pub first_row : ℤ
  first_row = slot plan.grid.g b.ylo

  -- how many rows the box has
  abbrev pub row_count : ℕ
  row_count = slots_met plan.grid.g b.ylo b.yhi

  -- there is an item for each row; only those from `from` to below `to` have numbers, and these make frames
  pub record FitsBox (rows : List (Option FrameNumbers)) (from to : ℕ) : Type 0 where
    pub room : row_count ≤ length rows
    pub order : from ≤ to
    pub within : to ≤ row_count
    pub quiet : (j : ℕ) (r : Option FrameNumbers) → (j < from) ⊎ (to ≤ j) → slice_get rows j ≡ Some r → r ≡ None
    pub sound : AreSoundRows plan.k rows

  -- the rows of the box have the greatest numbers of the parts of the ys, which have none in other rows
  pub record IsStripOf (ys : List (List Pt)) (rows : List (Option FrameNumbers)) : Type 0 where
    pub here : (j : ℕ) (r : Option FrameNumbers) → j < row_count → slice_get rows j ≡ Some r → AreRowNumbers plan.grid.g plan.k (first_row +ℤ pos j) ys (option_map (λ f. f.n) r)
    pub there : (row : ℤ) → (row <ℤ first_row) ⊎ ((first_row +ℤ pos row_count) ≤ℤ row) → AreRowNumbers plan.grid.g plan.k row ys None

  -- a child along y in the box: the rows that it meets, and the numbers of its parts in the first of them
  pub record ArePartsIn (c : ChildParts) : Type 0 where
    pub child : IsChildIn b.ylo b.yhi plan.e.v c.y
    pub convex : IsCornerList c.y
    pub first_is : c.first ≡ slot plan.grid.g (least_place c.y)
    pub count_is : c.count ≡ slots_met plan.grid.g (least_place c.y) (greatest_place c.y)
    pub few : c.few ≤ 8
    pub enough : length c.known ≡ 8
    pub known_are : AreRows c.few plan.grid.g c.first plan.k c.y c.known

  -- the child of a polygon along y, or none
  pub record IsChildOf (corners : List Pt) (child : Option ChildParts) : Type 0 where
    pub along : IsChildAlong (course_of plan) b.ylo b.yhi corners (option_map (λ c. c.y) child)
    pub parts : IfSome child ArePartsIn

  -- what is kept is the child of this polygon
  pub record IsKeptOf (corners : List Pt) (kept : Option Kept) : Type 0 where
    pub entry : Kept
    pub is : kept ≡ Some entry
    pub of_it : entry.of ≡ corners
    pub child_is : IsChildOf corners entry.child

  -- each child that is kept is that of its polygon
  abbrev pub AreKept : List (Option Kept) → Type 0
  AreKept kept = (i : ℕ) (k : Kept) → slice_get kept i ≡ Some (Some k) → IsChildOf k.of k.child

  -- no row has numbers
  pub record IsEmptyStrip (rows : List (Option FrameNumbers)) (from to : ℕ) : Type 0 where
    pub fits : FitsBox rows from to
    pub none : IsStripOf [] rows

  -- a polygon's child along y, where there is one, came to the strip
  pub record JoinsChild (corners : List Pt) (old new : List (Option FrameNumbers)) : Type 0 where
    pub child : Option (List Pt)
    pub is : IsChildAlong (course_of plan) b.ylo b.yhi corners child
    pub joined : (ys : List (List Pt)) → IsStripOf ys old → IsStripOf (with_child child ys) new

  -- the ys are the children along y of the sets: with any child that all of them have along x they are a group
  abbrev pub AreAlongY : List SetValue → List (List Pt) → Type 0
  AreAlongY sets ys = (i : ℕ) (x : List Pt) → rect_of_box b ≡ box_at (course_of plan) i
      → ((s : SetValue) → Includes sets s → IsChildAlong (course_of plan) b.xlo b.xhi s.x (Some x)) → IsGroupOf (course_of plan) i x sets ys

  -- a table that was filled from some sets is filled from these sets too
  abbrev pub FillsWith : List SetValue → Table → Table → Type 0
  FillsWith sets old new = (i : ℕ) (before : List SetValue) → rect_of_box b ≡ box_at (course_of plan) i → IsFilledFrom (course_of plan) i before old → IsFilledFrom (course_of plan) i (before ++ sets) new
