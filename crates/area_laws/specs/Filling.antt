-- A table of cells into which the children of the sets of a step came.
use Rattle.std.specs.Prelude.{◌≡◌, ℕ, ℤ, List, Some}
use Rattle.spot_terms.specs.BaseSets.{SetValue, HoldsState}
use Rattle.spot_terms.specs.Courses.{Course, box_at}
use Rattle.spot_terms.specs.Frames.{at}
use Rattle.spot_terms.specs.Hull.{InHull}
use Rattle.spot_terms.specs.Lists.{Includes}
use Rattle.spot_terms.specs.Motions.{State}
use Rattle.spot_terms.specs.declared.plain.Pt.{Pt}
use Rattle.base_sets.specs.Values.{rect_of_box}
use Rattle.base_sets.specs.declared.grid.Grid.{Grid}
use Rattle.base_sets.specs.declared.grid.OuterBox.{OuterBox}
use Rattle.propagate.specs.Children.{AreChildren}
use Rattle.merge_sets.specs.Merging.{CollectsAll}
use Rattle.merge_sets.specs.Tables.{HoldsInCell, PartsHold, Table}
use Rattle.area_laws.specs.Leading.{IsNextState}

-- a polygon in the plane of x and one in that of y
abbrev pub Pair : Type 0
Pair = List Pt × List Pt

-- one of the pairs holds the state
abbrev pub IsHeldByPairs : List Pair → State → Type 0
IsHeldByPairs pairs t = (p : Pair) × Includes pairs p × InHull p.0 (at t.p.x t.v.x) × InHull p.1 (at t.p.y t.v.y)

-- a table that was begun for a step of the course: its box is the outer box of step i
pub record IsTableFor (course : Course) (i : ℕ) (o : OuterBox) (grid : Grid) (t : Table) : Type 0 where
  pub step : t.step ≡ Some (o, grid, course.k)
  pub box : rect_of_box o ≡ box_at course i
  pub w : grid.w ≡ course.w
  pub g : grid.g ≡ course.g

module _ (course : Course) (i : ℕ) (before : List SetValue) where
  -- exactly the children of these sets, and each next state of a state of a set is in one of them
  pub record ArePairsOf (pairs : List Pair) : Type 0 where
    pub each : (p : Pair) → Includes pairs p → (b : SetValue) × Includes before b × AreChildren course (box_at course i) b (Some p)
    pub all : (b : SetValue) (p : Pair) → Includes before b → AreChildren course (box_at course i) b (Some p) → Includes pairs p
    pub hold : (b : SetValue) (s t : State) → Includes before b → HoldsState b s → IsNextState course i s t → IsHeldByPairs pairs t

  -- The children of these sets came into the table, and nothing else: each cell has the greatest numbers of their parts there,
  -- and the parts hold each state of the children.
  pub record IsFilledFrom (t : Table) : Type 0 where
    pub o : OuterBox
    pub grid : Grid
    pub begun : IsTableFor course i o grid t
    pub pairs : List Pair
    pub are_pairs : ArePairsOf pairs
    pub collects : CollectsAll t grid course.k pairs
    pub leave : (p : Pair) (col row : ℤ) (s : State) → Includes pairs p → HoldsInCell grid.w grid.g col row p.0 p.1 s
        → PartsHold grid.w grid.g course.k col row p.0 p.1 s
