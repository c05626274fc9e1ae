-- What a run is given, and its course.
use Rattle.std.specs.Prelude.{ℕ}
use Rattle.spot_terms.specs.Courses.{Course}
use Rattle.spot_terms.specs.EgoMotions.{FitsBound}
use Rattle.base_sets.specs.Values.{AreBounds, AreTicks, IsEgoStart, IsGrid, course_with}
use Rattle.base_sets.specs.declared.ego.EgoBounds.{EgoBounds}
use Rattle.base_sets.specs.declared.ego.EgoStart.{EgoStart}
use Rattle.base_sets.specs.declared.grid.Grid.{Grid}
use Rattle.area_run.specs.declared.plan.Plan.{Plan}

abbrev pub plan_with : EgoStart → EgoBounds → Grid → ℕ → Plan
plan_with s e grid k = record { s = s; e = e; grid = grid; k = k }

abbrev pub course_of : Plan → Course
course_of p = course_with p.s p.e p.grid p.k

-- the start, the bounds, the grid and the ticks are in their ranges, and no start speed is above the bound
pub record IsPlan (p : Plan) : Type 0 where
  pub start : IsEgoStart p.s
  pub bounds : AreBounds p.e
  pub grid : IsGrid p.grid
  pub ticks : AreTicks p.k
  pub fits : FitsBound p.s.b p.e.v
