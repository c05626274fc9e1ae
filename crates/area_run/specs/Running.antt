-- Where a run stands.
use Rattle.std.specs.Prelude.{◌≡◌, ℕ, ◌+◌, ◌≤◌, ℤ, List, [], ◌∷◌}
use Rattle.spot_terms.specs.declared.limits.TheConstants.{MOST_STEPS}
use Rattle.spot_terms.specs.Avoidance.{HoldsOrStrikes}
use Rattle.spot_terms.specs.BaseSets.{SetValue}
use Rattle.spot_terms.specs.Courses.{Course, box_at, cells_at, slots_met}
use Rattle.spot_terms.specs.Lists.{Includes}
use Rattle.spot_terms.specs.RowBoxes.{row_boxes}
use Rattle.spot_terms.specs.StepLists.{IsFirstList, IsStepList}
use Rattle.spot_terms.specs.declared.plain.Pt.{Pt}
use Rattle.area_laws.specs.Reaching.{IsStepSet}
use Rattle.area_run.specs.Plans.{IsPlan, course_of}
use Rattle.area_run.specs.declared.plan.Plan.{Plan}
use Rattle.area_run.specs.declared.run.Verdict.{Verdict}
use Rattle.area_run.specs.declared.run.Verdict.TheVariants.{Open, Empty}

-- the pieces, what the run was given, how many steps it may have, at which step it stands, and the sets of this step
pub record Stand (O : Type 0) : Type 0 where
  pub o : O
  pub plan : Plan
  pub steps : ℕ
  pub at : ℕ
  pub sets : List SetValue

-- there is room for the cells of a step, for the rows and the spans of all rows, for the runs of a row, for the rows and the
-- runs of all rows, for the sets, and for a strip of all rows
pub record AreRooms (course : Course) (count : ℕ) (boxes : ℕ) (i cells heads taken runs rows free sets next strip : ℕ) : Type 0 where
  pub cells_fit : cells_at course i ≤ cells
  pub heads_fit : slots_met course.g (box_at course i).ylo (box_at course i).yhi ≤ heads
  pub taken_fit : boxes ≤ taken
  pub runs_fit : slots_met course.w (box_at course i).xlo (box_at course i).xhi + count ≤ runs
  pub rows_fit : slots_met course.g (box_at course i).ylo (box_at course i).yhi ≤ rows
  pub free_fit : boxes ≤ free
  pub sets_fit : boxes ≤ sets
  pub next_fit : boxes ≤ next
  pub strip_fit : slots_met course.g (box_at course i).ylo (box_at course i).yhi ≤ strip

-- over the pieces of each step, and the ranges of their y
module _ (plan : Plan) (last far : ℕ) (count : ℕ → ℕ) (Hits : ℕ → ℕ → Pt → Type 0) (range : ℕ → ℕ → ℤ × ℤ) where
  -- a run whose pieces may be asked for, and which has room for each of its steps
  pub record CanRun (steps cells heads taken runs rows free sets next strip : ℕ) : Type 0 where
    pub plan_is : IsPlan plan
    pub few : steps ≤ MOST_STEPS
    pub asked : steps ≤ last
    pub reach : 35_000_000_000_000 ≤ far
    pub rooms : (i : ℕ) → i ≤ steps → AreRooms (course_of plan) (count i) (row_boxes (course_of plan) count range i) i cells heads taken runs rows free sets next strip

  -- it stands at a step: the sets are its list, each motion that goes on to it is held by one of them, or was at a piece by
  -- then, and a step can be made from each of them
  pub record StandsAt (steps at : ℕ) (list : List SetValue) : Type 0 where
    pub within : at ≤ steps
    pub is_list : IsStepList (course_of plan) count Hits at list
    pub holds : HoldsOrStrikes (course_of plan) count Hits at list
    pub ready : (b : SetValue) → Includes list b → IsStepSet b

-- a run that was just opened over these pieces: it stands at step 0 with its list
pub record IsOpened {O : Type 0} (o : O) (plan : Plan) (steps : ℕ) (count : ℕ → ℕ) (Hits : ℕ → ℕ → Pt → Type 0) (r : Stand O) : Type 0 where
  pub pieces : r.o ≡ o
  pub plan_is : r.plan ≡ plan
  pub steps_are : r.steps ≡ steps
  pub at_first : r.at ≡ 0
  pub first : IsFirstList (course_of plan) count Hits r.sets

-- empty where the step has no set, and else open
abbrev pub IsVerdict : ℕ → List SetValue → Verdict → Type 0
IsVerdict at [] verdict = verdict ≡ Empty at
IsVerdict at (b ∷ sets) verdict = verdict ≡ Open
