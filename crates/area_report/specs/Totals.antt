-- The sets of all steps of a run.
use Rattle.std.specs.Prelude.{◌≡◌, ℕ, List, length, sum_by}
use Rattle.spot_terms.specs.BaseSets.{SetValue}
use Rattle.spot_terms.specs.Courses.{Course}
use Rattle.spot_terms.specs.StepLists.{AreStepLists}
use Rattle.spot_terms.specs.declared.plain.Pt.{Pt}
use Rattle.area_report.specs.declared.total.Total.{Total}

-- the lists of the steps that are made have so many sets together, and the run ends so
pub record IsTotal (course : Course) (count : ℕ → ℕ) (Hits : ℕ → ℕ → Pt → Type 0) (n : ℕ) (total : Total) : Type 0 where
  pub lists : List (List SetValue)
  pub lists_are : AreStepLists course count Hits n lists total.end
  pub sets_are : total.sets ≡ sum_by length lists
