-- What making a sample and writing its summary asks of the sink, and what it answers.
use Rattle.std.specs.Prelude.{◌≡◌, ◌⊎◌, ℕ, List, length, Option}
use Rattle.spot_terms.specs.RowBoxes.{IsWithinArea}
use Rattle.spot_terms.specs.Samples.{sample_text}
use Rattle.spot_terms.specs.Summaries.{summary_text}
use Rattle.spot_terms.specs.declared.command.Command.{Command}
use Rattle.spot_terms.specs.declared.scenario.Scenario.{Scenario}
use Rattle.spot_terms.specs.declared.status.Status.{Status}
use Rattle.spot_terms.specs.declared.status.Status.TheVariants.{Memory}
use Rattle.spot_claims.specs.AreaOf.{IsSummary}
use Rattle.spot_claims.specs.Outcomes.{PassesAll}
use Rattle.spot_claims.specs.Outputs.{IsWritten}
use Rattle.spot_claims.specs.Scenario.{IsScenarioOf}
use Rattle.area_report.specs.Totals.{IsTotal}
use Rattle.area_report.specs.declared.total.Total.{Total}
use Rattle.base_sets.specs.Values.{course_with}
use Rattle.participants.specs.Predictions.{Occupancies}
use Rattle.text_report.specs.Summaries.{value_of}
use Rattle.text_report.specs.declared.ego_line.EgoLine.{EgoLine}
use Rattle.text_report.specs.declared.summary.Summary.{Summary}
use Rattle.spot_run.specs.Areas.{count_at, hits_at, range_at}
use Rattle.spot_run.specs.Tells.{HasSomePieces, TakesFor, Tells}

-- the bytes of a sample's text
abbrev pub text_of : Command → List ℕ
text_of c = sample_text c.seed c.lanes c.movers

-- the scenario is that of the made text
abbrev pub IsMade : Command → Scenario → Type 0
IsMade c s = IsScenarioOf (text_of c) s

-- the sets of a run of the ego that avoids a prediction, which is within the limits
pub record IsTotalOver (s : Scenario) (steps : ℕ) (e : EgoLine) (o : Occupancies) (total : Total) : Type 0 where
  pub total_is : IsTotal (course_with e.s e.e e.grid s.step) (count_at o) (hits_at o) steps total
  pub within : IsWithinArea (course_with e.s e.e e.grid s.step) (count_at o) (range_at o) steps

-- the summary is that of the command and of a scenario whose text has so many bytes, and all stages are passed
pub record IsSummed (s : Scenario) (c : Command) (bytes : ℕ) (summary : Summary) : Type 0 where
  pub passes : PassesAll s c
  pub pieces : HasSomePieces s c
  pub is : IsSummary s c bytes (summary_text (value_of summary)) summary.end

-- the status says why there is no output
pub record IsStopped (s : Scenario) (c : Command) (status : Status) : Type 0 where
  pub tells : (before after : Option (List ℕ)) → Tells s c before after status
  pub unwritten : IsWritten status → ⊥

-- the output of the scenario that is made can be taken
abbrev pub TakesSample : Command → (ℕ → Type 0) → Type 0
TakesSample c Takes = (s : Scenario) → IsMade c s → TakesFor s c Takes

-- what was written of the scenario that is made, or why nothing was; memory may be wanted before there is one
abbrev pub TellsSample : Command → Option (List ℕ) → Option (List ℕ) → Status → Type 0
TellsSample c before after status = (status ≡ Memory) ⊎ ((s : Scenario) × IsMade c s × Tells s c before after status)
