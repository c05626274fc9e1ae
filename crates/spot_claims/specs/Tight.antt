-- What a report's lines are beside what they claim: nothing in them is wider than it has to be.
use Rattle.std.specs.Prelude.{◌≡◌, ℕ, List, ◌++◌, Some}
use Rattle.spot_terms.specs.Report.{Line}
use Rattle.spot_terms.specs.Statuses.{IsDone}
use Rattle.spot_terms.specs.TwoSided.{AreTwoSided}
use Rattle.spot_terms.specs.declared.command.Command.{Command}
use Rattle.spot_terms.specs.declared.command.Task.{Task}
use Rattle.spot_terms.specs.declared.command.Task.TheVariants.{Predict, Area, Replay}
use Rattle.spot_terms.specs.declared.lines.End.{End}
use Rattle.spot_terms.specs.declared.scenario.Scenario.{Scenario}
use Rattle.spot_claims.specs.AreaOf.{IsAreaReport, IsReplayReport}
use Rattle.spot_claims.specs.Outputs.{IsReportText}
use Rattle.spot_claims.specs.Problems.{course_of}
use Rattle.spot_claims.specs.ReportOf.{IsPredictReport}
use Rattle.spot_claims.specs.Runs.{Run}
use Rattle.spot_claims.specs.Scenario.{IsScenarioOf}
use Rattle.spot_claims.specs.Stages.{IsInput, IsTold}

-- the occupancies are exactly the defined ones, and so are the steps' lists, none of whose sets is padded
pub record IsTightArea (s : Scenario) (c : Command) (lines : List Line) : Type 0 where
  pub end : End
  pub report : IsAreaReport s c lines end
  pub two_sided : AreTwoSided (course_of s c report.problem) report.pieces report.lists

-- the same where traffic is recorded
pub record IsTightReplay (s : Scenario) (c : Command) (lines : List Line) : Type 0 where
  pub end : End
  pub report : IsReplayReport s c lines end
  pub two_sided : AreTwoSided (course_of s c report.problem) report.pieces report.lists

-- of a text, by the task: a drawing and a sample's summary have no lines
abbrev pub IsTightOf : Task → Scenario → Command → List ℕ → Type 0
IsTightOf Predict s c text = IsReportText (IsPredictReport s c) text
IsTightOf Area s c text = IsReportText (IsTightArea s c) text
IsTightOf Replay s c text = IsReportText (IsTightReplay s c) text
IsTightOf task s c text = Unit {0}

-- what a run appended to the old bytes is tight
pub record WritesTightly (run : Run) (old new : List ℕ) : Type 0 where
  pub command : Command
  pub stands : run.Stands command
  pub bytes : List ℕ
  pub input : IsInput command run.told bytes
  pub scenario : Scenario
  pub scenario_is : IsScenarioOf bytes scenario
  pub text : List ℕ
  pub appended : new ≡ old ++ text
  pub tight : IsTightOf command.task scenario command text

-- where the source tells its bytes, if it is read, the sink what had been written, and the run is done
abbrev pub IsTight : Run → Type 0
IsTight run = (c : Command) (old : List ℕ) → run.Stands c → IsTold c run.told → run.before ≡ Some old → IsDone run.status
    → (new : List ℕ) × (run.after ≡ Some new) × WritesTightly run old new
