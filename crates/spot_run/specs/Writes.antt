-- What writing the report of a prediction asks of the sink, and what it answers.
use Rattle.std.specs.Prelude.{◌≡◌, ℕ, ◌<◌, ◌≤◌, List, Some, length, Option}
use Rattle.spot_terms.specs.declared.limits.TheConstants.{MOST_CELLS, MOST_LANE_POLYGONS}
use Rattle.std.specs.Io.KnownBytes.{Appends}
use Rattle.std.specs.List.{AllByRecursion}
use Rattle.spot_terms.specs.Causes.{AppendsFront}
use Rattle.spot_terms.specs.Cells.{cells}
use Rattle.spot_terms.specs.Limits.{HasNetwork, IsFirstWide}
use Rattle.spot_terms.specs.Participants.{HasPairs}
use Rattle.spot_terms.specs.Report.{report_text}
use Rattle.spot_terms.specs.declared.scenario.Scenario.{Scenario}
use Rattle.spot_terms.specs.declared.status.Status.{Status}
use Rattle.spot_terms.specs.declared.status.Status.TheVariants.{Open, Limit, WriteFault, Memory}
use Rattle.spot_terms.specs.declared.status.Which.TheVariants.{TooManyCells, LaneTooWide, TooManyLanePolygons}
use Rattle.participants.specs.Pieces.{HasPieces}
use Rattle.participants.specs.Predictions.{HoldsMotions, Occupancies, IsPrediction}
use Rattle.spot_run.specs.Lines.{prediction_lines}

abbrev pub report_of : Scenario → ℕ → Occupancies → List ℕ
report_of s steps o = report_text (prediction_lines s.step steps s.movers o)

-- the prediction of a scenario within the limits, whose lane polygons hold what they should
pub record IsPredicted (s : Scenario) (steps : ℕ) (o : Occupancies) : Type 0 where
  pub network : HasNetwork s.lanelets.entries
  pub pairs : (n : ℕ) → HasPairs s steps n → n ≤ MOST_LANE_POLYGONS
  pub is : IsPrediction s steps o
  pub pieces : HasPieces s steps o
  pub holds : AllByRecursion (λ p. HoldsMotions s.lanelets.entries s.step steps p) o.participants

-- why a scenario has no prediction: the limit that it passes; want of memory may come at any time
abbrev pub IsPastLimit : Scenario → ℕ → Status → Type 0
IsPastLimit s steps (Limit TooManyCells step count) = (step ≡ 0) × (count ≡ length (cells s.lanelets.entries)) × (MOST_CELLS < count)
IsPastLimit s steps (Limit LaneTooWide step id) = (step ≡ 0) × (length (cells s.lanelets.entries) ≤ MOST_CELLS) × IsFirstWide s.lanelets.entries (Some id)
IsPastLimit s steps (Limit TooManyLanePolygons step count) = (step ≡ 0) × HasNetwork s.lanelets.entries × HasPairs s steps count × (MOST_LANE_POLYGONS < count)
IsPastLimit s steps Memory = Unit {0}
IsPastLimit s steps status = ⊥

-- the report of the scenario can be taken
abbrev pub TakesPrediction : Scenario → ℕ → (ℕ → Type 0) → Type 0
TakesPrediction s steps Takes = (o : Occupancies) → IsPredicted s steps o → Takes (length (report_of s steps o))

-- the whole report was appended, or at a write fault a front of it, or there is no prediction
abbrev pub WritesPrediction : Scenario → ℕ → Option (List ℕ) → Option (List ℕ) → Status → Type 0
WritesPrediction s steps before after Open = (o : Occupancies) × IsPredicted s steps o × Appends before after (report_of s steps o)
WritesPrediction s steps before after WriteFault = (o : Occupancies) × IsPredicted s steps o × AppendsFront before after (report_of s steps o)
WritesPrediction s steps before after status = IsPastLimit s steps status
