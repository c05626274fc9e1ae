-- What writing the output of a scenario asks of the sink, and what it answers.
use Rattle.std.specs.Prelude.{◌≡◌, ℕ, List, ◌++◌, length, Option}
use Rattle.std.specs.Io.KnownBytes.{Appends}
use Rattle.spot_terms.specs.Pieces.{Piece}
use Rattle.spot_terms.specs.Report.{Line, report_text}
use Rattle.spot_terms.specs.Statuses.{IsDone}
use Rattle.spot_terms.specs.Tasks.{FindsArea}
use Rattle.spot_terms.specs.declared.command.Command.{Command}
use Rattle.spot_terms.specs.declared.command.Task.{Task}
use Rattle.spot_terms.specs.declared.command.Task.TheVariants.{Draw, Sample}
use Rattle.spot_terms.specs.declared.scenario.Scenario.{Scenario}
use Rattle.spot_terms.specs.declared.status.Code.TheVariants.{NoProblem, LateProblem, EgoTooFast}
use Rattle.spot_terms.specs.declared.status.Status.{Status}
use Rattle.spot_terms.specs.declared.status.Status.TheVariants.{Open, Empty, Refused, Limit, WriteFault, Memory}
use Rattle.spot_terms.specs.declared.status.Which.TheVariants.{TooManyCells, LaneTooWide, TooManyLanePolygons, AreaTooWide, TooManyBoxes}
use Rattle.spot_claims.specs.Answers.{HasNoProblem, HasLateProblem, HasFastProblem, HasManyCells, HasWideLane, HasManyPairs, HasWideArea, HasManyBoxes}
use Rattle.spot_claims.specs.AreaOf.{ArePieces}
use Rattle.spot_claims.specs.Headline.{Claims}
use Rattle.spot_claims.specs.Outcomes.{PassesAll}
use Rattle.spot_claims.specs.Outputs.{IsOutputSoFar, IsWhole}

-- the output and its beginnings can be taken, where there is an output
abbrev pub TakesFor : Scenario → Command → (ℕ → Type 0) → Type 0
TakesFor s c Takes = (text : List ℕ) → PassesAll s c → IsOutputSoFar s c text → Takes (length text)

-- these lines have the text, and claim what they should
pub record ClaimsIn (s : Scenario) (c : Command) (text : List ℕ) : Type 0 where
  pub lines : List Line
  pub text_is : text ≡ report_text lines
  pub claims : Claims s c lines

-- all lines that have the text claim what they should
abbrev pub HasClaims : Scenario → Command → List ℕ → Type 0
HasClaims s c text = (lines : List Line) → text ≡ report_text lines → Claims s c lines

-- there are pieces for each step
abbrev pub HasSomePieces : Scenario → Command → Type 0
HasSomePieces s c = (pieces : ℕ → List Piece) × ArePieces s c pieces

-- a front of the output or of a beginning was appended, and all of it where the run is done
pub record HasWritten (s : Scenario) (c : Command) (before after : Option (List ℕ)) (status : Status) : Type 0 where
  pub passes : PassesAll s c
  pub pieces : FindsArea c.task → HasSomePieces s c
  pub text : List ℕ
  pub output : IsOutputSoFar s c text
  pub front : List ℕ
  pub back : List ℕ
  pub text_is : front ++ back ≡ text
  pub appends : Appends before after front
  pub whole : IsDone status → IsWhole status s c front
  pub claims : IsDone status → HasClaims s c front

-- what was written, or why nothing was: want of memory may come at any time
abbrev pub Tells : Scenario → Command → Option (List ℕ) → Option (List ℕ) → Status → Type 0
Tells s c before after Open = HasWritten s c before after Open
Tells s c before after (Empty i) = HasWritten s c before after (Empty i)
Tells s c before after WriteFault = HasWritten s c before after WriteFault
Tells s c before after Memory = Unit {0}
Tells s c before after (Refused NoProblem place) = (place ≡ 0) × HasNoProblem s c
Tells s c before after (Refused LateProblem place) = HasLateProblem place s c
Tells s c before after (Refused EgoTooFast place) = HasFastProblem place s c
Tells s c before after (Limit TooManyCells step count) = (step ≡ 0) × HasManyCells count s c
Tells s c before after (Limit LaneTooWide step id) = (step ≡ 0) × HasWideLane id s c
Tells s c before after (Limit TooManyLanePolygons step count) = (step ≡ 0) × HasManyPairs count s c
Tells s c before after (Limit AreaTooWide step count) = HasWideArea step count s c × HasSomePieces s c
Tells s c before after (Limit TooManyBoxes step count) = HasManyBoxes step count s c
Tells s c before after status = ⊥
