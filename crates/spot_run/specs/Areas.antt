-- What writing the area of a scenario's ego asks of the sink, and what it answers.
use Rattle.std.specs.Prelude.{◌≡◌, ℕ, ◌+◌, ◌≤◌, List, [], ◌∷◌, ◌++◌, length, Option, Result, OnOk, OnErr, ℤ}
use Rattle.std.specs.Io.KnownBytes.{Appends}
use Rattle.spot_terms.specs.BaseSets.{SetValue}
use Rattle.spot_terms.specs.Causes.{HasCause, AppendsFront}
use Rattle.spot_terms.specs.Courses.{Course}
use Rattle.spot_terms.specs.EgoMotions.{FitsBound}
use Rattle.spot_terms.specs.OccupiedPieces.{discs}
use Rattle.spot_terms.specs.Pieces.{Hits, range_of}
use Rattle.spot_terms.specs.Report.{head_line, time_line, ego_line, report_text}
use Rattle.spot_terms.specs.RowBoxes.{IsNarrow, IsAreaTooWide, HasTooManyBoxes}
use Rattle.spot_terms.specs.StepLists.{AreStepLists}
use Rattle.spot_terms.specs.declared.command.Command.{Command}
use Rattle.spot_terms.specs.declared.limits.TheConstants.{MOST_STEPS}
use Rattle.spot_terms.specs.declared.lines.End.{End}
use Rattle.spot_terms.specs.declared.lines.Mode.TheVariants as mode
use Rattle.spot_terms.specs.declared.plain.Disc.{Disc}
use Rattle.spot_terms.specs.declared.plain.Pt.{Pt}
use Rattle.spot_terms.specs.declared.scenario.Scenario.{Scenario}
use Rattle.spot_terms.specs.declared.status.Status.{Status}
use Rattle.spot_terms.specs.declared.status.Status.TheVariants.{Open, Empty, Limit, Memory}
use Rattle.spot_terms.specs.declared.status.Which.TheVariants.{AreaTooWide, TooManyBoxes}
use Rattle.spot_io.specs.declared.traits.Sink.{Ghosts as Sink}
use Rattle.base_sets.specs.Values.{AreBounds, AreTicks, IsEgoStart, IsGrid}
use Rattle.replay_sets.specs.Discs.{DiscLists, discs_at, pieces_at as discs_pieces}
use Rattle.participants.specs.Pieces.{pieces_at}
use Rattle.participants.specs.Predictions.{Occupancies}
use Rattle.text_report.specs.Values.{ego_value}
use Rattle.text_report.specs.declared.ego_line.EgoLine.{EgoLine}
use Rattle.area_report.specs.Areas.{AreShort, whole_text, IsStepsText, AllHold, IsEnd}
use Rattle.spot_claims.specs.Problems.{ego_radius}
use Rattle.spot_run.specs.Lines.{opening_lines}

-- ---- the pieces of a prediction at each step

abbrev pub count_at : Occupancies → ℕ → ℕ
count_at o i = length (pieces_at o i)

abbrev pub hits_at : Occupancies → ℕ → ℕ → Pt → Type 0
hits_at o i p q = Hits (pieces_at o i) p q

abbrev pub range_at : Occupancies → ℕ → ℕ → ℤ × ℤ
range_at o i p = range_of (pieces_at o i) p

-- ---- the discs of recorded traffic

abbrev pub discs_count : DiscLists → ℕ → ℕ
discs_count r i = length (discs_pieces r i)

abbrev pub discs_hits : DiscLists → ℕ → ℕ → Pt → Type 0
discs_hits r i p q = Hits (discs_pieces r i) p q

abbrev pub discs_range : DiscLists → ℕ → ℕ → ℤ × ℤ
discs_range r i p = range_of (discs_pieces r i) p

-- the discs of each step up to the last one, for the ego of the command
pub record IsRecorded (s : Scenario) (c : Command) (r : DiscLists) : Type 0 where
  pub long : length r ≡ c.steps + 1
  pub discs_are : (i : ℕ) → i ≤ c.steps → discs_at r i ≡ discs s (ego_radius c) i

-- ---- a run of the ego

-- the ego and the ticks are in their ranges, no start speed is above the bound, and the pieces may be asked for at all of the
-- steps and as far as the ego comes
pub record CanOpen (s : Scenario) (last far : ℕ) (e : EgoLine) (steps : ℕ) : Type 0 where
  pub start : IsEgoStart e.s
  pub bounds : AreBounds e.e
  pub grid : IsGrid e.grid
  pub ticks : AreTicks s.step
  pub fits : FitsBound e.s.b e.e.v
  pub few : steps ≤ MOST_STEPS
  pub last_in : steps ≤ last
  pub far_out : 35_000_000_000_000 ≤ far

-- why there is no run up to step n: the limit that is passed; want of memory may come at any time
abbrev pub IsPastArea : Course → (ℕ → ℕ) → (ℕ → ℕ → ℤ × ℤ) → ℕ → Status → Type 0
IsPastArea course count range n (Limit AreaTooWide step cells) = IsAreaTooWide course n step cells
IsPastArea course count range n (Limit TooManyBoxes step boxes) = IsNarrow course n × HasTooManyBoxes course count range n step boxes
IsPastArea course count range n Memory = Unit {0}
IsPastArea course count range n status = ⊥

-- the status of a run that is done: empty at the step where it stands, if this has no set, and else open
abbrev pub StatusAt : ℕ → List SetValue → Status → Type 0
StatusAt at [] status = status ≡ Empty at
StatusAt at (b ∷ sets) status = status ≡ Open

-- ---- what is written

-- what stands before the first step: the mode, the time, the lines of all obstacles, and the ego
abbrev pub opening_text : Scenario → ℕ → Occupancies → EgoLine → List ℕ
opening_text s steps o e = report_text (opening_lines mode.Area s.step steps s.movers o ++ ego_line (ego_value e) ∷ [])

-- the same where traffic is recorded: its discs stand with the steps
abbrev pub replay_opening : Scenario → ℕ → EgoLine → List ℕ
replay_opening s steps e = report_text (head_line mode.Replay ∷ time_line s.step steps ∷ ego_line (ego_value e) ∷ [])

-- over a run whose last step is n, behind what stands before its first step, and the discs that are recorded for each step
module _ (opening : List ℕ) (recorded : ℕ → List Disc) (course : Course) (count : ℕ → ℕ) (Hits : ℕ → ℕ → Pt → Type 0) (n : ℕ) where
  -- the text of all steps that are made was appended, and of the end at which the run stands
  pub record HasWrittenAll (before after : Option (List ℕ)) (at : ℕ) (sets : List SetValue) : Type 0 where
    pub lists : List (List SetValue)
    pub end : End
    pub lists_are : AreStepLists course count Hits n lists end
    pub short : AreShort lists
    pub hold : AllHold course count Hits n lists
    pub end_is : IsEnd at sets end
    pub appends : Appends before after (opening ++ whole_text recorded lists end)

  -- a front of it was, or of what stands up to one of the steps
  abbrev pub HasBegun : Option (List ℕ) → Option (List ℕ) → Type 0
  HasBegun before after = (text : List ℕ) × IsStepsText recorded course count Hits n text × AppendsFront before after (opening ++ text)

  -- of a sink before and after: at Ok the run stands at its last step, and all was appended
  pub record WritesBehind {K T E : Type 0} (sink : Sink K) (old new : K) (at : ℕ) (sets : List SetValue) (result : Result T E) : Type 0 where
    pub ok : OnOk result (HasWrittenAll (sink.written old) (sink.written new) at sets)
    pub err : OnErr result (HasBegun (sink.written old) (sink.written new))
    pub cause : HasCause (sink.faults old) (sink.faults new) result
