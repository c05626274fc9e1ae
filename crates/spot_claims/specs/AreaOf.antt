-- The area of a command and a scenario: its pieces, the lists of its steps, and what is written of them.
use Rattle.std.specs.Prelude.{◌≡◌, ℕ, zero, suc, ◌+◌, ◌<◌, ◌≤◌, List, [], ◌∷◌, ◌++◌, map, length, Some, slice_get, sum_by}
use Rattle.spot_terms.specs.BaseSets.{SetValue}
use Rattle.spot_terms.specs.Cells.{cells}
use Rattle.spot_terms.specs.Courses.{Course, box_at}
use Rattle.spot_terms.specs.Drawings.{shape_of, drawing_text}
use Rattle.spot_terms.specs.OccupiedPieces.{Occupant, AreOccupants, predicted_pieces, discs, recorded_pieces}
use Rattle.spot_terms.specs.Participants.{HasPairs}
use Rattle.spot_terms.specs.Pieces.{Piece, Hits, range_of}
use Rattle.spot_terms.specs.Report.{Line, head_line, time_line, ego_line, disc_line, set_line, count_line, last_line}
use Rattle.spot_terms.specs.RowBoxes.{HasTooManyBoxes, IsWithinArea}
use Rattle.spot_terms.specs.StepLists.{IsNextList, IsFirstList, AreStepLists}
use Rattle.spot_terms.specs.Summaries.{summary_text}
use Rattle.spot_terms.specs.declared.command.Command.{Command}
use Rattle.spot_terms.specs.declared.command.Task.{Task}
use Rattle.spot_terms.specs.declared.command.Task.TheVariants.{Replay}
use Rattle.spot_terms.specs.declared.lines.End.{End}
use Rattle.spot_terms.specs.declared.lines.Mode.TheVariants as mode
use Rattle.spot_terms.specs.declared.plain.Disc.{Disc}
use Rattle.spot_terms.specs.declared.plain.Pt.{Pt}
use Rattle.spot_terms.specs.declared.scenario.Problem.{Problem}
use Rattle.spot_terms.specs.declared.scenario.Scenario.{Scenario}
use Rattle.spot_claims.specs.Problems.{ego_radius, IsChosen, course_of, ego_of}
use Rattle.spot_claims.specs.ReportOf.{IsTraffic}

-- the pieces of each step up to the last: where traffic is recorded its discs, and else those of the prediction
abbrev pub ArePieces : Scenario → Command → (ℕ → List Piece) → Type 0
ArePieces s c pieces = are c.task
  where
    are : Task → Type 0
    are Replay = (i : ℕ) → i ≤ c.steps → pieces i ≡ recorded_pieces s (ego_radius c) i
    are task = (occupants : List Occupant) × AreOccupants s c.steps occupants × ((i : ℕ) → i ≤ c.steps → pieces i ≡ predicted_pieces s occupants i)

-- no step is too wide or has too many row boxes
abbrev pub IsWithinAreaOver : Course → ℕ → (ℕ → List Piece) → Type 0
IsWithinAreaOver course n pieces = IsWithinArea course (λ i. length (pieces i)) (λ i. range_of (pieces i)) n

abbrev pub HasTooManyBoxesOver : Course → ℕ → (ℕ → List Piece) → ℕ → ℕ → Type 0
HasTooManyBoxesOver course n pieces i boxes = HasTooManyBoxes course (λ i. length (pieces i)) (λ i. range_of (pieces i)) n i boxes

-- a run of the area: its problem, the pieces and the sets of each step that is made, and how it ends
pub record IsRun (s : Scenario) (c : Command) (problem : Problem) (pieces : ℕ → List Piece) (lists : List (List SetValue)) (end : End) : Type 0 where
  pub chosen : IsChosen s c problem
  pub pieces_are : ArePieces s c pieces
  pub lists_are : AreStepLists (course_of s c problem) (λ i. length (pieces i)) (λ i. Hits (pieces i)) c.steps lists end

-- ---- the report

-- the lines of a step: its discs, where traffic is recorded, its sets, and how many they are
abbrev pub step_lines : ℕ → List Disc → List SetValue → List Line
step_lines i recorded sets = map (λ d. disc_line i d.id d.p d.r) recorded ++ map (set_line i) sets ++ count_line i (length sets) ∷ []

-- of the steps from i on
abbrev pub lines_from : (ℕ → List Disc) → ℕ → List (List SetValue) → List Line
lines_from recorded i [] = []
lines_from recorded i (sets ∷ lists) = step_lines i (recorded i) sets ++ lines_from recorded (i + 1) lists

-- the ego, the steps that are made, and the end
abbrev pub area_lines : Problem → Course → (ℕ → List Disc) → List (List SetValue) → End → List Line
area_lines problem course recorded lists end = ego_line (ego_of problem course) ∷ lines_from recorded 0 lists ++ last_line end ∷ []

-- the report of the occupancies and of the area that avoids them
pub record IsAreaReport (s : Scenario) (c : Command) (lines : List Line) (end : End) : Type 0 where
  pub traffic : List Line
  pub traffic_is : IsTraffic s c traffic
  pub problem : Problem
  pub pieces : ℕ → List Piece
  pub lists : List (List SetValue)
  pub run : IsRun s c problem pieces lists end
  pub lines_are : lines ≡ head_line mode.Area ∷ time_line s.step c.steps ∷ traffic ++ area_lines problem (course_of s c problem) (λ i. []) lists end

-- the report of the area that avoids recorded traffic
pub record IsReplayReport (s : Scenario) (c : Command) (lines : List Line) (end : End) : Type 0 where
  pub problem : Problem
  pub pieces : ℕ → List Piece
  pub lists : List (List SetValue)
  pub run : IsRun s c problem pieces lists end
  pub lines_are : lines ≡ head_line mode.Replay ∷ time_line s.step c.steps ∷ area_lines problem (course_of s c problem) (discs s (ego_radius c)) lists end

-- ---- what is written before the last step is made

module _ (course : Course) (count : ℕ → ℕ) (Hits : ℕ → ℕ → Pt → Type 0) where
  -- lists that follow that of step i, where step n is the last: there may be more of them
  abbrev pub FollowSoFar : ℕ → ℕ → List SetValue → List (List SetValue) → Type 0
  FollowSoFar n i sets [] = Unit {0}
  FollowSoFar n i [] (next ∷ later) = ⊥
  FollowSoFar n i (b ∷ sets) (next ∷ later) = (i < n) × IsNextList course (suc i) (b ∷ sets) (count (suc i)) (Hits (suc i)) next × FollowSoFar n (suc i) next later

  -- the lists of the first steps, from step 0 on
  abbrev pub AreListsSoFar : ℕ → List (List SetValue) → Type 0
  AreListsSoFar n [] = ⊥
  AreListsSoFar n (first ∷ later) = IsFirstList course count Hits first × FollowSoFar n 0 first later

-- a run as far as its steps are made
pub record IsRunSoFar (s : Scenario) (c : Command) (problem : Problem) (pieces : ℕ → List Piece) (lists : List (List SetValue)) : Type 0 where
  pub chosen : IsChosen s c problem
  pub pieces_are : ArePieces s c pieces
  pub lists_are : AreListsSoFar (course_of s c problem) (λ i. length (pieces i)) (λ i. Hits (pieces i)) c.steps lists

-- the ego and the first steps
abbrev pub lines_so_far : Problem → Course → (ℕ → List Disc) → List (List SetValue) → List Line
lines_so_far problem course recorded lists = ego_line (ego_of problem course) ∷ lines_from recorded 0 lists

-- the report up to a step
pub record IsAreaBeginning (s : Scenario) (c : Command) (lines : List Line) : Type 0 where
  pub traffic : List Line
  pub traffic_is : IsTraffic s c traffic
  pub problem : Problem
  pub pieces : ℕ → List Piece
  pub lists : List (List SetValue)
  pub run : IsRunSoFar s c problem pieces lists
  pub lines_are : lines ≡ head_line mode.Area ∷ time_line s.step c.steps ∷ traffic ++ lines_so_far problem (course_of s c problem) (λ i. []) lists

-- the same where traffic is recorded
pub record IsReplayBeginning (s : Scenario) (c : Command) (lines : List Line) : Type 0 where
  pub problem : Problem
  pub pieces : ℕ → List Piece
  pub lists : List (List SetValue)
  pub run : IsRunSoFar s c problem pieces lists
  pub lines_are : lines ≡ head_line mode.Replay ∷ time_line s.step c.steps ∷ lines_so_far problem (course_of s c problem) (discs s (ego_radius c)) lists

-- ---- the drawing, of the last step that is made

pub record IsDrawing (s : Scenario) (c : Command) (text : List ℕ) (end : End) : Type 0 where
  pub problem : Problem
  pub pieces : ℕ → List Piece
  pub lists : List (List SetValue)
  pub run : IsRun s c problem pieces lists end
  pub last : ℕ
  pub last_is : last + 1 ≡ length lists
  pub sets : List SetValue
  pub sets_are : slice_get lists last ≡ Some sets
  pub text_is : text ≡ drawing_text (box_at (course_of s c problem) last) (map shape_of (pieces last)) sets

-- ---- the summary of a made scenario, whose text has so many bytes

pub record IsSummary (s : Scenario) (c : Command) (bytes : ℕ) (text : List ℕ) (end : End) : Type 0 where
  pub problem : Problem
  pub pieces : ℕ → List Piece
  pub lists : List (List SetValue)
  pub run : IsRun s c problem pieces lists end
  pub polygons : ℕ
  pub polygons_are : HasPairs s c.steps polygons
  pub text_is : text ≡ summary_text (record {
    seed = c.seed;
    lanes = c.lanes;
    movers = c.movers;
    bytes = bytes;
    cells = length (cells s.lanelets.entries);
    polygons = polygons;
    sets = sum_by length lists;
    end = end;
  })
