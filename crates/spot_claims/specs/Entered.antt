-- A motion that is at a piece of the prediction has entered what is printed, and one that is at a disc has collided.
use Rattle.std.specs.Prelude.{◌≡◌, ℕ, ◌≤◌, List, length}
use Rattle.spot_terms.specs.Avoidance.{IsStruckBy}
use Rattle.spot_terms.specs.Courses.{Course}
use Rattle.spot_terms.specs.Lists.{Includes}
use Rattle.spot_terms.specs.Motions.{State}
use Rattle.spot_terms.specs.Pieces.{Piece, Hits}
use Rattle.spot_terms.specs.Report.{Line}
use Rattle.spot_terms.specs.declared.command.Command.{Command}
use Rattle.spot_terms.specs.declared.command.Task.TheVariants.{Area, Replay}
use Rattle.spot_terms.specs.declared.scenario.Scenario.{Scenario}
use Rattle.spot_claims.specs.AreaOf.{ArePieces}
use Rattle.spot_claims.specs.EgoClaims.{HasEntered, HasCollided}
use Rattle.spot_claims.specs.ReportOf.{IsTraffic}

-- at a piece of a step up to i, where the lines have all of the traffic
abbrev pub StruckIsEntered : Type 0
StruckIsEntered = (s : Scenario) (c : Command) (course : Course) (traffic lines : List Line) (pieces : ℕ → List Piece) (i : ℕ) (states : List State)
    → c.task ≡ Area → 1 ≤ c.steps → i ≤ c.steps → course.k ≡ s.step → IsTraffic s c traffic → ((line : Line) → Includes traffic line → Includes lines line) → ArePieces s c pieces
    → IsStruckBy course (λ j. length (pieces j)) (λ j. Hits (pieces j)) i states → HasEntered s c lines i states

-- at a disc of recorded traffic
abbrev pub StruckIsCollided : Type 0
StruckIsCollided = (s : Scenario) (c : Command) (course : Course) (pieces : ℕ → List Piece) (i : ℕ) (states : List State)
    → c.task ≡ Replay → i ≤ c.steps → course.k ≡ s.step → ArePieces s c pieces
    → IsStruckBy course (λ j. length (pieces j)) (λ j. Hits (pieces j)) i states → HasCollided s c i states
