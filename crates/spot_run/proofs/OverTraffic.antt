-- The area of an ego over the predicted traffic of its scenario: its pieces, and that all stages are passed.
use Rattle.std.proofs.Common.{◌≡◌, subst, arith}
use Rattle.spot_terms.specs.Courses.{Course}
use Rattle.spot_terms.specs.Ranges.{IsCommandInRange}
use Rattle.spot_terms.specs.RowBoxes.{IsWithinArea}
use Rattle.spot_terms.specs.Tasks.{PredictsTraffic, FindsArea}
use Rattle.spot_terms.specs.declared.command.Command.{Command}
use Rattle.spot_terms.specs.declared.scenario.Scenario.{Scenario}
use Rattle.base_sets.specs.Values.{course_with}
use Rattle.participants.specs.Pieces.{pieces_at}
use Rattle.participants.specs.Predictions.{Occupancies}
use Rattle.text_report.specs.declared.ego_line.EgoLine.{EgoLine}
use Rattle.spot_claims.specs.AreaOf.{ArePieces}
use Rattle.spot_claims.specs.Outcomes.{PassesAll}
use Rattle.spot_claims.specs.Problems.{course_of}
use Rattle.spot_claims.specs.Stages.{PassesToArea}
use Rattle.spot_claims.proofs.OneReport.{pieces_of_traffic, traffic_same}
use Rattle.area_report.specs.Egos.{HasEgo}
use Rattle.area_report.proofs.Egos.{fits_of}
use Rattle.spot_run.specs.Areas.{count_at, range_at, CanOpen}
use Rattle.spot_run.specs.Tells.{HasSomePieces}
use Rattle.spot_run.specs.Writes.{IsPredicted}
use Rattle.spot_run.proofs.AreaTells.{passes_problem, passes_over}
use Rattle.spot_run.proofs.Predictions.{within_traffic}

-- a run can be opened over the prediction
pub can_open : (s : Scenario) (c : Command) (e : EgoLine) (o : Occupancies) → HasEgo s c e → IsPredicted s c.steps o → IsCommandInRange c → CanOpen s o.steps 40_000_000_000_000 e c.steps
can_open s c e o ego predicted few = record {
  start = ego.is.start;
  bounds = ego.is.bounds;
  grid = ego.is.grid;
  ticks = (s.in_range.step_low, s.in_range.step_high);
  fits = fits_of s c ego.problem e ego.is ego.slow;
  few = few.steps.1;
  last_in = omega (arith, predicted.is.horizon);
  far_out = omega arith;
}

-- the ego of the command, and the prediction of the scenario
module _ (s : Scenario) (c : Command) (finds : FindsArea c.task) (predicts : PredictsTraffic c.task) (e : EgoLine) (o : Occupancies) (ego : HasEgo s c e) (predicted : IsPredicted s c.steps o) where
  -- the course of the ego
  pub course_is : course_with e.s e.e e.grid s.step ≡ course_of s c ego.problem
  course_is = ego.is.course s

  pub over_course : (P : Course → Type 0) → P (course_with e.s e.e e.grid s.step) → P (course_of s c ego.problem)
  over_course P h = subst P course_is h

  pub pieces_are : ArePieces s c (pieces_at o)
  pieces_are = pieces_of_traffic s c (pieces_at o) predicted.pieces.occupants predicts predicted.pieces.occupants_are predicted.pieces.pieces

  pub some_pieces : HasSomePieces s c
  some_pieces = (pieces_at o, pieces_are)

  pub passes_to_area : PassesToArea s c ego.problem
  passes_to_area = record { finds = finds; passing = passes_problem s c e ego; chosen = ego.is_chosen; traffic = λ predicts. within_traffic s c o predicted }

  pub passes_all : IsWithinArea (course_with e.s e.e e.grid s.step) (count_at o) (range_at o) c.steps → PassesAll s c
  passes_all h = passes_over s c e ego (pieces_at o) (λ pieces are. traffic_same s c (pieces_at o) pieces predicts pieces_are are) (λ predicts. within_traffic s c o predicted) h
