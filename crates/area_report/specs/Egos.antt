-- The ego of a command's problem.
use Rattle.std.specs.Prelude.{◌≡◌, ℕ, ◌<◌, None}
use Rattle.spot_terms.specs.declared.command.Command.{Command}
use Rattle.spot_terms.specs.declared.scenario.Problem.{Problem}
use Rattle.spot_terms.specs.declared.scenario.Scenario.{Scenario}
use Rattle.spot_terms.specs.declared.status.Code.TheVariants.{NoProblem, LateProblem, EgoTooFast}
use Rattle.spot_terms.specs.declared.status.Status.{Status}
use Rattle.spot_terms.specs.declared.status.Status.TheVariants.{Refused}
use Rattle.base_sets.specs.Values.{AreBounds, IsEgoStart, IsGrid, course_with}
use Rattle.text_report.specs.declared.ego_line.EgoLine.{EgoLine}
use Rattle.spot_claims.specs.AreaCovers.{HasVelocities}
use Rattle.spot_claims.specs.Problems.{chosen, IsChosen, IsSlowEnough, course_of}

-- the ego's start, bounds and grid are those of the problem and the command, and its box has each velocity of the start
pub record IsEgoOf (c : Command) (p : Problem) (e : EgoLine) : Type 0 where
  pub problem : e.problem ≡ p.id
  pub course : (s : Scenario) → course_with e.s e.e e.grid s.step ≡ course_of s c p
  pub start : IsEgoStart e.s
  pub bounds : AreBounds e.e
  pub grid : IsGrid e.grid
  pub velocities : HasVelocities p

-- the ego is that of the chosen problem, which passes
pub record HasEgo (s : Scenario) (c : Command) (e : EgoLine) : Type 0 where
  pub problem : Problem
  pub is_chosen : IsChosen s c problem
  pub at_start : problem.time ≡ 0
  pub slow : IsSlowEnough c problem
  pub is : IsEgoOf c problem e

-- the problem begins late
pub record IsLate (s : Scenario) (c : Command) (place : ℕ) : Type 0 where
  pub problem : Problem
  pub is_chosen : IsChosen s c problem
  pub late : 0 < problem.time
  pub place_is : place ≡ problem.place

-- it doesn't, and a speed of its start is above the ego's
pub record IsFast (s : Scenario) (c : Command) (place : ℕ) : Type 0 where
  pub problem : Problem
  pub is_chosen : IsChosen s c problem
  pub at_start : problem.time ≡ 0
  pub fast : IsSlowEnough c problem → ⊥
  pub place_is : place ≡ problem.place

-- why a command's problem is refused
abbrev pub IsProblemFault : Scenario → Command → Status → Type 0
IsProblemFault s c (Refused NoProblem place) = (place ≡ 0) × (chosen c.problem s.problems ≡ None)
IsProblemFault s c (Refused LateProblem place) = IsLate s c place
IsProblemFault s c (Refused EgoTooFast place) = IsFast s c place
IsProblemFault s c status = ⊥
