-- The table of the code in the words of the profile.
use Rattle.std.specs.Prelude.{ℕ, List, [], ◌∷◌, map}
use Rattle.std.specs.Borrow.{Bor}
use Rattle.spot_claims.specs.Paths as paths
use Rattle.spot_claims.specs.Paths.{each_child, first_child, lanelets, problems}
use Rattle.spot_claims.specs.Profile as profile
use Rattle.spot_claims.specs.Profile.{obstacles, wrong_root, wrong_version, no_step_size, bad_step_size, large_step_size, uneven_step_size, bad_id, duplicate_id, too_many, bound_count, lacks_a_child, lacks_each_child, bad_number, out_of_range}
use Rattle.spot_terms.specs.declared.limits.TheConstants.{MOST_OBSTACLES}
use Rattle.scenario.specs.declared.table.Step.{Step}
use Rattle.scenario.specs.declared.table.Step.TheVariants.{Each, First}
use Rattle.scenario.specs.declared.table.Group.{Group}
use Rattle.scenario.specs.declared.table.Group.TheVariants.{Lanelets, Obstacles, Problems}
use Rattle.scenario.specs.declared.table.Unit.{Unit}
use Rattle.scenario.specs.declared.table.Unit.TheVariants.{Whole, Milli, Micro}
use Rattle.scenario.specs.declared.table.Number.{Number}
use Rattle.scenario.specs.declared.table.Check.{Check}
use Rattle.scenario.specs.declared.table.Check.TheVariants.{WrongRoot, WrongVersion, NoStepSize, BadStepSize, LargeStepSize, UnevenStepSize, BadId, DuplicateId, TooMany, BoundCount, LacksAChild, LacksEachChild, BadNumber, OutOfRange}
use Rattle.scenario.specs.declared.table.Line.{Line}

abbrev pub step_of : Step → paths.Step
step_of (Each name) = each_child name.now
step_of (First name) = first_child name.now

abbrev pub text_of : Bor (List ℕ) → List ℕ
text_of t = t.now

abbrev pub path_of : Bor (List Step) → paths.Path
path_of p = map step_of p.now

abbrev pub group_paths : Group → List paths.Path
group_paths Lanelets = lanelets ∷ []
group_paths Obstacles = obstacles
group_paths Problems = problems ∷ []

abbrev pub places_of : Unit → ℕ
places_of Whole = 0
places_of Milli = 3
places_of Micro = 6

abbrev pub number_of : Number → profile.Number
number_of n = record { places = places_of n.unit; least = n.least; most = n.most }

abbrev pub check_of : Check → profile.Check
check_of WrongRoot = wrong_root
check_of WrongVersion = wrong_version
check_of NoStepSize = no_step_size
check_of BadStepSize = bad_step_size
check_of LargeStepSize = large_step_size
check_of UnevenStepSize = uneven_step_size
check_of BadId = bad_id
check_of (DuplicateId group) = duplicate_id (group_paths group)
check_of TooMany = too_many obstacles MOST_OBSTACLES
check_of BoundCount = bound_count
check_of (LacksAChild names) = lacks_a_child (map text_of names.now)
check_of (LacksEachChild code names) = lacks_each_child code (map text_of names.now)
check_of BadNumber = bad_number
check_of (OutOfRange n) = out_of_range (number_of n)

abbrev pub line_of : Line → profile.Line
line_of l = record {
  starts = map path_of l.starts.now;
  ways = map path_of l.ways.now;
  checks = map check_of l.checks.now;
}
