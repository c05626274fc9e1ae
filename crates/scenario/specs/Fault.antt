-- The least of the failing checks of a kind.
use Rattle.std.specs.Prelude.{◌≡◌, ◌⊎◌, ◌<◌, ◌≤◌, ◌==◌, ◌&&◌, ◌||◌, ℕ, Bool, nat_lt, List, length, map, Option, Some, None, if◌then◌else◌}
use Rattle.std.specs.Borrow.{Bor}
use Rattle.spot_terms.specs.Lists.{At, Includes}
use Rattle.spot_terms.specs.declared.status.Code.{Code}
use Rattle.spot_claims.specs.Tree.{Element}
use Rattle.spot_claims.specs.Paths.{walk, at_path}
use Rattle.spot_claims.specs.Profile as profile
use Rattle.spot_claims.specs.Profile.{FailsAt, code_of}
use Rattle.scenario.specs.Table.{check_of, path_of}
use Rattle.scenario.specs.declared.table.Check.{Check}
use Rattle.scenario.specs.declared.table.Line.{Line}
use Rattle.scenario.specs.declared.table.Step.{Step}
use Rattle.scenario.specs.declared.fault.Fault.{Fault}

abbrev pub comes_before : Fault → Fault → Bool
comes_before f g = nat_lt f.place g.place || ((f.place == g.place) && nat_lt f.number g.number)

-- f is of the kind, and no other that is comes before it
pub record IsLeastFault (P : ℕ → ℕ → Code → Type 0) (f : Fault) : Type 0 where
  pub holds : P f.place f.number f.code
  pub least : (e j : ℕ) (code : Code) → P e j code → (f.place < e) ⊎ ((e ≡ f.place) × (f.number ≤ j))

abbrev pub Least : (ℕ → ℕ → Code → Type 0) → Option Fault → Type 0
Least P None = (e j : ℕ) (code : Code) → P e j code → ⊥
Least P (Some f) = IsLeastFault P f

abbrev pub least_of : Option Fault → Option Fault → Option Fault
least_of None b = b
least_of (Some f) None = Some f
least_of (Some f) (Some g) = (if comes_before g f then Some g else Some f)

-- a check of these fails at the element x
pub record ChecksFail (tree : List Element) (checks : List Check) (x e j : ℕ) (code : Code) : Type 0 where
  pub same : e ≡ x
  pub check : profile.Check
  pub at : At (map check_of checks) j check
  pub fails : FailsAt tree x check
  pub code_is : code ≡ code_of check

-- one of a list is of the kind that belongs to it
pub record OneOf {X : Type 0} (P : X → ℕ → ℕ → Code → Type 0) (xs : List X) (e j : ℕ) (code : Code) : Type 0 where
  pub item : X
  pub listed : Includes xs item
  pub holds : P item e j code

abbrev pub ElementsFail : List Element → List Check → List ℕ → ℕ → ℕ → Code → Type 0
ElementsFail tree checks es = OneOf (ChecksFail tree checks) es

abbrev pub WaysFail : List Element → List Check → List ℕ → List (Bor (List Step)) → ℕ → ℕ → Code → Type 0
WaysFail tree checks es ways = OneOf (λ way. ElementsFail tree checks (walk tree (path_of way) es)) ways

abbrev pub StartsFail : List Element → Line → ℕ → ℕ → Code → Type 0
StartsFail tree line = OneOf (λ start. WaysFail tree line.checks.now (at_path tree (path_of start)) line.ways.now) line.starts.now

abbrev pub LinesFail : List Element → List Line → ℕ → ℕ → Code → Type 0
LinesFail tree lines = OneOf (StartsFail tree) lines

-- no check of the line fails, if it has one start and several ways, as the lines of the points of lanelets have
abbrev pub NoPointFails : List Element → Line → Type 0
NoPointFails tree line = length line.starts.now ≡ 1 → 1 < length line.ways.now → Least (StartsFail tree line) None

-- no check of the line fails behind a start of three steps, which is the path to recorded states
abbrev pub NoneRecordedFails : List Element → Line → Type 0
NoneRecordedFails tree line = (start : Bor (List Step)) → Includes line.starts.now start → length start.now ≡ 3 → Least (WaysFail tree line.checks.now (at_path tree (path_of start)) line.ways.now) None
