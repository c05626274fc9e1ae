-- What is found at elements where something may be missing or wrong: values, or that there are none.
use Rattle.std.specs.Prelude.{◌≤◌, pos, ℕ, ℤ, List, Option, Some, None, codes}
use Rattle.std.specs.List.{AllByRecursion}
use Rattle.spot_terms.specs.Decimal.{Reads}
use Rattle.spot_terms.specs.Lists.{Includes, Pairwise}
use Rattle.spot_terms.specs.Whole.{Within, SizeAtMost}
use Rattle.spot_terms.specs.Ranges.{IsPairInRange, IsLaneInRange}
use Rattle.spot_terms.specs.declared.limits.TheConstants.{MOST_COORDINATE, MOST_TIME}
use Rattle.spot_terms.specs.declared.plain.Pt.{Pt}
use Rattle.spot_terms.specs.declared.scenario.RawLane.{RawLane}
use Rattle.spot_claims.specs.Tree.{Element}
use Rattle.spot_claims.specs.Paths.{at_path, lanelets, dynamics}
use Rattle.spot_claims.specs.Profile.{Number, IsAccepted, step_number}
use Rattle.spot_claims.specs.Radii.{Holds, HoldsPt}
use Rattle.spot_claims.specs.Scenario.{IsPair, IsLane, HoldsExact, HoldsPosition, IsRecorded, recorded_of}
use Rattle.scenario.specs.Has.{IsGood, HasNumber, HasPoint, HasExact, HasPosition, HasRecorded, HasMover, AllRecorded, later_states, HasPoints, HasBounds, HasLane, AllBounds}
use Rattle.scenario.specs.Lanes.{IsLaneAt, AreInRange}

-- z is the number that a text says, in its range
pub record SaysNumber (n : Number) (text : List ℕ) (z : ℤ) : Type 0 where
  pub good : IsGood n text
  pub reads : Reads n.places text z
  pub within : Within n.least n.most z

abbrev pub ReadsNumber : Number → List ℕ → Option ℤ → Type 0
ReadsNumber n text None = IsGood n text → ⊥
ReadsNumber n text (Some z) = SaysNumber n text z

-- z is the number in the first child of a name
pub record IsNumberAt (tree : List Element) (e : ℕ) (name : List ℕ) (n : Number) (z : ℤ) : Type 0 where
  pub has : HasNumber tree e name n
  pub holds : Holds tree e name n.places z
  pub within : Within n.least n.most z

abbrev pub FindsNumber : List Element → ℕ → List ℕ → Number → Option ℤ → Type 0
FindsNumber tree e name n None = HasNumber tree e name n → ⊥
FindsNumber tree e name n (Some z) = IsNumberAt tree e name n z

-- p is the point in the children x and y
pub record IsPointAt (tree : List Element) (e : ℕ) (n : Number) (p : Pt) : Type 0 where
  pub has : HasPoint tree e n
  pub holds : HoldsPt tree e p
  pub x_within : Within n.least n.most p.x
  pub y_within : Within n.least n.most p.y

abbrev pub FindsPoint : List Element → ℕ → Number → Option Pt → Type 0
FindsPoint tree e n None = HasPoint tree e n → ⊥
FindsPoint tree e n (Some p) = IsPointAt tree e n p

-- p is the point of the position of a state
pub record IsPositionAt (tree : List Element) (e : ℕ) (p : Pt) : Type 0 where
  pub has : HasPosition tree e
  pub holds : HoldsPosition tree e p.x p.y
  pub x_within : SizeAtMost MOST_COORDINATE p.x
  pub y_within : SizeAtMost MOST_COORDINATE p.y

abbrev pub FindsPosition : List Element → ℕ → Option Pt → Type 0
FindsPosition tree e None = HasPosition tree e → ⊥
FindsPosition tree e (Some p) = IsPositionAt tree e p

-- z is the number in `exact` in the first child of a name
pub record IsExactAt (tree : List Element) (e : ℕ) (name : List ℕ) (n : Number) (z : ℤ) : Type 0 where
  pub has : HasExact tree e name n
  pub holds : HoldsExact tree e name n.places z
  pub within : Within n.least n.most z

abbrev pub FindsExact : List Element → ℕ → List ℕ → Number → Option ℤ → Type 0
FindsExact tree e name n None = HasExact tree e name n → ⊥
FindsExact tree e name n (Some z) = IsExactAt tree e name n z

-- t is the time of a state, in steps
pub record IsTimeAt (tree : List Element) (e t : ℕ) : Type 0 where
  pub has : HasExact tree e (codes "time") step_number
  pub holds : HoldsExact tree e (codes "time") 0 (pos t)
  pub few : t ≤ MOST_TIME

abbrev pub FindsTime : List Element → ℕ → Option ℕ → Type 0
FindsTime tree e None = HasExact tree e (codes "time") step_number → ⊥
FindsTime tree e (Some t) = IsTimeAt tree e t

-- what is recorded of a state
pub record IsStateAt (tree : List Element) (e : ℕ) (r : ℕ × ℤ × ℤ) : Type 0 where
  pub has : HasRecorded tree e
  pub is : IsRecorded tree e r

abbrev pub FindsState : List Element → ℕ → Option (ℕ × ℤ × ℤ) → Type 0
FindsState tree e None = HasRecorded tree e → ⊥
FindsState tree e (Some r) = IsStateAt tree e r

-- what is recorded of a dynamic obstacle
abbrev pub IsTrack : List Element → ℕ → List (ℕ × ℤ × ℤ) → Type 0
IsTrack tree e states = Pairwise (IsRecorded tree) (recorded_of tree e) states

-- all that is read of the states of the first trajectory
abbrev pub HasStates : List Element → ℕ → Type 0
HasStates tree e = (n : ℕ) → Includes (later_states tree e) n → HasRecorded tree n

-- the same, of states that have all that is read of them
pub record IsWholeTrack (tree : List Element) (e : ℕ) (states : List (ℕ × ℤ × ℤ)) : Type 0 where
  pub has : HasStates tree e
  pub is : IsTrack tree e states

abbrev pub FindsTrack : List Element → ℕ → Option (List (ℕ × ℤ × ℤ)) → Type 0
FindsTrack tree e None = HasMover tree e → ⊥
FindsTrack tree e (Some states) = IsWholeTrack tree e states

-- the same of all dynamic obstacles
pub record AreWholeTracks (tree : List Element) (tracks : List (List (ℕ × ℤ × ℤ))) : Type 0 where
  pub has : AllRecorded tree
  pub are : Pairwise (IsTrack tree) (at_path tree dynamics) tracks

abbrev pub FindsTracks : List Element → Option (List (List (ℕ × ℤ × ℤ))) → Type 0
FindsTracks tree None = IsAccepted tree → ⊥
FindsTracks tree (Some tracks) = AreWholeTracks tree tracks

-- the points of elements
pub record ArePointsAt (tree : List Element) (es : List ℕ) (points : List (ℤ × ℤ)) : Type 0 where
  pub has : HasPoints tree es
  pub are : Pairwise (IsPair tree) es points
  pub within : AllByRecursion IsPairInRange points

abbrev pub FindsPoints : List Element → List ℕ → Option (List (ℤ × ℤ)) → Type 0
FindsPoints tree es None = HasPoints tree es → ⊥
FindsPoints tree es (Some points) = ArePointsAt tree es points

-- the lanelet of an element, whose points are all there
pub record IsWholeLane (tree : List Element) (e : ℕ) (l : RawLane) : Type 0 where
  pub has : HasBounds tree e
  pub is : IsLaneAt tree e l
  pub within : IsLaneInRange l

abbrev pub FindsLane : List Element → ℕ → Option RawLane → Type 0
FindsLane tree e None = HasLane tree e → ⊥
FindsLane tree e (Some l) = IsWholeLane tree e l

-- the lanelets of a tree by their ids, whose points are all there
pub record AreWholeLanes (tree : List Element) (entries : List (ℕ × RawLane)) : Type 0 where
  pub has : AllBounds tree
  pub are : Pairwise (IsLane tree) (at_path tree lanelets) entries
  pub within : AreInRange entries

abbrev pub FindsLanes : List Element → Option (List (ℕ × RawLane)) → Type 0
FindsLanes tree None = IsAccepted tree → ⊥
FindsLanes tree (Some entries) = AreWholeLanes tree entries
