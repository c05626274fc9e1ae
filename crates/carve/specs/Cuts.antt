-- A set that is cut by runs.
use Rattle.std.specs.Prelude.{◌≡◌, ◌⊎◌, List, [], ◌∷◌, ◌++◌, ℤ}
use Rattle.spot_terms.specs.Avoidance.{IsHeldBy}
use Rattle.spot_terms.specs.BaseSets.{SetValue, HoldsState}
use Rattle.spot_terms.specs.ClippedTo.{places, IsClippedTo, IsClippedAway}
use Rattle.spot_terms.specs.Lists.{Includes}
use Rattle.spot_terms.specs.Motions.{State}
use Rattle.spot_terms.specs.Whole.{Within}
use Rattle.spot_terms.specs.declared.plain.Pt.{Pt}

-- the set with another polygon in the plane of x
abbrev pub with_x : SetValue → List Pt → SetValue
with_x b x = record { col = b.col; row = b.row; x = x; y = b.y }

-- for each run in order what of the set is left in it, where something is
abbrev pub AreCuts : SetValue → List (ℤ × ℤ) → List SetValue → Type 0
AreCuts b [] sets = sets ≡ []
AreCuts b (run ∷ runs) sets = (IsClippedAway (places run.0 run.1) b.x × AreCuts b runs sets)
    ⊎ ((x : List Pt) × (rest : List SetValue) × IsClippedTo (places run.0 run.1) b.x x × AreCuts b runs rest × (sets ≡ with_x b x ∷ rest))

-- each state of the set whose x lies in a run is held by one of the sets
abbrev pub KeepsStates : SetValue → List (ℤ × ℤ) → List SetValue → Type 0
KeepsStates b runs sets = (run : ℤ × ℤ) (s : State) → Includes runs run → HoldsState b s → Within run.0 run.1 s.p.x → IsHeldBy sets s

-- what was added to a list is what of the set is left in the runs
pub record IsCutBy (b : SetValue) (runs : List (ℤ × ℤ)) (old new : List SetValue) : Type 0 where
  pub cuts : List SetValue
  pub added : new ≡ old ++ cuts
  pub exact : AreCuts b runs cuts
  pub keeps : KeepsStates b runs cuts
