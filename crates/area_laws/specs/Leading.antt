-- What a state of the ego can be a step later, and what the sets of a step hold of it.
use Rattle.std.specs.Prelude.{◌⊎◌, ℕ, List}
use Rattle.spot_terms.specs.Avoidance.{IsHeldBy}
use Rattle.spot_terms.specs.BaseSets.{SetValue, HoldsState, InRect}
use Rattle.spot_terms.specs.Courses.{Course, box_at}
use Rattle.spot_terms.specs.Grid.{slot, IsRemoved}
use Rattle.spot_terms.specs.Lists.{Includes}
use Rattle.spot_terms.specs.Motions.{State}
use Rattle.spot_terms.specs.declared.plain.Pt.{Pt}
use Rattle.propagate.specs.Children.{IsNext}

-- t can come a step after s, and its place is in the outer box of step i
pub record IsNextState (course : Course) (i : ℕ) (s t : State) : Type 0 where
  pub next : IsNext course s t
  pub in_box : InRect (box_at course i) t.p

-- ---- over the pieces of a step

module _ (course : Course) (count : ℕ) (Hits : ℕ → Pt → Type 0) where
  -- the place is removed in its row
  abbrev pub IsPlaceRemoved : Pt → Type 0
  IsPlaceRemoved p = IsRemoved count Hits course.g (slot course.g p.y) p.x

  -- the state's place is removed, or one of the sets holds the state
  abbrev pub IsRemovedOrHeld : List SetValue → State → Type 0
  IsRemovedOrHeld sets t = IsPlaceRemoved t.p ⊎ IsHeldBy sets t

  -- the sets of step i hold each next state of a state that the sets before hold, but where it is removed
  abbrev pub LeadsOn : ℕ → List SetValue → List SetValue → Type 0
  LeadsOn i before after = (b : SetValue) (s t : State) → Includes before b → HoldsState b s → IsNextState course i s t → IsRemovedOrHeld after t
