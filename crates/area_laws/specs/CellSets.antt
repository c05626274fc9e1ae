-- The sets of a step cell by cell: by column, then by row.
use Rattle.std.specs.Prelude.{◌≡◌, ◌⊎◌, ℕ, ℤ, ◌<ℤ◌, List, map}
use Rattle.spot_terms.specs.BaseSets.{SetValue, HoldsState}
use Rattle.spot_terms.specs.Courses.{Course}
use Rattle.spot_terms.specs.Grid.{slot}
use Rattle.spot_terms.specs.Lists.{Includes, Ascends}
use Rattle.spot_terms.specs.Motions.{State}
use Rattle.spot_terms.specs.StepLists.{IsCut, ComesBefore}
use Rattle.spot_terms.specs.declared.plain.Pt.{Pt}
use Rattle.area_laws.specs.Leading.{IsNextState, IsRemovedOrHeld}

-- a set with the start of its run
abbrev pub Cut : Type 0
Cut = ℤ × SetValue

abbrev pub sets_of : List Cut → List SetValue
sets_of cuts = map (λ c. c.1) cuts

-- the cell (c, r) comes before the cell (col, row): by column, then by row
abbrev pub IsCellBefore : ℤ → ℤ → ℤ → ℤ → Type 0
IsCellBefore col row c r = (c <ℤ col) ⊎ ((c ≡ col) × (r <ℤ row))

-- it is that cell
abbrev pub IsThisCell : ℤ → ℤ → ℤ → ℤ → Type 0
IsThisCell col row c r = (c ≡ col) × (r ≡ row)

-- over the sets before, and the pieces of step i
module _ (course : Course) (i : ℕ) (before : List SetValue) (count : ℕ) (Hits : ℕ → Pt → Type 0) where
  -- exactly the cuts of some cells, in order
  pub record AreCutsOf (Of : ℤ → ℤ → Type 0) (cuts : List Cut) : Type 0 where
    pub ordered : Ascends (ComesBefore course i before count Hits) cuts
    pub each : (c : Cut) → Includes cuts c → IsCut course i before count Hits c.0 c.1 × Of c.1.col c.1.row
    pub all : (c : Cut) → IsCut course i before count Hits c.0 c.1 → Of c.1.col c.1.row → Includes cuts c

  -- each next state whose place is in one of these cells is removed or held
  abbrev pub HoldIn : (ℤ → ℤ → Type 0) → List SetValue → Type 0
  HoldIn Of sets = (b : SetValue) (s t : State) → Includes before b → HoldsState b s → IsNextState course i s t
      → Of (slot course.w t.p.x) (slot course.g t.p.y) → IsRemovedOrHeld course count Hits sets t

  -- the sets of some cells: exactly their cuts, in order, and no next state is lost there
  pub record AreSetsOf (Of : ℤ → ℤ → Type 0) (sets : List SetValue) : Type 0 where
    pub cuts : List Cut
    pub sets_are : sets ≡ sets_of cuts
    pub are_cuts : AreCutsOf Of cuts
    pub hold : HoldIn Of sets

  -- the sets of all cells that come before (col, row)
  abbrev pub AreSetsBefore : ℤ → ℤ → List SetValue → Type 0
  AreSetsBefore col row sets = AreSetsOf (IsCellBefore col row) sets

  -- the sets of the cell
  abbrev pub AreSetsAt : ℤ → ℤ → List SetValue → Type 0
  AreSetsAt col row sets = AreSetsOf (IsThisCell col row) sets
