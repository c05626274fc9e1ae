-- Runs over the intervals of a start, and what an interval's octagon holds.
use Rattle.std.specs.Prelude.{◌≡◌, ℕ, ◌+◌, ◌*◌, ◌≤◌, List, ℤ, slice_get, Some}
use Rattle.spot_terms.specs.Bodies.{InDisc}
use Rattle.spot_terms.specs.Motions.{State, IsPlanarMotion}
use Rattle.spot_terms.specs.Reach.{InOctagon}
use Rattle.spot_terms.specs.declared.plain.Pt.{Pt}
use Rattle.spot_terms.specs.declared.plain.AccStart.{AccStart}

-- a start, the ticks of an interval, and the interval that comes next
pub record Run : Type 0 where
  pub start : AccStart
  pub ticks : ℕ
  pub interval : ℕ

-- the octagon holds each whole point of the body of each planar motion at each tick of interval i, both ends included
abbrev pub HoldsBodies : AccStart → ℕ → ℕ → List ℤ → Type 0
HoldsBodies s k i numbers = (states : List State) (t : ℕ) (st : State) (q : Pt) → IsPlanarMotion s.p s.b s.a s.v states → slice_get states t ≡ Some st → i * k ≤ t → t ≤ (i + 1) * k → InDisc s.r st.p q → InOctagon numbers q
